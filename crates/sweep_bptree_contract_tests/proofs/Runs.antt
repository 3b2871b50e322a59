-- Runs of all commands, or of none of them.
use Rattle.std.proofs.Common.{◌≡◌, ℕ, ◌⊎◌, ◌↔◌, inl, inr, ◌<◌, List, [], ◌∷◌, ◌++◌, length, Option, None, Some, refl, sym, ap, ◌∙◌, subst, arith, length-append}
use Rattle.std.specs.Prelude.{IsNone, IsSome}
use Rattle.std.specs.declared.cmp.Ordering.{Ordering}
use Rattle.bptree_commands.specs.Steps.{Run, Step}
use Rattle.bptree_commands.specs.declared.commands.Command.{Command}
use Rattle.bptree_commands.specs.declared.commands.Reply.{Reply}

-- There are as many replies as commands, or there is no reply.
pub all_or_none : {E T : Type 0} {P : Type 0} (error : Option E) (replies : List T) (n all : ℕ) → n ≡ length replies → (IsNone error ↔ (n ≡ all))
    → (IsSome error → (replies ≡ []) × P) → (n ≡ 0) ⊎ (n ≡ all)
all_or_none None replies n all len whole unchanged = inr (whole.0 refl)
all_or_none (Some e) replies n all len whole unchanged = inl (len ∙ ap length (unchanged refl).0)

-- A run of no commands does not fail.
pub none_failed : {E T : Type 0} {P : Type 0} (error : Option E) (replies : List T) (n all : ℕ) → n ≡ length replies → all ≡ 0 → (IsNone error ↔ (n ≡ all))
    → (IsSome error → (replies ≡ []) × P) → error ≡ None
none_failed None replies n all len none whole unchanged = refl
none_failed (Some e) replies n all len none whole unchanged = let is = whole.1 (len ∙ ap length (unchanged refl).0 ∙ sym none) in cc is

-- If there was a command and there is no reply, the run failed.
pub all_failed : {E T : Type 0} {P : Type 0} (error : Option E) (replies : List T) (n all : ℕ) → n ≡ length replies → n ≡ 0 → 0 < all → (IsNone error ↔ (n ≡ all)) → (IsSome error → (replies ≡ []) × P) → P
all_failed None replies n all len none some whole unchanged = absurd (omega (arith, none, some, whole.0 refl))
all_failed (Some e) replies n all len none some whole unchanged = (unchanged refl).1

first_is : {T : Type 0} (a b : T) → a ∷ [] ≡ b ∷ [] → a ≡ b
first_is a b is = cc

module _ {K V Q R : Type 0} (cmp : K → K → Ordering) (selects : Q → List K → Option ℕ → Type 0) (ranks : K → List K → R → Type 0) (old new : List (K × V)) where
  no_run : (held held_after : List K) (commands : List (Command K V Q)) (replies : List (Reply K V R)) → length replies ≡ 0 → Run cmp selects ranks old held commands replies new held_after → new ≡ old
  no_run held held_after [] [] none run = run.0
  no_run held held_after [] (reply ∷ replies) none run = absurd run
  no_run held held_after (command ∷ commands) [] none run = absurd run
  no_run held held_after (command ∷ commands) (reply ∷ replies) none run = absurd (omega (arith, none))

  -- If there is no reply, nothing has changed.
  pub nothing_ran : {E : Type 0} (error : Option E) (commands : List (Command K V Q)) (replies : List (Reply K V R)) → length replies ≡ 0
      → (IsNone error → (held : List K) × Run cmp selects ranks old [] commands replies new held) → (IsSome error → (replies ≡ []) × (new ≡ old)) → new ≡ old
  nothing_ran None commands replies none run unchanged = let r = run refl in no_run [] r.0 commands replies none r.1
  nothing_ran (Some e) commands replies none run unchanged = (unchanged refl).1

  -- A run of one command has one reply.
  step_of : (held held_after : List K) (command : Command K V Q) (replies rest : List (Reply K V R)) (reply : Reply K V R) → replies ≡ rest ++ reply ∷ []
      → Run cmp selects ranks old held (command ∷ []) replies new held_after → Step cmp selects ranks old held command reply new held_after
  step_of held held_after command [] rest reply is run = absurd run
  step_of held held_after command (first ∷ []) [] reply is run = rw (← first_is first reply is, run.3.0, run.3.1) run.2
  step_of held held_after command (first ∷ []) (r ∷ rest) reply is run = absurd (omega (arith, ap length is, length-append rest (reply ∷ [])))
  step_of held held_after command (first ∷ second ∷ replies) rest reply is run = absurd run.3

  pub one_ran : {E : Type 0} (error : Option E) (command : Command K V Q) (commands : List (Command K V Q)) (replies rest : List (Reply K V R)) (reply : Reply K V R)
      → commands ≡ command ∷ [] → replies ≡ rest ++ reply ∷ []
      → (IsNone error → (held : List K) × Run cmp selects ranks old [] commands replies new held) → (IsSome error → (replies ≡ []) × (new ≡ old)) → (held : List K) × Step cmp selects ranks old [] command reply new held
  one_ran None command commands replies rest reply only is run unchanged =
      let r = run refl in
      let P : List (Command K V Q) → Type 0 = λ cs. Run cmp selects ranks old [] cs replies new r.0 in (r.0, step_of [] r.0 command replies rest reply is (subst P only r.1))
  one_ran (Some e) command commands replies rest reply only is run unchanged = absurd (omega (arith, ap length is, ap length (unchanged refl).0, length-append rest (reply ∷ [])))
