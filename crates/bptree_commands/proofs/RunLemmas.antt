-- Lemmas about runs of commands.
use Rattle.std.proofs.Common.{◌≡◌, ℕ, List, [], ◌∷◌, ◌++◌, refl, sym, ap, subst}
use Rattle.std.specs.declared.cmp.Ordering.{Ordering}
use Rattle.std.proofs.Common.{Option, Bool, true, false, Result, Err, IsTrue, ◌↔◌}
use Rattle.bptree_keys.specs.Contents.{has}
use Rattle.bptree_tree.specs.declared.InsertError.{InsertError}
use Rattle.bptree_tree.specs.declared.InsertError.TheVariants.{OutOfMemory, Full}
use Rattle.bptree_tree.specs.Returning.{pair_of}
use Rattle.bptree_commands.specs.Steps.{TreeStep, Step, Run, HasNoRoomFor, reply_to_failure}
use Rattle.bptree_commands.specs.declared.commands.Command.{Command}
use Rattle.bptree_commands.specs.declared.commands.Command.TheVariants.{Insert}
use Rattle.bptree_commands.specs.declared.commands.Reply.{Reply}

-- A run and one more step is a run.
pub Run-more : {K V Q R : Type 0} → (cmp : K → K → Ordering) (selects : Q → List K → Option ℕ → Type 0) (ranks : K → List K → R → Type 0)
    (commands : List (Command K V Q)) (replies : List (Reply K V R)) (old mid new : List (K × V)) (held held_mid held_after : List K) (command : Command K V Q) (reply : Reply K V R)
    → Run cmp selects ranks old held commands replies mid held_mid → Step cmp selects ranks mid held_mid command reply new held_after
    → Run cmp selects ranks old held (commands ++ command ∷ []) (replies ++ reply ∷ []) new held_after
Run-more {K} {V} cmp selects ranks [] [] old mid new held held_mid held_after command reply run step =
    let P : List (K × V) → List K → Type 0 = λ m h. Step cmp selects ranks m h command reply new held_after in
    (new, held_after, subst (λ m. P m held) run.0 (subst (λ h. P mid h) run.1 step), (refl, refl))
Run-more cmp selects ranks [] (r ∷ replies) old mid new held held_mid held_after command reply run step = absurd run
Run-more cmp selects ranks (c ∷ commands) [] old mid new held held_mid held_after command reply run step = absurd run
Run-more cmp selects ranks (c ∷ commands) (r ∷ replies) old mid new held held_mid held_after command reply run step =
    (run.0, run.1, run.2, Run-more cmp selects ranks commands replies run.0 mid new run.1 held_mid held_after command reply run.3 step)

not_there : (b : Bool) → (IsTrue b → false ≡ true) → b ≡ false
not_there true absent = sym (absent refl)
not_there false absent = refl

-- A failed insertion is a step.
pub Step-unchanged : {K V Q R : Type 0} → (cmp : K → K → Ordering) (selects : Q → List K → Option ℕ → Type 0) (ranks : K → List K → R → Type 0) (error : InsertError K V) (old new : List (K × V)) (k : K) (v : V)
    → (pair_of error ≡ (k, v)) × (new ≡ old)
    → (IsTrue (has cmp old k) → false ≡ true)
    → (◌≡◌ {A = Result (Option V) (InsertError K V)} (Err error) (Err (Full k v)) ↔ HasNoRoomFor cmp old k)
    → TreeStep cmp selects ranks old (Insert k v) (reply_to_failure error) new
Step-unchanged cmp selects ranks (OutOfMemory j w) old new k v same absent full = ((λ no_room. cc (full.1 no_room)), not_there (has cmp old k) absent, same.1)
Step-unchanged {K} {V} cmp selects ranks (Full j w) old new k v same absent full =
    let is : ◌≡◌ {A = Result (Option V) (InsertError K V)} (Err (Full j w)) (Err (Full k v)) = ap (λ (p : K × V). Err (Full p.0 p.1)) same.0 in
    (full.0 is, same.1)
