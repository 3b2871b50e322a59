-- The replies to commands, restated from the definition of a step.
use Rattle.std.proofs.Common.{◌≡◌, ℕ, ◌-◌, ◌^◌, ◌<◌, ◌≤◌, ◌⊎◌, inl, inr, List, [], ◌∷◌, ◌++◌, length, length-append, arith, true, false, cond, Option, None, Some, Result, Ok, Err, Vec, Global, refl, ap, subst, ◌∙◌}
use Rattle.std.specs.Prelude.{IfOk, MatchResult}
use Rattle.std.specs.List.{AllZip, slice_get}
use Rattle.std.specs.Map.{keys_of}
use Rattle.std.specs.Ordering.{nat_cmp}
use Rattle.std.specs.declared.cmp.Ordering.{Ordering}
use Rattle.std.proofs.lemmas.Map.Entries.{length-keys_of}
use Rattle.std.proofs.lemmas.Map.Lookups.{exact_unsigned}
use Rattle.bptree_arguments.specs.CountLaws.{SelectsIndex, count_below}
use Rattle.bptree_keys.specs.Contents.{has, value, put}
use Rattle.bptree_keys.specs.Ranges.{between}
use Rattle.bptree_nodes.specs.Leaf.{set_value_at}
use Rattle.bptree_propagation.specs.Borrowing.{written}
use Rattle.bptree_commands.proofs.IndexLemmas.{selected_is}
use Rattle.bptree_commands.specs.Steps.{TreeStep, IsCopyOf}
use Rattle.bptree_commands.specs.declared.commands.Command.TheVariants.{Insert, Get, Set, SetAt, Len, At, Range, Rank as RankOf}
use Rattle.bptree_commands.specs.declared.commands.Reply.{Reply}
use Rattle.bptree_keys.specs.declared.end.End.{End}
use Rattle.bptree_keys.specs.declared.end.End.TheVariants.{Front}
use Rattle.bptree_commands.specs.declared.commands.Reply.TheVariants.{Value, Pair, Number, Done, Rank, Held, Walked, NoCursor, OutOfMemory, Full}

-- What holds of each reply holds of the reply, if there is one.
pub at_reply : {T E : Type 0} (P Q : T → Type 0) (N : E → Type 0) (r : Result T E) → MatchResult r P N → ((reply : T) → P reply → Q reply) → IfOk r Q
at_reply P Q N (Ok reply) fact then = then reply fact
at_reply P Q N (Err e) fact then = tt

module _ {K V Q R : Type 0} (cmp : K → K → Ordering) (selects : Q → List K → Option ℕ → Type 0) (ranks : K → List K → R → Type 0) (old new : List (K × V)) where
  pub got : (k : K) (reply : Reply K V R) → TreeStep cmp selects ranks old (Get k) reply new → (reply ≡ Value (value cmp old k)) × (new ≡ old)
  got k (Value found) step = (ap Value step.0, step.1)
  got k (Pair p) step = absurd step
  got k (Number n) step = absurd step
  got k (Done b) step = absurd step
  got k (Rank r) step = absurd step
  got k (Held m w) step = absurd step
  got k (Walked w) step = absurd step
  got k NoCursor step = absurd step
  got k OutOfMemory step = absurd step
  got k Full step = absurd step

  pub counted : (reply : Reply K V R) → TreeStep cmp selects ranks old Len reply new → (reply ≡ Number (length old)) × (new ≡ old)
  counted (Value v) step = absurd step
  counted (Pair p) step = absurd step
  counted (Number n) step = (ap Number step.0, step.1)
  counted (Done b) step = absurd step
  counted (Rank r) step = absurd step
  counted (Held m w) step = absurd step
  counted (Walked w) step = absurd step
  counted NoCursor step = absurd step
  counted OutOfMemory step = absurd step
  counted Full step = absurd step

  pub inserted : (k : K) (v : V) (reply : Reply K V R) → TreeStep cmp selects ranks old (Insert k v) reply new
      → ((reply ≡ Value (value cmp old k)) × (new ≡ put cmp old k v))
      ⊎ (((reply ≡ OutOfMemory) ⊎ ((reply ≡ Full) × (length old ≡ 2 ^ 64 - 1))) × (has cmp old k ≡ false) × (new ≡ old))
  inserted k v (Value before) step = inl (ap Value step.1, step.2)
  inserted k v (Pair p) step = absurd step
  inserted k v (Number n) step = absurd step
  inserted k v (Done b) step = absurd step
  inserted k v (Rank r) step = absurd step
  inserted k v (Held m w) step = absurd step
  inserted k v (Walked w) step = absurd step
  inserted k v NoCursor step = absurd step
  inserted k v OutOfMemory step = inr (inl refl, step.1, step.2)
  inserted k v Full step = inr (inr (refl, step.0.0), step.0.1, step.1)

  pub set_there : (k : K) (v : V) (reply : Reply K V R) → TreeStep cmp selects ranks old (Set k v) reply new
      → (reply ≡ Done (has cmp old k)) × (new ≡ cond (has cmp old k) (written cmp k old v) old)
  set_there k v (Value before) step = absurd step
  set_there k v (Pair p) step = absurd step
  set_there k v (Number n) step = absurd step
  set_there k v (Done true) step = rw step.0 (refl, step.1)
  set_there k v (Done false) step = rw step.0 (refl, step.1)
  set_there k v (Rank r) step = absurd step
  set_there k v (Held m w) step = absurd step
  set_there k v (Walked w) step = absurd step
  set_there k v NoCursor step = absurd step
  set_there k v OutOfMemory step = absurd step
  set_there k v Full step = absurd step

same_pair : {V : Type 0} (p q : ℕ × V) → p.0 ≡ q.0 → q.1 ≡ p.1 → q ≡ p
same_pair (a, v) (b, w) first second = cc

-- Numbers that compare equal are equal.
copy_is : {V : Type 0} (pair copy : Option (ℕ × V)) → IsCopyOf nat_cmp pair copy → copy ≡ pair
copy_is None None same = refl
copy_is None (Some q) same = absurd same
copy_is (Some p) None same = absurd same
copy_is (Some p) (Some q) same = ap Some (same_pair p q (exact_unsigned p.0 q.0 same.0) same.1)

-- The one result of a word of one end is the item at that end.
pub one_result : {V : Type 0} (item outcome : Option (ℕ × V)) (outcomes rest : List (Option (ℕ × V))) → AllZip (IsCopyOf nat_cmp) (item ∷ []) outcomes → outcomes ≡ rest ++ outcome ∷ [] → outcome ≡ item
one_result item outcome [] rest copies is = absurd copies
one_result item outcome (a ∷ []) [] copies is = let same : a ≡ outcome = cc is in copy_is item outcome (rw (← same) copies.0)
one_result item outcome (a ∷ []) (b ∷ rest) copies is = absurd (omega (arith, ap length is, length-append rest (outcome ∷ [])))
one_result item outcome (a ∷ b ∷ outcomes) rest copies is = absurd copies.1

pub first_ranged : {V R : Type 0} (selects : ℕ → List ℕ → Option ℕ → Type 0) (ranks : ℕ → List ℕ → R → Type 0) (old new : List (ℕ × V)) (lo : ℕ) (word : Vec End Global) (reply : Reply ℕ V R) (outcomes : Vec (Option (ℕ × V)) Global) (rest : List (Option (ℕ × V))) (outcome : Option (ℕ × V))
    → word.items ≡ Front ∷ [] → reply ≡ Walked outcomes → TreeStep nat_cmp selects ranks old (Range (Some lo) None word) reply new → outcomes.items ≡ rest ++ outcome ∷ [] → outcome ≡ slice_get (between nat_cmp old (Some lo) None) 0
first_ranged selects ranks old new lo word reply outcomes rest outcome one is step gave =
    let P : Reply _ _ _ → Type 0 = λ r. TreeStep nat_cmp selects ranks old (Range (Some lo) None word) r new in
    one_result (slice_get (between nat_cmp old (Some lo) None) 0) outcome outcomes.items rest (rw one at (subst P is step).0) gave

module _ {V R : Type 0} (ranks : ℕ → List ℕ → R → Type 0) (old new : List (ℕ × V)) where
  pub reported_at : (i : ℕ) (reply : Reply ℕ V R) → TreeStep nat_cmp SelectsIndex ranks old (At i) reply new
      → ((reply ≡ Pair (slice_get old i)) ⊎ (reply ≡ OutOfMemory)) × (new ≡ old)
  reported_at i (Value v) step = absurd step
  reported_at i (Pair p) step = (inl (ap Pair (copy_is _ p step.0.2 ∙ selected_is i old step.0.0 step.0.1)), step.1)
  reported_at i (Number n) step = absurd step
  reported_at i (Done b) step = absurd step
  reported_at i (Rank r) step = absurd step
  reported_at i (Held m w) step = absurd step
  reported_at i (Walked w) step = absurd step
  reported_at i NoCursor step = absurd step
  reported_at i OutOfMemory step = (inr refl, step)
  reported_at i Full step = absurd step

  pub set_at_index : (i : ℕ) (v : V) (reply : Reply ℕ V R) → TreeStep nat_cmp SelectsIndex ranks old (SetAt i v) reply new
      → ((reply ≡ Done true) × (i < length old) × (new ≡ set_value_at old i v))
      ⊎ ((reply ≡ Done false) × (length old ≤ i) × (new ≡ old))
      ⊎ ((reply ≡ OutOfMemory) × (new ≡ old))
  set_at_index i v (Value w) step = absurd step
  set_at_index i v (Pair p) step = absurd step
  set_at_index i v (Number n) step = absurd step
  set_at_index i v (Done true) step = inl (refl, rw (← step.2.0) step.1, rw (← step.2.0) step.3)
  set_at_index i v (Done false) step = inr (inl (refl, rw (length-keys_of old) at step.0, step.1))
  set_at_index i v (Rank r) step = absurd step
  set_at_index i v (Held m w) step = absurd step
  set_at_index i v (Walked w) step = absurd step
  set_at_index i v NoCursor step = absurd step
  set_at_index i v OutOfMemory step = inr (inr (refl, step))
  set_at_index i v Full step = absurd step

-- The rank of a key is the number of smaller keys.
pub ranked : {V : Type 0} (selects : ℕ → List ℕ → Option ℕ → Type 0) (old new : List (ℕ × V)) (k : ℕ) (reply : Reply ℕ V ℕ)
    → TreeStep nat_cmp selects (λ key keys n. n ≡ count_below nat_cmp key keys) old (RankOf k) reply new
    → ((reply ≡ Rank (cond (has nat_cmp old k) (Ok (count_below nat_cmp k (keys_of old))) (Err (count_below nat_cmp k (keys_of old))))) ⊎ (reply ≡ OutOfMemory)) × (new ≡ old)
ranked selects old new k (Value v) step = absurd step
ranked selects old new k (Pair p) step = absurd step
ranked selects old new k (Number n) step = absurd step
ranked selects old new k (Done b) step = absurd step
ranked selects old new k (Rank (Ok n)) step = rw (← step.1) (inl (ap (λ m. Rank (Ok m)) step.0), step.2)
ranked selects old new k (Rank (Err n)) step = rw (← step.1) (inl (ap (λ m. Rank (Err m)) step.0), step.2)
ranked selects old new k (Held m w) step = absurd step
ranked selects old new k (Walked w) step = absurd step
ranked selects old new k NoCursor step = absurd step
ranked selects old new k OutOfMemory step = (inr refl, step)
ranked selects old new k Full step = absurd step
