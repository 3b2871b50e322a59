-- Pairs or keys that are gathered and then put.
use Rattle.std.proofs.Common.{◌≡◌, ◌∙◌, ◌+◌, ◌≤◌, ℕ, Bool, true, false, List, [], ◌∷◌, ◌++◌, length, Option, Some, None, cond, ◌||◌, refl, sym, ap, arith}
use mathlib.Core.Bool.{true≢false}
use Rattle.std.proofs.lemmas.Cmp.{alike_right, tied_itself}
use Rattle.std.proofs.lemmas.Map.Entries.{length-keys_of}
use Rattle.std.proofs.lemmas.Map.Keys.{sorted_head, sorted_tail}
use Rattle.std.specs.declared.cmp.Ordering.{Ordering}
use Rattle.std.specs.declared.cmp.Ordering.TheVariants.{Less, Equal, Greater}
use Rattle.std.specs.Cmp.{IsTotalOrder}
use Rattle.std.specs.List.{AllByRecursion, AllZip}
use Rattle.std.specs.List.Sorted.{IsStrictlySortedBy}
use Rattle.std.specs.Map.{keys_of}
use Rattle.std.specs.Option.{IsSomeAnd}
use Rattle.std.specs.Ordering.{is_eq}
use Rattle.bptree_keys.specs.Contents.{IsAscending, gather, has, put, value}
use Rattle.bptree_keys.proofs.Ascending.{greater_turned}
use Rattle.bptree_keys.proofs.Equal.{value_at_equal}
use Rattle.bptree_keys.proofs.Laws.{gather_ascending, put_ascending}
use Rattle.bptree_keys.proofs.Updates.{value_put}
use Rattle.bptree_bulk.specs.Weave.{put_all, put_pair}
use Rattle.bptree_load_plan.proofs.OrderLemmas.{has_alike}
use Rattle.bptree_map.specs.Keys.{gathered, holds}
use Rattle.bptree_map.specs.Moving.{PutsAll, PutsAllKeys, PutsClones, PutsKeyClones}
use Rattle.bptree_map.proofs.ExtendingLemmas.{clones_equal, holds_alike, holds_gathered, length_gather, length_gathered}
use Rattle.bptree_map.proofs.KeyLemmas.{holds_keys, keys_gather}
use Rattle.bptree_contract_tests.specs.Words.{HoldsEither, KeepsOthers, PutsCloneOfLast, PutsLastOfEach}
use Rattle.bptree_contract_tests.proofs.ExtendLemmas.{holds_all, kept_value}

fewer : (n m : ℕ) (b : Bool) → n ≤ m → cond b n (n + 1) ≤ m + 1
fewer n m true few = omega arith
fewer n m false few = omega arith

-- A list of gathered keys is at most as long as the list of the keys.
pub gathered_few : {K : Type 0} {cmp : K → K → Ordering} → IsTotalOrder cmp → (keys : List K) → length (gathered cmp keys) ≤ length keys
gathered_few total [] = omega arith
gathered_few {cmp = cmp} total (k ∷ keys) = rw (length_gathered total k keys) (omega (arith, fewer (length (gathered cmp keys)) (length keys) (holds cmp keys k) (gathered_few total keys)))

pub gather_few : {K V : Type 0} {cmp : K → K → Ordering} → IsTotalOrder cmp → (pairs : List (K × V)) → length (gather cmp pairs) ≤ length pairs
gather_few {cmp = cmp} total pairs = omega (arith, length_gather cmp pairs, length-keys_of pairs, gathered_few total (keys_of pairs))

some_same : {V : Type 0} {v w : V} → Some v ≡ Some w → v ≡ w
some_same same = cc

none_some : {V : Type 0} {v : V} → None ≡ Some v → ⊥
none_some same = cc

or_there : (b : Bool) → b || true ≡ true
or_there true = refl
or_there false = refl

module _ {K V : Type 0} {cmp : K → K → Ordering} (total : IsTotalOrder cmp) where
  -- A key is gathered if and only if it is among the pairs.
  has_gather : (pairs : List (K × V)) (k : K) → has cmp (gather cmp pairs) k ≡ has cmp pairs k
  has_gather pairs k =
      holds_keys cmp (gather cmp pairs) k
      ∙ (ap (λ keys. holds cmp keys k) (keys_gather cmp pairs)
      ∙ (holds_gathered total (keys_of pairs) k
      ∙ sym (holds_keys cmp pairs k)))

  -- A key that is not among the pairs keeps its value.
  kept_beside_gathered : (old pairs : List (K × V)) → IsAscending cmp old → (k : K) → has cmp pairs k ≡ false → value cmp (put_all (put_pair cmp) old (gather cmp pairs)) k ≡ value cmp old k
  kept_beside_gathered old pairs up k absent = kept_value total old (gather cmp pairs) k up (has_gather pairs k ∙ absent)

  -- If q equals k, a list of keys above q does not have k.
  lacks_greater : (q k : K) → cmp q k ≡ Equal → (l : List (K × V)) → AllByRecursion (λ key. cmp q key ≡ Less) (keys_of l) → has cmp l k ≡ false
  lacks_greater q k same [] all = refl
  lacks_greater q k same (r ∷ l) all =
      ap (λ o. is_eq o || has cmp l k) (sym (alike_right total q k r.0 same) ∙ greater_turned cmp total q r.0 all.0) ∙ lacks_greater q k same l all.1

  -- Each value of ascending pairs is put.
  value_step : (old : List (K × V)) (q : K × V) (m : List (K × V)) → IsAscending cmp old → IsAscending cmp (q ∷ m) → (k : K) (v : V)
      → (value cmp m k ≡ Some v → value cmp (put_all (put_pair cmp) (put cmp old q.0 q.1) m) k ≡ Some v)
      → (o : Ordering) → cmp q.0 k ≡ o → value cmp (q ∷ m) k ≡ Some v → value cmp (put_all (put_pair cmp) (put cmp old q.0 q.1) m) k ≡ Some v
  value_step old q m up up' k v later Less is found = later (rw is at found)
  value_step old q m up up' k v later Greater is found = later (rw is at found)
  value_step old q m up up' k v later Equal is found =
      kept_value total (put cmp old q.0 q.1) m k (put_ascending cmp total old up q.0 q.1) (lacks_greater q.0 k is m (sorted_head cmp q.0 (keys_of m) up'))
      ∙ (value_put cmp total old up q.0 q.1 k ∙ rw is (rw is at found))

  value_of_each : (old m : List (K × V)) → IsAscending cmp old → IsAscending cmp m → (k : K) (v : V) → value cmp m k ≡ Some v → value cmp (put_all (put_pair cmp) old m) k ≡ Some v
  value_of_each old [] up up' k v found = absurd (none_some found)
  value_of_each old (q ∷ m) up up' k v found =
      value_step old q m up up' k v (value_of_each (put cmp old q.0 q.1) m (put_ascending cmp total old up q.0 q.1) (sorted_tail cmp q.0 (keys_of m) up') k v) (cmp q.0 k) refl found

  there_inside : (before : List (K × V)) (p : K × V) (after : List (K × V)) → has cmp (before ++ p ∷ after) p.0 ≡ true
  there_inside [] p after = ap (λ o. is_eq o || has cmp after p.0) (tied_itself total p.0)
  there_inside (q ∷ before) p after = ap (λ b. is_eq (cmp q.0 p.0) || b) (there_inside before p after) ∙ or_there (is_eq (cmp q.0 p.0))

  -- A key has the value of its last pair.
  last_step : (q : K × V) (before : List (K × V)) (p : K × V) (after : List (K × V)) → value cmp (gather cmp (before ++ p ∷ after)) p.0 ≡ Some p.1 → (b : Bool) → has cmp (before ++ p ∷ after) q.0 ≡ b → (o : Ordering) → cmp q.0 p.0 ≡ o → value cmp (gather cmp (q ∷ (before ++ p ∷ after))) p.0 ≡ Some p.1
  last_step q before p after later true there o is = rw there later
  last_step q before p after later false absent Less is = rw absent (value_put cmp total (gather cmp (before ++ p ∷ after)) (gather_ascending cmp total (before ++ p ∷ after)) q.0 q.1 p.0 ∙ rw is later)
  last_step q before p after later false absent Greater is = rw absent (value_put cmp total (gather cmp (before ++ p ∷ after)) (gather_ascending cmp total (before ++ p ∷ after)) q.0 q.1 p.0 ∙ rw is later)
  last_step q before p after later false absent Equal is = absurd (true≢false (sym (has_alike cmp total q.0 p.0 is (before ++ p ∷ after) ∙ there_inside before p after) ∙ absent))

  last_gathered : (before : List (K × V)) (p : K × V) (after : List (K × V)) → has cmp after p.0 ≡ false → value cmp (gather cmp (before ++ p ∷ after)) p.0 ≡ Some p.1
  last_gathered [] p after absent = rw absent (value_put cmp total (gather cmp after) (gather_ascending cmp total after) p.0 p.1 p.0 ∙ rw (tied_itself total p.0) refl)
  last_gathered (q ∷ before) p after absent = last_step q before p after (last_gathered before p after absent) (has cmp (before ++ p ∷ after) q.0) refl (cmp q.0 p.0) refl

  last_put : (old before : List (K × V)) (p : K × V) (after : List (K × V)) → IsAscending cmp old → has cmp after p.0 ≡ false → value cmp (put_all (put_pair cmp) old (gather cmp (before ++ p ∷ after))) p.0 ≡ Some p.1
  last_put old before p after up absent =
      value_of_each old (gather cmp (before ++ p ∷ after)) up (gather_ascending cmp total (before ++ p ∷ after)) p.0 p.1 (last_gathered before p after absent)

  -- The lemmas above, for the pairs of a call that puts them all.
  module _ (old pairs new : List (K × V)) (up : IsAscending cmp old) (is : PutsAll cmp pairs old new) where
    pub others_stay : KeepsOthers cmp pairs old new
    others_stay k absent = ap (λ l. value cmp l k) is ∙ kept_beside_gathered old pairs up k absent

    pub last_stays : PutsLastOfEach cmp pairs new
    last_stays before after p parts absent =
        ap (λ l. value cmp l p.0) (is ∙ ap (λ l. put_all (put_pair cmp) old (gather cmp l)) parts) ∙ last_put old before p after up absent

module _ {K : Type 0} {cmp : K → K → Ordering} (total : IsTotalOrder cmp) where
  -- A key is held after the puts if it was held before or was put.
  pub held_if_came : (old keys new : List K) → IsStrictlySortedBy cmp old → PutsAllKeys cmp keys old new → HoldsEither cmp old keys new
  held_if_came old keys new sorted is k =
      ap (λ l. holds cmp l k) is ∙ (holds_all total old (gathered cmp keys) k sorted ∙ ap (λ b. holds cmp old k || b) (holds_gathered total keys k))

  -- A key is held after the puts if it was held before or a clone of it was put.
  pub held_if_cloned : (is_clone : K → K → Type 0) → ((k c : K) → is_clone k c → cmp k c ≡ Equal) → (old keys new : List K) → IsStrictlySortedBy cmp old → PutsKeyClones cmp is_clone keys old new → HoldsEither cmp old keys new
  held_if_cloned is_clone equal old keys new sorted (clones, all, is) k =
      held_if_came old clones new sorted is k ∙ ap (λ b. holds cmp old k || b) (sym (holds_alike total keys clones (clones_equal is_clone equal keys clones all) k))

-- The member of another list at the index of a member of this list.
record Beside {X Y : Type 0} (R : X → Y → Type 0) (x : X) (after : List X) (ys : List Y) : Type 0 where
  before : List Y
  same : Y
  later : List Y
  parts : ys ≡ before ++ same ∷ later
  here : R x same
  rest : AllZip R after later

beside : {X Y : Type 0} (R : X → Y → Type 0) (before : List X) (x : X) (after : List X) (ys : List Y) → AllZip R (before ++ x ∷ after) ys → Beside R x after ys
beside R [] x after [] all = absurd all
beside R [] x after (y ∷ ys) all = record { before = []; same = y; later = ys; parts = refl; here = all.0; rest = all.1 }
beside R (z ∷ before) x after [] all = absurd all
beside R (z ∷ before) x after (y ∷ ys) all =
    let more = beside R before x after ys all.1 in
    record { before = y ∷ more.before; same = more.same; later = more.later; parts = ap (λ l. y ∷ l) more.parts; here = more.here; rest = more.rest }

module _ {K V : Type 0} {cmp : K → K → Ordering} (total : IsTotalOrder cmp) (is_clone : K → K → Type 0) (equal : (k c : K) → is_clone k c → cmp k c ≡ Equal) (is_value_clone : V → V → Type 0) where
  abbrev AreClones : List (K × V) → List (K × V) → Type 0
  AreClones = AllZip (λ p q. is_clone p.0 q.0 × is_value_clone p.1 q.1)

  -- Clones of pairs have the keys of the pairs.
  has_cloned : (pairs clones : List (K × V)) → AreClones pairs clones → (k : K) → has cmp clones k ≡ has cmp pairs k
  has_cloned [] [] all k = refl
  has_cloned [] (q ∷ clones) all k = absurd all
  has_cloned (p ∷ pairs) [] all k = absurd all
  has_cloned (p ∷ pairs) (q ∷ clones) all k =
      ap (λ o. is_eq o || has cmp clones k) (sym (total.congr p.0 q.0 k (equal p.0 q.0 all.0.0))) ∙ ap (λ b. is_eq (cmp p.0 k) || b) (has_cloned pairs clones all.1 k)

  value_is : {X : Type 0} (P : X → Type 0) (o : Option X) (x : X) → o ≡ Some x → P x → IsSomeAnd o P
  value_is P o x is p = rw is p

  -- A key has a clone of the value of its last pair.
  last_clone_put : (old clones before : List (K × V)) (p : K × V) (after : List (K × V)) → IsAscending cmp old → AreClones (before ++ p ∷ after) clones → has cmp after p.0 ≡ false → IsSomeAnd (value cmp (put_all (put_pair cmp) old (gather cmp clones)) p.0) (is_value_clone p.1)
  last_clone_put old clones before p after up all absent =
      let it = beside (λ (p q : K × V). is_clone p.0 q.0 × is_value_clone p.1 q.1) before p after clones all in
      let same : cmp p.0 it.same.0 ≡ Equal = equal p.0 it.same.0 it.here.0 in
      let gone : has cmp it.later it.same.0 ≡ false = sym (has_alike cmp total p.0 it.same.0 same it.later) ∙ (has_cloned after it.later it.rest p.0 ∙ absent) in
      let new = put_all (put_pair cmp) old (gather cmp clones) in
      let found : value cmp new p.0 ≡ Some it.same.1 =
      value_at_equal cmp total new p.0 it.same.0 same ∙ (ap (λ l. value cmp (put_all (put_pair cmp) old (gather cmp l)) it.same.0) it.parts ∙ last_put total old it.before it.same it.later up gone) in
      value_is (is_value_clone p.1) (value cmp new p.0) it.same.1 found it.here.1

  -- The lemmas above, for a call that puts clones of the pairs.
  pub clones_leave_others : (old pairs new : List (K × V)) → IsAscending cmp old → PutsClones cmp is_clone is_value_clone pairs old new → KeepsOthers cmp pairs old new
  clones_leave_others old pairs new up (clones, all, is) k absent = others_stay total old clones new up is k (has_cloned pairs clones all k ∙ absent)

  pub clone_of_last_stays : (old pairs new : List (K × V)) → IsAscending cmp old → PutsClones cmp is_clone is_value_clone pairs old new → PutsCloneOfLast cmp is_value_clone pairs new
  clone_of_last_stays old pairs new up (clones, all, is) before after p parts absent = rw is (last_clone_put old clones before p after up (rw parts at all) absent)

-- The list of clones of no members is empty.
pub no_clones : {X : Type 0} (R : X → X → Type 0) (clones : List X) → AllZip R [] clones → clones ≡ []
no_clones R [] all = refl
no_clones R (x ∷ clones) all = absurd all
