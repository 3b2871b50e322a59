-- The pair of a key, and the first pairs from a key on.
use Rattle.std.proofs.Common.{◌≡◌, ◌∙◌, ℕ, suc, Bool, true, false, cond, not, List, [], ◌∷◌, ◌++◌, length, filter, Option, Some, None, ap, refl, slice_get, sym, Bor, IfSome, arith, length-append}
use Rattle.std.specs.declared.cmp.Ordering.{Ordering}
use Rattle.std.specs.declared.cmp.Ordering.TheVariants.{Less, Equal, Greater}
use Rattle.std.specs.Cmp.{IsTotalOrder}
use Rattle.std.specs.Ordering.{is_gt, is_lt}
use Rattle.std.specs.Prelude.{◌&&◌}
use Rattle.std.specs.Map.{keys_of}
use Rattle.std.specs.Map.Iter.{TakesFirst, TakesLast}
use Rattle.std.specs.Option.{option_map, IsSomeAnd}
use Rattle.bptree_arguments.specs.CountLaws.{count_below}
use Rattle.bptree_map.specs.Indexes.{index}
use Rattle.bptree_keys.specs.Contents.{IsAscending, has, value, next, pairs_below}
use Rattle.bptree_keys.proofs.Laws.{found_if_there, hit_if_there}
use Rattle.bptree_keys.proofs.Parted.{pairs_below_hit}
use Rattle.bptree_invariant.proofs.Ordered.{by_cases}
use Rattle.bptree_tree.specs.Cursor.{cursor_key, IsCursorAt}
use Rattle.bptree_tree.specs.Entries.{entry, at_least}
use Rattle.bptree_tree.specs.declared.cursor.Cursor.{Cursor}
use Rattle.bptree_tree.proofs.EntryLemmas.{entry_absent, entry_hit, entry_value, at_least_hit}

-- The first member of those that pass a test passes the test.
first_passes : {X : Type 0} (test : X → Bool) (l : List X) (x : X) → slice_get (filter test l) 0 ≡ Some x → test x ≡ true
first_passes test [] x first = cc
first_passes {X} test (y ∷ l) x first = by (test y) refl (first_passes test l x)
  where
    by : (b : Bool) → test y ≡ b → (slice_get (filter test l) 0 ≡ Some x → test x ≡ true) → test x ≡ true
    by true e rest = let here : Some y ≡ Some x = rw e at first in let same : y ≡ x = cc in sym (ap test same) ∙ e
    by false e rest = rest (rw e at first)

get_middle : {X : Type 0} (before : List X) (x : X) (after : List X) → slice_get (before ++ x ∷ after) (length before) ≡ Some x
get_middle [] x after = refl
get_middle (y ∷ before) x after = get_middle before x after

is_greater : (o : Ordering) → is_gt o ≡ true → o ≡ Greater
is_greater Less e = cc
is_greater Equal e = cc
is_greater Greater e = refl

not_turned : (b : Bool) → not b && true ≡ true → b ≡ false
not_turned true e = cc
not_turned false e = refl

module _ {K V : Type 0} (cmp : K → K → Ordering) (k : K) where
  entry_key : (l : List (K × V)) (pair : K × V) → Some pair ≡ entry cmp l k → cmp pair.0 k ≡ Equal
  entry_key [] pair e = cc
  entry_key (p ∷ l) pair e =
      by_cases (cmp p.0 k) (λ less. entry_key l pair (rw less at e)) (λ equal. let here : Some pair ≡ Some p = rw equal at e in let same : pair ≡ p = cc in ap (λ x. cmp x.0 k) same ∙ equal)
      (λ greater. entry_key l pair (rw greater at e))

  entry_slot : (l : List (K × V)) (pair : K × V) → Some pair ≡ entry cmp l k → (i : ℕ) × (slice_get l i ≡ Some pair)
  entry_slot [] pair e = cc
  entry_slot (p ∷ l) pair e =
      by_cases (cmp p.0 k) (λ less. let rest = entry_slot l pair (rw less at e) in (suc rest.0, rest.1)) (λ equal. let here : Some pair ≡ Some p = rw equal at e in (0, sym here))
      (λ greater. let rest = entry_slot l pair (rw greater at e) in (suc rest.0, rest.1))

  -- The key, the value and the index of a borrowed pair that was found.
  module _ (l : List (K × V)) where
    pub found_key : (r : Option (Bor K × Bor V)) → option_map (λ pair. (pair.0.now, pair.1.now)) r ≡ entry cmp l k → IfSome r (λ pair. cmp pair.0.now k ≡ Equal)
    found_key None e = tt
    found_key (Some r) e = entry_key l (r.0.now, r.1.now) e

    pub found_value : (r : Option (Bor K × Bor V)) → option_map (λ pair. (pair.0.now, pair.1.now)) r ≡ entry cmp l k → option_map (λ pair. pair.1.now) r ≡ value cmp l k
    found_value None e = ap (option_map (λ pair. pair.1)) e ∙ entry_value cmp l k
    found_value (Some r) e = ap (option_map (λ pair. pair.1)) e ∙ entry_value cmp l k

    pub found_index : (r : Option (Bor K × Bor V)) → option_map (λ pair. (pair.0.now, pair.1.now)) r ≡ entry cmp l k → IfSome r (λ pair. (i : ℕ) × (slice_get l i ≡ Some (pair.0.now, pair.1.now)))
    found_index None e = tt
    found_index (Some r) e = entry_slot l (r.0.now, r.1.now) e

  -- The key, the value and the index of a pair that was removed.
  module _ (l : List (K × V)) where
    pub taken_key : (r : Option (K × V)) → r ≡ entry cmp l k → IfSome r (λ pair. cmp pair.0 k ≡ Equal)
    taken_key None e = tt
    taken_key (Some pair) e = entry_key l pair e

    pub taken_value : (r : Option (K × V)) → r ≡ entry cmp l k → option_map (λ pair. pair.1) r ≡ value cmp l k
    taken_value r e = ap (option_map (λ pair. pair.1)) e ∙ entry_value cmp l k

    pub taken_index : (r : Option (K × V)) → r ≡ entry cmp l k → IfSome r (λ pair. (i : ℕ) × (slice_get l i ≡ Some pair))
    taken_index None e = tt
    taken_index (Some pair) e = entry_slot l pair e

  below_count : (l : List (K × V)) → count_below cmp k (keys_of l) ≡ length (pairs_below cmp l k)
  below_count [] = refl
  below_count (p ∷ l) = by_cases (cmp p.0 k) (λ less. rw less (ap suc (below_count l))) (λ equal. rw equal (below_count l)) (λ greater. rw greater (below_count l))

  module _ (total : IsTotalOrder cmp) (l : List (K × V)) (ascending : IsAscending cmp l) (there : has cmp l k ≡ true) where
    -- The pair at the index of the number of smaller keys is the pair of the key.
    pub at_its_index : slice_get l (count_below cmp k (keys_of l)) ≡ entry cmp l k
    at_its_index =
        let found = found_if_there cmp k l there in
        let hit = hit_if_there cmp total l ascending k there in
        let index : count_below cmp k (keys_of l) ≡ length found.before = below_count l ∙ ap length (pairs_below_hit cmp l found.before found.pair found.after k hit) in
        ap (slice_get l) index ∙ ap (λ xs. slice_get xs (length found.before)) hit.parts ∙ get_middle found.before found.pair found.after ∙ sym (entry_hit cmp l found.before found.pair found.after k hit)

    -- The pair of the key is the least one that is not below the key.
    pub least_is : (cursor : Option (Cursor K)) → IsCursorAt cmp (at_least cmp l k) cursor → IsSomeAnd cursor (λ there. cmp (cursor_key there) k ≡ Equal)
    least_is cursor stored =
        let found = found_if_there cmp k l there in
        let hit = hit_if_there cmp total l ascending k there in
        on_it cursor found.pair hit.equal (rw (at_least_hit cmp l found.before found.pair found.after k hit) at stored)
      where
        on_it : (cursor : Option (Cursor K)) (pair : K × V) → cmp pair.0 k ≡ Equal → IsCursorAt cmp (Some pair) cursor → IsSomeAnd cursor (λ there. cmp (cursor_key there) k ≡ Equal)
        on_it None pair equal stored = absurd stored
        on_it (Some there) pair equal stored = total.congr (cursor_key there) pair.0 k stored ∙ equal

  -- The pair at the index of a key is the pair of the key, and a key without an index is absent.
  pub placed_there : IsTotalOrder cmp → (l : List (K × V)) → IsAscending cmp l → (i : ℕ) → Some i ≡ index cmp l k → slice_get l i ≡ entry cmp l k
  placed_there total l ascending i is = by (has cmp l k) refl is
    where
      by : (b : Bool) → has cmp l k ≡ b → Some i ≡ cond b (Some (count_below cmp k (keys_of l))) None → slice_get l i ≡ entry cmp l k
      by true there here = let same : i ≡ count_below cmp k (keys_of l) = cc in ap (slice_get l) same ∙ at_its_index total l ascending there
      by false absent here = cc

  pub placed_nowhere : (l : List (K × V)) → None ≡ index cmp l k → None ≡ entry cmp l k
  placed_nowhere l is = by (has cmp l k) refl is
    where
      by : (b : Bool) → has cmp l k ≡ b → None ≡ cond b (Some (count_below cmp k (keys_of l))) None → None ≡ entry cmp l k
      by true there here = cc
      by false absent here = sym (entry_absent cmp l k absent)

  module _ (total : IsTotalOrder cmp) where
    pub greater_key : (first : Option (K × V)) (cursor : Option (Cursor K)) (l : List (K × V)) → next cmp l k ≡ first → IsCursorAt cmp first cursor → IfSome cursor (λ there. cmp (cursor_key there) k ≡ Greater)
    greater_key None cursor l is stored = rw stored tt
    greater_key (Some pair) None l is stored = tt
    greater_key (Some pair) (Some there) l is stored = total.congr (cursor_key there) pair.0 k stored ∙ is_greater _ (first_passes (λ (p : K × V). is_gt (cmp p.0 k)) l pair is)

    pub no_smaller_key : (first : Option (K × V)) (cursor : Option (Cursor K)) (l : List (K × V)) → at_least cmp l k ≡ first → IsCursorAt cmp first cursor → IfSome cursor (λ there. is_lt (cmp (cursor_key there) k) ≡ false)
    no_smaller_key None cursor l is stored = rw stored tt
    no_smaller_key (Some pair) None l is stored = tt
    no_smaller_key (Some pair) (Some there) l is stored = ap is_lt (total.congr (cursor_key there) pair.0 k stored) ∙ not_turned _ (first_passes (λ (p : K × V). not (is_lt (cmp p.0 k)) && true) l pair is)

-- The members that leave a list of two.
pub first_of_two : {X : Type 0} (a b : X) (new : List X) (gone : Option X) → TakesFirst (λ (x : X). x) (a ∷ b ∷ []) gone new → (gone ≡ Some a) × (new ≡ b ∷ [])
first_of_two a b new None taken = let z : a ∷ b ∷ [] ≡ [] = taken.0 in cc
first_of_two a b new (Some x) taken = (cc, cc)

pub last_of_two : {X : Type 0} (a b : X) (new : List X) (gone : Option X) → TakesLast (λ (x : X). x) (a ∷ b ∷ []) gone new → (gone ≡ Some b) × (new ≡ a ∷ [])
last_of_two a b new None taken = let z : a ∷ b ∷ [] ≡ [] = taken.0 in cc
last_of_two a b [] (Some x) taken = let z : a ∷ b ∷ [] ≡ x ∷ [] = taken in cc
last_of_two a b (y ∷ []) (Some x) taken = let z : a ∷ b ∷ [] ≡ y ∷ x ∷ [] = taken in (cc, cc)
last_of_two a b (y ∷ z ∷ rest) (Some x) taken = absurd (omega (arith, ap length taken, length-append rest (x ∷ [])))
