-- The items of a group among keys.
use Rattle.std.proofs.Common.{◌≡◌, ℕ, zero, suc, ◌+◌, ◌-◌, ◌^◌, ◌<◌, min, nat_eq, List, [], ◌∷◌, length, map, take, Option, Some, None, Bool, true, false, cond, refl, sym, ap, ◌∙◌, arith}
use Rattle.std.specs.Prelude.{slice_get}
use Rattle.std.specs.Option.{option_map}
use Rattle.std.specs.Map.{keys_of}
use Rattle.std.specs.Cmp.{unsigned_tied}
use Rattle.std.specs.Ordering.{is_eq, nat_cmp}
use Rattle.std.specs.declared.cmp.Ordering.{Ordering}
use Rattle.std.specs.List.{HoldsAt, filter}
use Rattle.std.proofs.lemmas.List.{get_or-map, length-map, take-map}
use Rattle.std.proofs.lemmas.List.Elements.{filter_agree}
use Rattle.std.proofs.lemmas.List.Sums.{length-filter, count_by-le-length}
use Rattle.std.proofs.lemmas.Option.{slice_get_past}
use Rattle.bptree_arguments.specs.GroupSizes.{GroupSize, IsSizeResult}
use Rattle.bptree_arguments.specs.Groups.{group, group_size, SelectsInGroup}
use Rattle.bptree_arguments.specs.Visits.{returned}
use Rattle.bptree_arguments.proofs.GroupLemmas.{size_of_keys}
use Rattle.bptree_search.specs.ByArgument.{IsSelected}
use Rattle.bptree_examples.specs.declared.uses.grouped_index.Group.{Group}
use Rattle.bptree_examples.specs.declared.uses.grouped_index.Item.{Item}
use Rattle.bptree_examples.specs.Items.{items_of}
use Rattle.bptree_examples.proofs.Reported.{reported}

abbrev pub group_order : Group → Group → Ordering
group_order x y = nat_cmp x.0 y.0

abbrev pub group_of : Item → Group
group_of item = record { 0 = item.group }

items_are : (g : Group) (items : List Item) → group group_order group_of g items ≡ items_of g.0 items
items_are g items = filter_agree (λ item. is_eq (nat_cmp item.group g.0)) (λ item. nat_eq item.group g.0) (λ item. unsigned_tied item.group g.0) items

size_is : (g : Group) (items : List Item) → group_size group_order g (map group_of items) ≡ length (items_of g.0 items)
size_is g items = size_of_keys group_order group_of g items ∙ ap length (items_are g items)

-- The result of a visitor that has counted nothing yet is the number of items of its group.
pub size_reported : (outcome : Option ℕ) (g : ℕ) (v : GroupSize Group) (items : List Item) → IsSizeResult group_order v (map group_of items) (returned outcome) → v.group ≡ record { 0 = g } → v.counted ≡ 0 → length items < 2 ^ 64 → outcome ≡ Some (length (items_of g items))
size_reported outcome g v items e same none fits =
    let size = size_is v.group items in
    let value : min (v.counted + group_size group_order v.group (map group_of items)) (2 ^ 64 - 1) ≡ length (items_of v.group.0 items) = omega (arith, none, fits, size, length-filter (λ item. nat_eq item.group v.group.0) items, count_by-le-length (λ item. nat_eq item.group v.group.0) items) in
    ap (reported None) e ∙ ap Some (value ∙ ap (λ h. length (items_of h.0 items)) same)

-- An element that passes a test is an item of the elements that pass. Its index there is the number
-- of elements before it that pass.
item_among : {X : Type 0} (p : X → Bool) (xs : List X) (i : ℕ) → i < length xs → HoldsAt (λ x. p x ≡ true) xs i → slice_get xs i ≡ slice_get (filter p xs) (length (filter p (take i xs)))
item_among p [] i l h = absurd (omega arith)
item_among p (x ∷ xs) zero l h = rw (h x) refl
item_among p (x ∷ xs) (suc i) l h = let small : i < length xs = omega arith in by (p x) (item_among p xs i small h) where
  by : (b : Bool) → slice_get xs i ≡ slice_get (filter p xs) (length (filter p (take i xs))) → slice_get xs i ≡ slice_get (cond b (x ∷ filter p xs) (filter p xs)) (length (cond b (x ∷ filter p (take i xs)) (filter p (take i xs))))
  by true e = e
  by false e = e

key_at : {V : Type 0} (pairs : List (Item × V)) (i : ℕ) → option_map (λ pair. pair.0) (slice_get pairs i) ≡ slice_get (keys_of pairs) i
key_at [] i = refl
key_at (p ∷ pairs) zero = refl
key_at (p ∷ pairs) (suc i) = key_at pairs i

module _ (g : Group) (n : ℕ) (items : List Item) where
  item_selected : (i : ℕ) → SelectsInGroup group_order g n (map group_of items) (Some i) → slice_get items i ≡ slice_get (items_of g.0 items) n
  item_selected i s =
      let l : i < length items = omega (arith, s.0, length-map items group_of) in
      let here : HoldsAt (λ x. is_eq (group_order (group_of x) g) ≡ true) items i = λ d. ap is_eq (rw (get_or-map group_of items i d (group_of d) l) at (s.1 (group_of d))) in
      let after = sym (size_of_keys group_order group_of g (take i items)) ∙ (ap (group_size group_order g) (sym (take-map group_of i items)) ∙ s.2) in
      rw after at (item_among (λ x. is_eq (group_order (group_of x) g)) items i l here) ∙ ap (λ l. slice_get l n) (items_are g items)

  none_selected : SelectsInGroup group_order g n (map group_of items) None → slice_get (items_of g.0 items) n ≡ None
  none_selected s = slice_get_past (items_of g.0 items) n (omega (arith, s, size_is g items))

pub item_reported : {V : Type 0} (g : Group) (n : ℕ) (pairs : List (Item × V)) (outcome : Option (Item × V)) → IsSelected (λ (query : Group × ℕ) keys index. SelectsInGroup group_order query.0 query.1 (map group_of keys) index) (g, n) pairs outcome → option_map (λ pair. pair.0) outcome ≡ slice_get (items_of g.0 (keys_of pairs)) n
item_reported {V} g n pairs outcome (None, within, s, e) = ap (option_map (λ pair. pair.0)) e ∙ sym (none_selected g n (keys_of pairs) s)
item_reported {V} g n pairs outcome (Some i, within, s, e) = ap (option_map (λ pair. pair.0)) e ∙ (key_at pairs i ∙ item_selected g n (keys_of pairs) i s)
