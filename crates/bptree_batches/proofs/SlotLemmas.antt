-- Searches of a few keys in their leaves: the members of the lists at one index.
use Rattle.std.proofs.Common.{◌≡◌, ℕ, zero, suc, ◌+◌, ◌<◌, ◌≤◌, List, [], ◌∷◌, length, get_or, slice_set, refl, sym, ap, subst, ◌∙◌, arith, Result, zip}
use Rattle.std.specs.declared.cmp.Ordering.{Ordering}
use Rattle.std.specs.Cmp.{IsTotalOrder}
use Rattle.std.specs.List.{AllZip}
use Rattle.std.specs.List.Sorted.{IsStrictlySortedBy}
use Rattle.std.specs.Map.{keys_of}
use Rattle.bptree_keys.specs.Contents.{IsAscending}
use Rattle.bptree_keys.specs.Locate.{locate}
use Rattle.bptree_keys.specs.declared.node_id.LeafNodeId.{LeafNodeId}
use Rattle.bptree_keys.specs.declared.node_id.NodeId.{NodeId}
use Rattle.bptree_keys.specs.declared.node_id.NodeId.TheVariants as kind
use Rattle.bptree_nodes.specs.Inner.{Inner}
use Rattle.bptree_nodes.specs.Leaf.{Leaf}
use Rattle.bptree_nodes.specs.Slot.{Slots, Present}
use Rattle.bptree_batches.specs.Slots.{AreLeavesThere, AreSlotsIn, IsSlotOfLeaf, keys_at, keys_held}
use Rattle.bptree_batches.specs.Ways.{AllSplit, IsLeafThere}
use Rattle.bptree_batches.proofs.Split.{split_all, split_at, split_more, split_none, split_start, zip_at, zip_length}

zip-length : {X Y : Type 0} (xs : List X) (ys : List Y) → length xs ≡ length ys → length (zip xs ys) ≡ length ys
zip-length [] [] same = refl
zip-length [] (y ∷ ys) same = absurd (omega (arith, same))
zip-length (x ∷ xs) [] same = refl
zip-length (x ∷ xs) (y ∷ ys) same = omega (arith, zip-length xs ys (omega (arith, same)))

zip-get : {X Y : Type 0} (n : ℕ) (xs : List X) (ys : List Y) (x : X) (y : Y) → n < length ys → length xs ≡ length ys → get_or (zip xs ys) n (x, y) ≡ (get_or xs n x, get_or ys n y)
zip-get n xs [] x y within same = absurd (omega arith)
zip-get n [] (b ∷ ys) x y within same = absurd (omega (arith, same))
zip-get zero (a ∷ xs) (b ∷ ys) x y within same = refl
zip-get (suc n) (a ∷ xs) (b ∷ ys) x y within same = zip-get n xs ys x y (omega arith) (omega (arith, same))

zip-read : {X Y : Type 0} (n : ℕ) (xs : List X) (ys : List Y) (x : X) (y : Y) → n < length ys → length xs ≡ length ys → y ≡ get_or ys n y → get_or (zip xs ys) n (x, y) ≡ (get_or xs n x, y)
zip-read n xs ys x y within same is = zip-get n xs ys x y within same ∙ ap (λ b. (get_or xs n x, b)) (sym is)

-- one more index of three lists, of which P holds at the first indexes and Q at the later ones
module _ {X Y Z : Type 0} (P Q : X × Y → Z → Type 0) where
  pub three_more : (n : ℕ) (xs : List X) (ys : List Y) (zs : List Z) (x : X) (y : Y) (z : Z) → n < length ys → length xs ≡ length ys → y ≡ get_or ys n y → AllSplit P Q n (zip xs ys) zs → P (get_or xs n x, y) z
      → AllSplit P Q (n + 1) (zip xs ys) (slice_set zs n z)
  three_more n xs ys zs x y z within same is all new =
      split_more P Q n (zip xs ys) zs (x, y) z (omega (arith, within, zip-length xs ys same)) all
      (subst (λ p. P p z) (sym (zip-read n xs ys x y within same is)) new)

  pub three_none : (xs : List X) (ys : List Y) (zs : List Z) → AllZip Q (zip xs ys) zs → AllSplit P Q 0 (zip xs ys) zs
  three_none xs ys zs all = split_none P Q (zip xs ys) zs all

  pub three_at : (n : ℕ) (xs : List X) (ys : List Y) (zs : List Z) (x : X) (y : Y) (z : Z) → n < length ys → length xs ≡ length ys → y ≡ get_or ys n y → AllSplit P Q n (zip xs ys) zs → Q (get_or xs n x, y) (get_or zs n z)
  three_at n xs ys zs x y z within same is all =
      subst (λ p. Q p (get_or zs n z)) (zip-read n xs ys x y within same is) (split_at P Q n (zip xs ys) zs (x, y) z (omega (arith, within, zip-length xs ys same)) all)

  pub three_all : (n : ℕ) (xs : List X) (ys : List Y) (zs : List Z) → length ys ≤ n → length xs ≡ length ys → AllSplit P Q n (zip xs ys) zs → AllZip P (zip xs ys) zs
  three_all n xs ys zs end same all = split_all P Q n (zip xs ys) zs (omega (arith, end, zip-length xs ys same)) all

module _ {X Y Z : Type 0} (P : X × Y → Z → Type 0) where
  pub three_length : (xs : List X) (ys : List Y) (zs : List Z) → length xs ≡ length ys → AllZip P (zip xs ys) zs → length zs ≡ length ys
  three_length xs ys zs same all = zip_length P (zip xs ys) zs all ∙ zip-length xs ys same

  pub three_read : (n : ℕ) (xs : List X) (ys : List Y) (zs : List Z) (x : X) (y : Y) (z : Z) → n < length ys → length xs ≡ length ys → y ≡ get_or ys n y → AllZip P (zip xs ys) zs → P (get_or xs n x, y) (get_or zs n z)
  three_read n xs ys zs x y z within same is all =
      subst (λ p. P p (get_or zs n z)) (zip-read n xs ys x y within same is) (zip_at P n (zip xs ys) zs (x, y) z (omega (arith, within, zip-length xs ys same)) all)

  pub three_start : (xs : List X) (ys : List Y) (zs : List Z) → length xs ≡ length ys → length zs ≡ length ys → AllSplit P (λ p z. Unit {0}) 0 (zip xs ys) zs
  three_start xs ys zs same long = split_start P (zip xs ys) zs (long ∙ sym (zip-length xs ys same))

module _ {K V A : Type 0} (slots : Slots (Inner K A) (Leaf K V)) where
  pub there_at : (n : ℕ) (ids : List NodeId) (id : NodeId) → n < length ids → AreLeavesThere slots ids → IsLeafThere slots (get_or ids n id)
  there_at n [] id within all = absurd (omega arith)
  there_at zero (a ∷ ids) id within all = all.0
  there_at (suc n) (a ∷ ids) id within all = there_at n ids id (omega arith) all.1

  -- the keys at a node id are those of the leaf at that id
  pub keys_there : (id : NodeId) (leaf : LeafNodeId) (node : Leaf K V) → id ≡ kind.Leaf leaf → slots.leaf leaf.0 ≡ Present node → keys_at slots id ≡ keys_of node.pairs
  keys_there id leaf node is present = ap (keys_at slots) is ∙ ap keys_held present

module _ {K V A : Type 0} {cmp : K → K → Ordering} (total : IsTotalOrder cmp) (slots : Slots (Inner K A) (Leaf K V)) where
  -- the slot that a search of the leaf at a node id returns is the slot there
  pub slot_located : (id : NodeId) (leaf : LeafNodeId) (node : Leaf K V) (k : K) (slot : Result ℕ ℕ) → id ≡ kind.Leaf leaf → slots.leaf leaf.0 ≡ Present node
      → (IsAscending cmp node.pairs → slot ≡ locate cmp (keys_of node.pairs) k) → IsSlotOfLeaf cmp slots id k slot
  slot_located id leaf node k slot is present located other there is_other present_other ascending =
      let same : keys_of node.pairs ≡ keys_of there.pairs = sym (keys_there slots id leaf node is present) ∙ keys_there slots id other there is_other present_other in
      located (subst (IsStrictlySortedBy cmp) (sym same) ascending) ∙ ap (λ ks. locate cmp ks k) same

  pub slots_from_zip : (ids : List NodeId) (keys : List K) (found : List (Result ℕ ℕ)) → length ids ≡ length keys → AllZip (λ p s. IsSlotOfLeaf cmp slots p.0 p.1 s) (zip ids keys) found → AreSlotsIn cmp slots ids keys found
  slots_from_zip [] [] [] same all = tt
  slots_from_zip [] [] (s ∷ found) same all = absurd all
  slots_from_zip [] (k ∷ keys) found same all = absurd (omega (arith, same))
  slots_from_zip (id ∷ ids) [] found same all = absurd (omega (arith, same))
  slots_from_zip (id ∷ ids) (k ∷ keys) [] same all = absurd all
  slots_from_zip (id ∷ ids) (k ∷ keys) (s ∷ found) same all = (all.0, slots_from_zip ids keys found (omega (arith, same)) all.1)
