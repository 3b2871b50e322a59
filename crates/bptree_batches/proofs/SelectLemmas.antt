-- Interleaved descents by indexes in a tree with counts: each level, and the pairs that were found
-- so far.
use Rattle.std.proofs.Common.{◌≡◌, ℕ, zero, suc, ◌+◌, ◌-◌, ◌^◌, ◌<◌, ◌≤◌, List, [], ◌∷◌, ◌++◌, length, take, drop, get_or, slice_set, map, refl, sym, ap, subst, ◌∙◌, arith, Option, Some, IfSome, IsSome, ◌↔◌, slice_get}
use borrow.Rule.Slice.PartMut.{put_mid}
use Rattle.std.specs.declared.cmp.Ordering.{Ordering}
use Rattle.std.specs.Cmp.{IsTotalOrder}
use Rattle.std.specs.List.{AllZip}
use Rattle.std.specs.Borrow.{Bor}
use Rattle.std.specs.Map.Iter.{deref_pair}
use Rattle.std.specs.Option.{option_map}
use Rattle.std.proofs.lemmas.List.{append-nil, drop-map, length-map, map-append, take-map}
use Rattle.std.proofs.lemmas.List.Sums.{sum_by-cons, sum_by_more}
use Rattle.std.proofs.lemmas.Map.Entries.{length-keys_of}
use Rattle.std.proofs.lemmas.Option.{slice_get_within}
use Rattle.bptree_arguments.specs.CountLaws.{CountsKeys, sum_counts}
use Rattle.bptree_arguments.specs.declared.count.Count.{Count}
use Rattle.bptree_arguments.proofs.CountLemmas.{sum_by-lengths}
use Rattle.bptree_search.specs.ByArgument.{IsSubtree}
use Rattle.bptree_search.proofs.Child.{tree_below}
use Rattle.bptree_search.proofs.Summed.{are_pieces, down, get_early, get_past, summaries, whole}
use Rattle.bptree_keys.specs.declared.node_id.InnerNodeId.{InnerNodeId}
use Rattle.bptree_keys.specs.declared.node_id.LeafNodeId.{LeafNodeId}
use Rattle.bptree_keys.specs.declared.node_id.NodeId.{NodeId}
use Rattle.bptree_keys.specs.declared.node_id.NodeId.TheVariants as kind
use Rattle.bptree_nodes.specs.Inner.{Inner}
use Rattle.bptree_nodes.specs.Leaf.{Leaf}
use Rattle.bptree_nodes.specs.Slot.{Slot, Slots, Present}
use Rattle.bptree_invariant.specs.Order.{flat}
use Rattle.bptree_invariant.specs.Shape.{leaf_pairs, pairs_at}
use Rattle.bptree_invariant.proofs.Ends.{shown}
use Rattle.bptree_invariant.proofs.NodePieces.{keys_each}
use Rattle.bptree_batches.specs.Each.{result_each}
use Rattle.bptree_batches.specs.SelectWays.{IsChildIndexOf, IsSelectWay}
use Rattle.bptree_batches.proofs.EachLemmas.{returned_more, mapped_group_more, all_returned}

-- the sum with four more counts
pub four_more : (counts : List Count) (i : ℕ) (d : Count) → i + 4 ≤ length counts
    → sum_counts (take (i + 4) counts) ≡ sum_counts (take i counts) + ((get_or counts i d).0 + (get_or counts (i + 1) d).0 + ((get_or counts (i + 2) d).0 + (get_or counts (i + 3) d).0))
four_more counts i d within =
    let n = λ (x : Count). x.0 in
    let two : i + 1 + 1 ≡ i + 2 = omega arith in
    let three : i + 2 + 1 ≡ i + 3 = omega arith in
    let four : i + 3 + 1 ≡ i + 4 = omega arith in
    let first = sum_by_more n counts i d (omega arith) in
    let second = rw two at (sum_by_more n counts (i + 1) d (omega arith)) in
    let third = rw three at (sum_by_more n counts (i + 2) d (omega arith)) in
    let last = rw four at (sum_by_more n counts (i + 3) d (omega arith)) in
    omega arith

module _ {C K V : Type 0} (f : C → List (K × V)) where
  -- the pair at what is left of an index, in the part that was reached, is the pair at the index in
  -- the whole
  found_along : (counts : List Count) (cs : List C) (i rest : ℕ) (c : C) → AllZip CountsKeys counts (keys_each f cs) → slice_get cs i ≡ Some c → (suc i < length counts → rest + sum_counts (take i counts) < sum_counts (take (suc i) counts))
      → slice_get (f c) rest ≡ slice_get (flat f cs) (rest + sum_counts (take i counts))
  found_along counts [] i rest c zip read ends = cc
  found_along [] (b ∷ cs) i rest c zip read ends = absurd zip
  found_along (a ∷ []) (b ∷ []) zero rest c zip read ends = let same : b ≡ c = cc in rw (← same, append-nil (f b)) (ap (slice_get (f b)) (omega arith))
  found_along (a ∷ []) (b ∷ d ∷ cs) zero rest c zip read ends = absurd zip.1
  found_along (a ∷ e ∷ counts) (b ∷ cs) zero rest c zip read ends =
      let same : b ≡ c = cc in
      let long : a.0 ≡ length (f b) = zip.0 ∙ length-keys_of (f b) in
      let short : rest < length (f b) = omega (arith, long, ends (omega arith), sum_by-cons (λ (x : Count). x.0) a []) in
      rw (← same) (sym (get_early (f b) (flat f cs) rest short) ∙ ap (slice_get (f b ++ flat f cs)) (omega arith))
  found_along (a ∷ counts) (b ∷ cs) (suc i) rest c zip read ends =
      let long : a.0 ≡ length (f b) = zip.0 ∙ length-keys_of (f b) in
      let first = sum_by-cons (λ (x : Count). x.0) a (take i counts) in
      let more = sum_by-cons (λ (x : Count). x.0) a (take (suc i) counts) in
      let moved : length (f b) + (rest + sum_counts (take i counts)) ≡ rest + sum_counts (take (suc i) (a ∷ counts)) = omega (arith, long, first) in
      found_along counts cs i rest c zip.1 read (λ later. omega (arith, first, more, ends (omega (arith, later))))
      ∙ (sym (get_past (f b) (flat f cs) (rest + sum_counts (take i counts))) ∙ ap (slice_get (f b ++ flat f cs)) moved)

module _ {K V : Type 0} {cmp : K → K → Ordering} (total : IsTotalOrder cmp) (slots : Slots (Inner K Count) (Leaf K V)) where
  -- one level of a descent
  pub select_to_child : (h : ℕ) (id : NodeId) (inner : InnerNodeId) (node : Inner K Count) (counts : List Count) (index : ℕ) (way : ℕ × ℕ) (child : NodeId) → id ≡ kind.Inner inner → IsSubtree cmp CountsKeys slots h id
      → slots.inner inner.0 ≡ Present node → counts ≡ node.arguments → IsChildIndexOf counts index way → slice_get node.children way.0 ≡ Some child → IsSelectWay cmp slots h id (h - 1) index (child, way.1)
  select_to_child h id inner node counts index way child is s e are at read =
      record {
        subtree = tree_below total CountsKeys slots h id inner node s is e way.0 child (slice_get_within node.children way.0 child read) read;
        leads = rw is (at_height h (rw is at s));
      }
    where
      at_height : (h : ℕ) → IsSubtree cmp CountsKeys slots h (kind.Inner inner) → slice_get (pairs_at slots (h - 1) child) way.1 ≡ slice_get (pairs_at slots h (kind.Inner inner)) index
      at_height zero s = absurd s.stored.tree
      at_height (suc h) s =
          let zip = subst (λ l. AllZip CountsKeys l (keys_each (pairs_at slots h) node.children)) (sym are) (summaries total CountsKeys slots h inner node s e) in
          let ends : suc way.0 < length counts → way.1 + sum_counts (take way.0 counts) < sum_counts (take (suc way.0) counts) = λ later. let one : suc way.0 ≡ way.0 + 1 = omega arith in rw (at.passed.left, one) (at.ends (omega (arith, later))) in
          rw (down total CountsKeys slots h, whole total CountsKeys slots h inner node s e, ← at.passed.left) (found_along (pairs_at slots h) counts node.children way.0 way.1 child zip read ends)

  -- the sum of the counts of a node is below 2 ^ 64
  pub counts_fit : (h : ℕ) (id : NodeId) (inner : InnerNodeId) (node : Inner K Count) (counts : List Count) → id ≡ kind.Inner inner → IsSubtree cmp CountsKeys slots h id → slots.inner inner.0 ≡ Present node → counts ≡ node.arguments → sum_counts counts < 2 ^ 64
  counts_fit h id inner node counts is s e are = rw are (at_height h (rw is at s))
    where
      at_height : (h : ℕ) → IsSubtree cmp CountsKeys slots h (kind.Inner inner) → sum_counts node.arguments < 2 ^ 64
      at_height zero s = absurd s.stored.tree
      at_height (suc h) s =
          omega (arith, sum_by-lengths (λ (x : Count). x.0) node.arguments (keys_each (pairs_at slots h) node.children) (summaries total CountsKeys slots h inner node s e), (are_pieces total CountsKeys slots h inner node s e).fits)

  -- a descent that continues another one
  pub select_on : (top : ℕ) (root : NodeId) (h m : ℕ) (index : ℕ) (way next : NodeId × ℕ) → IsSelectWay cmp slots top root h index way → IsSelectWay cmp slots h way.0 m way.1 next → IsSelectWay cmp slots top root m index next
  select_on top root h m index way next first second = record { subtree = second.subtree; leads = second.leads ∙ first.leads }

-- the pair that a leaf that was read returns at an index
pub pair_in_leaf : {K V A : Type 0} (slots : Slots (Inner K A) (Leaf K V)) (id : NodeId) (leaf : LeafNodeId) (node : Leaf K V) (index : ℕ) (found : Option (Bor K × Bor V)) → id ≡ kind.Leaf leaf → slots.leaf leaf.0 ≡ Present node
    → IfSome found (λ p. slice_get node.pairs index ≡ Some (p.0.now, p.1.now)) → IsSome found ↔ (index < length node.pairs) → option_map deref_pair found ≡ slice_get (pairs_at slots 0 id) index
pair_in_leaf {K} {V} slots id leaf node index found is e value variant =
    shown node.pairs index found value variant
    ∙ (ap (λ (x : Slot (Leaf K V)). slice_get (leaf_pairs x) index) (sym e) ∙ ap (λ (i : NodeId). slice_get (pairs_at slots 0 i) index) (sym is))

module _ {X Y : Type 0} (g : X → Y) where
  map-slice_set : (xs : List X) (i : ℕ) (x : X) → map g (slice_set xs i x) ≡ slice_set (map g xs) i (g x)
  map-slice_set [] i x = refl
  map-slice_set (y ∷ ys) zero x = refl
  map-slice_set (y ∷ ys) (suc i) x = ap (λ l. g y ∷ l) (map-slice_set ys i x)

  map-put_mid : (i k : ℕ) (xs ys : List X) → map g (put_mid i k xs ys) ≡ put_mid i k (map g xs) (map g ys)
  map-put_mid i k xs ys =
      let rest = drop k (drop i xs) in
      rw (map-append g (take i xs) (ys ++ rest), map-append g ys rest, ← take-map g i xs, ← drop-map g k (drop i xs), ← drop-map g i xs) refl

  -- one more result, for results that are compared under a map
  pub shown_more : {K : Type 0} (f : K → Y) (keys : List K) (olds now : List X) (i : ℕ) (k : K) (x : X) → map g now ≡ result_each (λ k old. f k) (take i keys) (map g olds) → i < length keys → length olds ≡ length keys → g x ≡ f (get_or keys i k)
      → map g (slice_set now i x) ≡ result_each (λ k old. f k) (take (i + 1) keys) (map g olds)
  shown_more f keys olds now i k x so_far within long outcome =
      map-slice_set now i x ∙ returned_more (λ k old. f k) keys (map g olds) (map g now) i k (g x) so_far within (length-map olds g ∙ long) (λ old. outcome)

  -- the results of one more group
  pub shown_group_more : {K : Type 0} (f : K → Y) (keys : List K) (olds now part : List X) (i k j : ℕ) → map g now ≡ result_each (λ k old. f k) (take i keys) (map g olds) → i + k ≡ j → j ≤ length keys → length olds ≡ length keys → length now ≡ length keys
      → map g part ≡ map f (take k (drop i keys)) → map g (put_mid i k now part) ≡ result_each (λ k old. f k) (take j keys) (map g olds)
  shown_group_more f keys olds now part i k j so_far end within long same outcomes =
      map-put_mid i k now part ∙ mapped_group_more f keys (map g olds) (map g now) (map g part) i k j so_far end within (length-map olds g ∙ long) (length-map now g ∙ same) outcomes

  -- the results of all keys
  pub all_shown : {K : Type 0} (f : K → Y) (keys : List K) (olds now : List X) (n : ℕ) → map g now ≡ result_each (λ k old. f k) (take n keys) (map g olds) → length keys ≤ n → length olds ≡ length keys → map g now ≡ map f keys
  all_shown f keys olds now n so_far end same = all_returned f keys (map g olds) (map g now) n so_far end (length-map olds g ∙ same)
