-- A pair is put in a leaf, which may be split.
use Rattle.std.proofs.Common.{◌≡◌, ℕ, ◌+◌, ◌≤◌, inl, inr, Bool, true, false, cond, List, [], ◌∷◌, ◌++◌, length, refl, sym, ap, subst, ◌∙◌, arith, Option, Some, None, eqb}
use Rattle.std.specs.declared.cmp.Ordering.{Ordering}
use Rattle.std.specs.declared.cmp.Ordering.TheVariants.{Less}
use Rattle.std.specs.Ordering.{is_lt}
use Rattle.std.specs.Cmp.{IsTotalOrder}
use Rattle.std.specs.List.{AllByRecursion}
use Rattle.std.specs.Map.{keys_of}
use Rattle.std.proofs.lemmas.Bool.Decides.{eqb_tells}
use Rattle.std.proofs.lemmas.Cmp.{alike_right, tied_itself}
use Rattle.std.proofs.lemmas.Map.Keys.{sorted_head}
use Rattle.bptree_keys.specs.Contents.{IsAscending, has, put}
use Rattle.bptree_nodes.specs.Inner.{Inner}
use Rattle.bptree_nodes.specs.Leaf.{Leaf}
use Rattle.bptree_nodes.specs.Slot.{Slot, Slots, Present, IsPresent, UpdatesLeaf}
use Rattle.bptree_keys.specs.declared.node_id.LeafNodeId.{LeafNodeId}
use Rattle.bptree_keys.specs.declared.node_id.NodeId.TheVariants as kind
use Rattle.bptree_keys.proofs.Around.{put_around}
use Rattle.bptree_keys.proofs.KeptKeys.{all_put}
use Rattle.bptree_keys.proofs.PieceLemmas.{AllByRecursion-left, AllByRecursion-right, AllByRecursion-weaker}
use Rattle.bptree_keys.proofs.Laws.{put_ascending}
use Rattle.bptree_keys.proofs.Updates.{length_put}
use Rattle.bptree_keys.proofs.Ascending.{all_pairs, greater_turned}
use Rattle.bptree_propagation.specs.Change.{StartsAt, SplitsLeaf}
use Rattle.bptree_invariant.specs.Edit.{IsLocal, Stays, Gains, Edits}
use Rattle.bptree_invariant.specs.Order.{AtLeast, AtMost, Under, Within, Between}
use Rattle.bptree_invariant.specs.Shape.{leaf_pairs, leaf_count, stored, IsTree}
use Rattle.bptree_invariant.specs.Outcome.{Done, Split}
use Rattle.bptree_invariant.proofs.Agreeing.{stored_if_absent}
use Rattle.bptree_invariant.proofs.Ordered.{not_less_back, smaller_before, ascending_after}
use Rattle.bptree_invariant.proofs.Spot.{ascending_before}

-- putting a pair is a local edit: it leaves the pairs of smaller and of greater keys as they are
pub put_is_local : {K V : Type 0} (cmp : K → K → Ordering) (k : K) (v : V) → IsLocal cmp k (λ l. put cmp l k v)
put_is_local cmp k v = record { around = λ before l after smaller greater. put_around cmp k before l after smaller greater v }

pub all_both : {X : Type 0} (P Q : X → Type 0) (xs : List X) → AllByRecursion P xs → AllByRecursion Q xs → AllByRecursion (λ x. P x × Q x) xs
all_both P Q [] first second = tt
all_both P Q (x ∷ xs) first second = ((first.0, second.0), all_both P Q xs first.1 second.1)

has_one : (there : Bool) (n : ℕ) → n ≤ cond there n (n + 1)
has_one true n = omega arith
has_one false n = omega arith

module _ {K V : Type 0} {cmp : K → K → Ordering} (total : IsTotalOrder cmp) where
  -- the keys before a separator are smaller
  pub below_start : (s : K) (xs ys : List (K × V)) → IsAscending cmp (xs ++ ys) → StartsAt cmp s ys → AllByRecursion (λ p. cmp p.0 s ≡ Less) xs
  below_start s xs [] ascending start = absurd start
  below_start s xs (y ∷ ys) ascending start =
      AllByRecursion-weaker _ _ (λ p less. alike_right total s y.0 p.0 start ∙ less) xs (smaller_before total xs y ys ascending)

  -- the keys from a separator on are not smaller
  pub from_start : (s : K) (ys : List (K × V)) → IsAscending cmp ys → StartsAt cmp s ys → AllByRecursion (λ p. is_lt (cmp p.0 s) ≡ false) ys
  from_start s [] ascending start = tt
  from_start s (y ∷ ys) ascending start = (
    ap is_lt (alike_right total s y.0 y.0 start ∙ tied_itself total y.0),
    all_pairs (λ key. cmp y.0 key ≡ Less) (λ key. is_lt (cmp key s) ≡ false) (λ key less. ap is_lt (alike_right total s y.0 key start ∙ greater_turned cmp total y.0 key less)) ys (sorted_head cmp y.0 (keys_of ys) ascending),
  )

  -- a separator is between the bounds of the keys that it begins
  pub start_between : (lo hi : Option K) (s : K) (ys : List (K × V)) → AllByRecursion (λ p. Within cmp lo hi p.0) ys → StartsAt cmp s ys → Between cmp lo hi s
  start_between lo hi s [] all start = absurd start
  start_between lo hi s (y ∷ ys) all start = (at_least lo all.0.0, at_most hi all.0.1)
    where
      at_least : (b : Option K) → AtLeast cmp b y.0 → AtLeast cmp b s
      at_least None h = tt
      at_least (Some b) h = ap is_lt (total.congr s y.0 b start) ∙ h

      at_most : (b : Option K) → Under cmp b y.0 → AtMost cmp b s
      at_most None h = tt
      at_most (Some b) h = not_less_back total s b (total.congr s y.0 b start ∙ h)

-- the pairs of a leaf are edited, and the leaf keeps its id
module _ {K V A : Type 0} (cmp : K → K → Ordering) (is_summary : A → List K → Type 0) (edit : List (K × V) → List (K × V)) (kept : ℕ) (old new : Slots (Inner K A) (Leaf K V)) (leaf : LeafNodeId) (k : K) (node : Leaf K V) (here : old.leaf leaf.0 ≡ Present node)
    (updates : UpdatesLeaf old new leaf.0 (Present (record node { pairs = edit node.pairs }))) where
  stored_stay : (n : ℕ) → stored (old.leaf n) ≡ stored (new.leaf n)
  stored_stay n = elim (eqb_tells n leaf.0) [ inl same ↦ rw (same.1, here, updates.leaf.changed) refl | inr other ↦ ap stored (sym (updates.leaf.others n other.1)) ]

  pub leaf_changed : ((least : ℕ) (lo hi : Option K) → least ≤ kept → IsTree cmp old least 0 (kind.Leaf leaf) lo hi → Within cmp lo hi k
      → AllByRecursion (λ p. Within cmp lo hi p.0) (edit node.pairs) × IsAscending cmp (edit node.pairs) × (least ≤ length (edit node.pairs)) × (length (edit node.pairs) ≤ 64))
      → Edits cmp is_summary edit kept old new 0 (kind.Leaf leaf) k leaf Stays Done
  leaf_changed right = record {
    tree = λ least lo hi low tree fits. let r = right least lo hi low tree fits in rw updates.leaf.changed (tt, r.0, r.1, r.2, r.3);
    pairs = rw (updates.leaf.changed, here) refl;
    leaves = λ n. ap (λ m. leaf_count old 0 (kind.Leaf leaf) n + m) (stored_stay n);
    inners = λ n. ap (λ (f : ℕ → Slot (Inner K A)). 0 + stored (f n)) (sym updates.inner);
    other_leaves = λ n none there. elim (eqb_tells leaf.0 n) [ inl same ↦ absurd (let z : 1 ≡ 0 = rw same.0 at none in omega arith) | inr other ↦ updates.leaf.others n (λ q. other.1 (sym q)) ];
    other_inners = λ n none there. ap (λ (f : ℕ → Slot (Inner K A)). f n) updates.inner;
    order = record { before = []; after = []; was = refl; is = refl };
    links = rw (updates.leaf.changed, here) (refl, refl);
    untouched = λ x other spares there. rw (updates.leaf.others x.0 other) ((refl, refl), there);
    summed = λ old_sums. tt;
  }

module _ {K V A : Type 0} {cmp : K → K → Ordering} (total : IsTotalOrder cmp) (is_summary : A → List K → Type 0) (old new : Slots (Inner K A) (Leaf K V)) (leaf : LeafNodeId) (k : K) (v : V) (node : Leaf K V) (here : old.leaf leaf.0 ≡ Present node) where
  abbrev now : List (K × V)
  now = put cmp node.pairs k v

  module _ (least : ℕ) (lo hi : Option K) (tree : IsTree cmp old least 0 (kind.Leaf leaf) lo hi) where
    sorted : IsAscending cmp node.pairs
    sorted = subst (λ (x : Slot (Leaf K V)). IsAscending cmp (leaf_pairs x)) here tree.2

    ascends_now : IsAscending cmp now
    ascends_now = put_ascending cmp total node.pairs sorted k v

    within_now : Within cmp lo hi k → AllByRecursion (λ p. Within cmp lo hi p.0) now
    within_now fits = all_put (Within cmp lo hi) cmp node.pairs k v fits (subst (λ (x : Slot (Leaf K V)). AllByRecursion (λ p. Within cmp lo hi p.0) (leaf_pairs x)) here tree.1)

    long_now : least ≤ length now
    long_now =
        let long : least ≤ length node.pairs = subst (λ (x : Slot (Leaf K V)). least ≤ length (leaf_pairs x)) here tree.3 in
        omega (arith, long, length_put cmp total node.pairs sorted k v, has_one (has cmp node.pairs k) (length node.pairs))

  -- a pair is put in a leaf that has room for it
  pub leaf_edited : UpdatesLeaf old new leaf.0 (Present (record node { pairs = put cmp node.pairs k v })) → length (put cmp node.pairs k v) ≤ 64 → Edits cmp is_summary (λ l. put cmp l k v) 16 old new 0 (kind.Leaf leaf) k leaf Stays Done
  leaf_edited updates room =
      leaf_changed cmp is_summary (λ l. put cmp l k v) 16 old new leaf k node here updates (λ least lo hi low tree fits. (within_now least lo hi tree fits, ascends_now least lo hi tree, long_now least lo hi tree, room))

  module _ (fresh : LeafNodeId) (left right : List (K × V)) (s : K) (splits : SplitsLeaf old new leaf fresh node now left right) (start : StartsAt cmp s right) where
    apart : leaf.0 ≡ fresh.0 → ⊥
    apart same = splits.absent (subst (λ n. IsPresent (old.leaf n)) same (rw here tt))

    split_tree : (least : ℕ) (lo hi : Option K) → IsTree cmp old least 0 (kind.Leaf leaf) lo hi → Within cmp lo hi k
        → IsTree cmp new 16 0 (kind.Leaf leaf) lo (Some s) × Between cmp lo hi s × IsTree cmp new 16 0 (kind.Leaf fresh) (Some s) hi
    split_tree least lo hi tree fits =
        let all : AllByRecursion (λ p. Within cmp lo hi p.0) (left ++ right) = rw splits.parts (within_now least lo hi tree fits) in
        let up : IsAscending cmp (left ++ right) = rw splits.parts (ascends_now least lo hi tree) in
        let up_right = ascending_after total left right up in
        let left_in = AllByRecursion-left (λ p. Within cmp lo hi p.0) left right all in
        let right_in = AllByRecursion-right (λ p. Within cmp lo hi p.0) left right all in
        rw (splits.at_left, splits.at_right) (
          (tt, all_both (λ p. AtLeast cmp lo p.0) (λ p. cmp p.0 s ≡ Less) left (AllByRecursion-weaker _ _ (λ p w. w.0) left left_in) (below_start total s left right up start), ascending_before cmp left right up, splits.left_least, splits.left_most),
          start_between total lo hi s right right_in start,
          (tt, all_both (λ p. is_lt (cmp p.0 s) ≡ false) (λ p. Under cmp hi p.0) right (from_start total s right up_right start) (AllByRecursion-weaker _ _ (λ p w. w.1) right right_in), up_right, splits.right_least, splits.right_most),
        )

    split_stored : (n : ℕ) → cond (eqb fresh.0 n) 1 0 + stored (old.leaf n) ≡ stored (new.leaf n)
    split_stored n =
        elim (eqb_tells fresh.0 n) [
          | inl same ↦ (rw (same.0, ← same.1, splits.at_right) (omega (arith, stored_if_absent (old.leaf fresh.0) splits.absent)))
          | inr other ↦ (rw other.0
              (elim (eqb_tells n leaf.0) [
                | inl same ↦ rw (same.1, here, splits.at_left) refl
                | inr far ↦ rw (splits.others n far.1 (λ q. other.1 (sym q))) (omega arith)
              ]))
        ]

    untouched_by_split : (n : ℕ) → (n ≡ leaf.0 → ⊥) → IsPresent (old.leaf n) → new.leaf n ≡ old.leaf n
    untouched_by_split n other there = splits.others n other (λ q. splits.absent (subst (λ m. IsPresent (old.leaf m)) q there))

    -- a pair is put in a full leaf, which is split
    pub leaf_split : Edits cmp is_summary (λ l. put cmp l k v) 16 old new 0 (kind.Leaf leaf) k leaf (Gains fresh) (Split s (kind.Leaf fresh))
    leaf_split = record {
      tree = λ least lo hi low. split_tree least lo hi;
      pairs = rw (splits.at_left, splits.at_right, here) splits.parts;
      leaves = λ n. omega (arith, split_stored n);
      inners = λ n. ap (λ (f : ℕ → Slot (Inner K A)). 0 + stored (f n)) (sym splits.inner);
      other_leaves = λ n none there. elim (eqb_tells leaf.0 n) [ inl same ↦ absurd (let z : 1 ≡ 0 = rw same.0 at none in omega arith) | inr other ↦ untouched_by_split n (λ q. other.1 (sym q)) there ];
      other_inners = λ n none there. ap (λ (f : ℕ → Slot (Inner K A)). f n) splits.inner;
      order = record { before = []; after = []; was = refl; is = refl };
      links = rw (splits.at_left, splits.at_right, here) (refl, refl, refl, refl);
      untouched = λ x other spares there. rw (untouched_by_split x.0 other there) ((refl, refl), there);
      summed = λ old_sums. (tt, tt);
    }
