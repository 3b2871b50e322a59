-- Changes of a store's slots are undone.
use Rattle.std.proofs.Common.{◌≡◌, ℕ, ◌≤◌, List, ◌++◌, inl, inr, length, refl, sym, ap, ◌∙◌, Some, slice_get, slice_set}
use Rattle.std.specs.declared.cmp.Ordering.{Ordering}
use Rattle.std.specs.List.{insert, remove}
use Rattle.std.proofs.lemmas.Bool.{cases_eq}
use Rattle.bptree_nodes.specs.Inner.{Inner}
use Rattle.bptree_nodes.specs.Leaf.{Leaf}
use Rattle.bptree_nodes.specs.Slot.{Slot, Slots, Free, Held, Present, UpdatesInner, UpdatesLeaf}
use Rattle.bptree_keys.specs.declared.node_id.InnerNodeId.{InnerNodeId}
use Rattle.bptree_keys.specs.declared.node_id.LeafNodeId.{LeafNodeId}
use Rattle.bptree_nodes.proofs.Inverses.{taken_back}
use Rattle.bptree_propagation.specs.Change.{Keeps}
use Rattle.bptree_propagation.specs.LeafChange.{Adds, DividesLeaf}
use Rattle.bptree_propagation.specs.Sums.{with_summary}
use Rattle.bptree_propagation.specs.declared.node_changes.NodeSplit.{NodeSplit}
use Rattle.bptree_propagation.proofs.NodeChanges.{sum_back}
use Rattle.bptree_invariant.proofs.ListReads.{read_below}

pub same_node : {N : Type 0} (slot : Slot N) (a b : N) → slot ≡ Present a → slot ≡ Present b → a ≡ b
same_node slot a b e f = let z : Present a ≡ Present b = sym e ∙ f in cc

-- a node changes, and is again what it was
pub node_back : {K V A : Type 0} (was now new : Slots (Inner K A) (Leaf K V)) (id : InnerNodeId) (node is back : Inner K A) → was.inner id.0 ≡ Present node → UpdatesInner was now id.0 (Present is) → UpdatesInner now new id.0 (Present back) → back ≡ node → new ≡ was
node_back {K} {V} {A} was now new id node is back here changes undoes same = λ i. record { inner = λ n. each n i; leaf = (undoes.leaf ∙ changes.leaf) i }
  where
    each : (n : ℕ) → new.inner n ≡ was.inner n
    each n =
        elim (cases_eq n id.0) [
          | inl at ↦ (rw at (undoes.inner.changed ∙ (ap Present same ∙ sym here)))
          | inr other ↦ undoes.inner.others n other ∙ changes.inner.others n other
        ]

-- a node takes another summary of a child, and then the old one again
pub restored : {K V A : Type 0} (was now new : Slots (Inner K A) (Leaf K V)) (id : InnerNodeId) (index : ℕ) (node : Inner K A) (a old out : A) → was.inner id.0 ≡ Present node → slice_get node.arguments index ≡ Some old
    → Keeps was now id index a node → Keeps now new id index old (with_summary node index a) × (slice_get (slice_set node.arguments index a) index ≡ Some out) → (new ≡ was) × (out ≡ a)
restored was now new id index node a old out here read keeps back =
    let undone = sum_back node (with_summary node index a) (with_summary (with_summary node index a) index old) index a old out refl (read_below node.arguments index old read) read back.1 refl in
    (node_back was now new id node _ _ here (record { inner = keeps.sets; leaf = keeps.leaf }) (record { inner = back.0.sets; leaf = back.0.leaf }) undone.0, undone.1)

-- a pair that was put into a leaf is removed again
pub pair_back : {K V : Type 0} (from put back : Leaf K V) (slot : ℕ) (pair out : K × V) → put ≡ record from { pairs = insert from.pairs slot pair } → slot ≤ length from.pairs → slice_get put.pairs slot ≡ Some out → back ≡ record put { pairs = remove put.pairs slot }
    → (back ≡ from) × (out ≡ pair)
pair_back {K} {V} from put back slot pair out is within got set =
    let taken = taken_back from.pairs put.pairs (remove put.pairs slot) slot pair out (ap (λ (l : Leaf K V). l.pairs) is) within got refl in (
      set ∙ (ap (λ ps. record put { pairs = ps }) taken.0 ∙ ap (λ (l : Leaf K V). record l { pairs = from.pairs }) is),
      taken.1,
    )

pub leaf_taken_back : {K V A : Type 0} (was now mid new : Slots (Inner K A) (Leaf K V)) (id : LeafNodeId) (slot : ℕ) (node from back : Leaf K V) (pair out : K × V) → was.leaf id.0 ≡ Present node → slot ≤ length node.pairs → Adds was now id slot pair node
    → now.leaf id.0 ≡ Present from → UpdatesLeaf now mid id.0 Held → slice_get from.pairs slot ≡ Some out → back ≡ record from { pairs = remove from.pairs slot } → UpdatesLeaf mid new id.0 (Present back) → (new ≡ was) × (out ≡ pair)
leaf_taken_back {K} {V} {A} was now mid new id slot node from back pair out here within adds there taken got set put =
    (λ i. record { inner = (put.inner ∙ (taken.inner ∙ adds.inner)) i; leaf = λ n. each n i }, undone.1)
  where
    is : from ≡ record node { pairs = insert node.pairs slot pair }
    is = same_node (now.leaf id.0) from (record node { pairs = insert node.pairs slot pair }) there adds.leaf.changed

    undone : (back ≡ node) × (out ≡ pair)
    undone = pair_back node from back slot pair out is within got set

    each : (n : ℕ) → new.leaf n ≡ was.leaf n
    each n =
        elim (cases_eq n id.0) [
          | inl at ↦ (rw at (put.leaf.changed ∙ (ap Present undone.0 ∙ sym here)))
          | inr other ↦ put.leaf.others n other ∙ (taken.leaf.others n other ∙ adds.leaf.others n other)
        ]

-- the split of a leaf is undone
module _ {K V A : Type 0} (cmp : K → K → Ordering) (was now first second third new : Slots (Inner K A) (Leaf K V)) (id fresh : LeafNodeId) (slot : ℕ) (node from half back : Leaf K V) (pair out : K × V) (division : NodeSplit K A)
    (here : was.leaf id.0 ≡ Present node) (within : slot ≤ length node.pairs) (divides : DividesLeaf cmp was now id slot pair node division fresh)
    (there : now.leaf id.0 ≡ Present from) (behind : first.leaf fresh.0 ≡ Present half) (taken : UpdatesLeaf now first id.0 Held) (took : UpdatesLeaf first second fresh.0 Held)
    (put : UpdatesLeaf second third id.0 (Present back)) (freed : UpdatesLeaf third new fresh.0 Free) where
  apart : id.0 ≡ fresh.0 → ⊥
  apart same = let z : Present node ≡ Free = sym here ∙ (ap was.leaf same ∙ divides.free) in cc

  left_is : from ≡ record node { pairs = divides.left; next = Some fresh }
  left_is = same_node (now.leaf id.0) from (record node { pairs = divides.left; next = Some fresh }) there divides.at_left

  right_is : half ≡ record { pairs = divides.right; prev = Some id; next = node.next }
  right_is = same_node (now.leaf fresh.0) half (record { pairs = divides.right; prev = Some id; next = node.next }) (sym (taken.leaf.others fresh.0 (λ same. apart (sym same))) ∙ behind) divides.at_right

  pub leaves_joined : ((w : List (K × V)) (item : K × V) → from.pairs ++ half.pairs ≡ insert w slot item → slot ≤ length w → (back.pairs ≡ w) × (out ≡ item)) → back.prev ≡ from.prev → back.next ≡ half.next → (new ≡ was) × (out ≡ pair)
  leaves_joined undoes prev next = (λ i. record { inner = (freed.inner ∙ (put.inner ∙ (took.inner ∙ (taken.inner ∙ divides.inner)))) i; leaf = λ n. each n i }, undone.1)
    where
      undone : (back.pairs ≡ node.pairs) × (out ≡ pair)
      undone = undoes node.pairs pair (rw (left_is, right_is) divides.parts) within

      is : back ≡ node
      is = λ i. record { pairs = undone.0 i; prev = (prev ∙ ap (λ (l : Leaf K V). l.prev) left_is) i; next = (next ∙ ap (λ (l : Leaf K V). l.next) right_is) i }

      each : (n : ℕ) → new.leaf n ≡ was.leaf n
      each n =
          elim (cases_eq n fresh.0) [
            | inl at ↦ (rw at (freed.leaf.changed ∙ sym divides.free))
            | inr far ↦ elim (cases_eq n id.0) [
              | inl at ↦ (freed.leaf.others n far ∙ rw at (put.leaf.changed ∙ (ap Present is ∙ sym here)))
              | inr other ↦ freed.leaf.others n far ∙ (put.leaf.others n other ∙ (took.leaf.others n far ∙ (taken.leaf.others n other ∙ divides.others n other far)))
            ]
          ]

-- a leaf that is written with what it was changes no slot
pub leaf_unwritten : {K V A : Type 0} (old new : Slots (Inner K A) (Leaf K V)) (id : LeafNodeId) (from back : Leaf K V) → old.leaf id.0 ≡ Present from → UpdatesLeaf old new id.0 (Present back) → back ≡ from → new ≡ old
leaf_unwritten {K} {V} {A} old new id from back here put same = λ i. record { inner = put.inner i; leaf = λ n. each n i }
  where
    each : (n : ℕ) → new.leaf n ≡ old.leaf n
    each n = elim (cases_eq n id.0) [ inl at ↦ (rw at (put.leaf.changed ∙ (ap Present same ∙ sym here))) | inr other ↦ put.leaf.others n other ]
