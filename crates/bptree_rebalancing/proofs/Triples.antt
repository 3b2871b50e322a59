-- A parent and two of its children are taken out of a store, changed, and put back.
use Rattle.std.proofs.Common.{◌≡◌, ℕ, ◌+◌, ◌<◌, ◌≤◌, List, [], ◌∷◌, ◌++◌, length, length-append, append_assoc, arith, slice_get, Some, inl, inr, refl, sym, ap, subst, ◌∙◌, Result, Ok, Err, IfOk}
use Rattle.std.specs.declared.cmp.Ordering.{Ordering}
use Rattle.std.proofs.lemmas.Bool.{cases_eq}
use Rattle.bptree_nodes.specs.Inner.{Inner}
use Rattle.bptree_nodes.specs.Leaf.{Leaf}
use Rattle.bptree_nodes.specs.Slot.{Slot, Slots, Held, Present, IsPresent, UpdatesInner, UpdatesLeaf}
use Rattle.bptree_keys.specs.declared.node_id.InnerNodeId.{InnerNodeId}
use Rattle.bptree_keys.specs.declared.node_id.LeafNodeId.{LeafNodeId}
use Rattle.bptree_keys.specs.declared.node_id.NodeId.TheVariants as kind
use Rattle.bptree_invariant.specs.Shape.{leaf_pairs, leaf_next, inner_keys, inner_children}
use Rattle.bptree_propagation.specs.Change.{StartsAt}
use Rattle.bptree_propagation.specs.LeafChange.{SumsUpLeaf}
use Rattle.bptree_propagation.proofs.Undone.{same_node}
use Rattle.bptree_rebalancing.specs.ChooseSibling.{CanGivePairs, CanGiveChild, FitInOneLeaf, FitInOneNode}
use Rattle.bptree_rebalancing.specs.RotateMerge.{MergesLeaves, RotatesInners, MergesInners, UndoesRotateInners, UndoesMergeLeaves, UndoesMergeInners, ThreeAt, MovesPairsAt, ResummarizesLeavesAt, RotatesLeavesAt, MergesLeavesAt, RotatesInnersAt, MergesInnersAt}
use Rattle.bptree_rebalancing.specs.Transfer.{other_of, CanGive, MovesPairs, ExchangesJoint}
use Rattle.bptree_rebalancing.specs.declared.rotate_merge.ParentEntry.{ParentEntry}
use Rattle.bptree_rebalancing.specs.declared.rotate_merge.Sibling.{Sibling}
use Rattle.bptree_rebalancing.specs.declared.rotate_merge.Sibling.TheVariants as sibling
use Rattle.bptree_rebalancing.specs.declared.rotate_merge.ChildSummaries.{ChildSummaries}
use Rattle.bptree_propagation.specs.Sums.{HasChildAt}
use Rattle.bptree_rebalancing.proofs.Transfers.{joint_back, pairs_moved_back, can_give_back, rotated_index, merged_index, children_left}

pub slots_same : {I L : Type 0} (x y : Slots I L) → ((n : ℕ) → x.inner n ≡ y.inner n) → ((n : ℕ) → x.leaf n ≡ y.leaf n) → x ≡ y
slots_same x y inner leaf = λ i. record { inner = λ n. inner n i; leaf = λ n. leaf n i }

abbrev three_at : {K A C : Type 0} {above above' : ℕ → Slot (Inner K A)} {below below' : ℕ → Slot C} {id left right : ℕ} {behind : Slot C} {node node' : Inner K A} {one other one' : C} → above id ≡ Present node → below left ≡ Present one → below right ≡ Present other
    → above' id ≡ Present node' → below' left ≡ Present one' → below' right ≡ behind → (left ≡ right → ⊥) → length (inner_keys (above id)) ≤ 64 → ThreeAt above above' below below' id left right behind
three_at {node = node} {node' = node'} {one = one} {other = other} {one' = one'} at_node at_left at_right is_node is_left is_right apart most = record {
  node = node;
  one = one;
  other = other;
  node' = node';
  one' = one';
  at_node = at_node;
  at_left = at_left;
  at_right = at_right;
  is_node = is_node;
  is_left = is_left;
  is_right = is_right;
  apart = apart;
  most = rw at_node at most;
}

-- the undo of a change of three nodes leaves them as they were
three_back : {K A C : Type 0} {above above' : ℕ → Slot (Inner K A)} {below below' : ℕ → Slot C} {id left right : ℕ} {last : C} {node back : Inner K A} {one other one' other' : C} (t : ThreeAt above above' below below' id left right (Present last)) (R : Inner K A → C → C → Type 0)
    → above' id ≡ Present node → below' left ≡ Present one → below' right ≡ Present other → R t.node' t.one' last → (R node one other → (back ≡ t.node) × (one' ≡ t.one) × (other' ≡ t.other))
    → (above id ≡ Present back) × (below left ≡ Present one') × (below right ≡ Present other')
three_back {above' = above'} {below' = below'} {id = id} {left = left} {right = right} {last = last} {node = node} {one = one} {other = other} t R here at_left at_right changed undoes =
    let undone = undoes (rw (same_node (above' id) node t.node' here t.is_node, same_node (below' left) one t.one' at_left t.is_left, same_node (below' right) other last at_right t.is_right) changed) in
    (t.at_node ∙ ap Present (sym undone.0), t.at_left ∙ ap Present (sym undone.1), t.at_right ∙ ap Present (sym undone.2))

module _ {K V A : Type 0} {old s1 s2 s3 s4 s5 : Slots (Inner K A) (Leaf K V)} (id : InnerNodeId) (left right : LeafNodeId) {node' : Inner K A} {one other one' : Leaf K V} (apart : left.0 ≡ right.0 → ⊥)
    (t1 : UpdatesInner old s1 id.0 Held) (v2 : s1.leaf left.0 ≡ Present one) (t2 : UpdatesLeaf s1 s2 left.0 Held) (v3 : s2.leaf right.0 ≡ Present other) (t3 : UpdatesLeaf s2 s3 right.0 Held)
    (p1 : UpdatesInner s3 s4 id.0 (Present node')) (p2 : UpdatesLeaf s4 s5 left.0 (Present one')) where
  left_was : old.leaf left.0 ≡ Present one
  left_was = sym (ap (λ (f : ℕ → Slot (Leaf K V)). f left.0) t1.leaf) ∙ v2

  right_was : old.leaf right.0 ≡ Present other
  right_was = sym (t2.leaf.others right.0 (λ e. apart (sym e)) ∙ ap (λ (f : ℕ → Slot (Leaf K V)). f right.0) t1.leaf) ∙ v3

  node_is : s5.inner id.0 ≡ Present node'
  node_is = ap (λ (f : ℕ → Slot (Inner K A)). f id.0) p2.inner ∙ p1.inner.changed

  left_is : s5.leaf left.0 ≡ Present one'
  left_is = p2.leaf.changed

  right_held : s5.leaf right.0 ≡ Held
  right_held = p2.leaf.others right.0 (λ e. apart (sym e)) ∙ (ap (λ (f : ℕ → Slot (Leaf K V)). f right.0) p1.leaf ∙ t3.leaf.changed)

  inners_stay : (n : ℕ) → (n ≡ id.0 → ⊥) → s5.inner n ≡ old.inner n
  inners_stay n far =
      ap (λ (f : ℕ → Slot (Inner K A)). f n) p2.inner ∙ (p1.inner.others n far ∙ (ap (λ (f : ℕ → Slot (Inner K A)). f n) t3.inner ∙ (ap (λ (f : ℕ → Slot (Inner K A)). f n) t2.inner ∙ t1.inner.others n far)))

  leaves_stay : (n : ℕ) → (n ≡ left.0 → ⊥) → (n ≡ right.0 → ⊥) → s5.leaf n ≡ old.leaf n
  leaves_stay n l r =
      p2.leaf.others n l ∙ (ap (λ (f : ℕ → Slot (Leaf K V)). f n) p1.leaf ∙ (t3.leaf.others n r ∙ (t2.leaf.others n l ∙ ap (λ (f : ℕ → Slot (Leaf K V)). f n) t1.leaf)))

  -- two leaves merged by such a change
  module _ {cmp : K → K → Ordering} {is_summary : A → List K → Type 0} {slot : ℕ} {joint : ParentEntry K A} {node : Inner K A} (here : old.inner id.0 ≡ Present node) where
    pub leaves_merged : {emptied : Leaf K V} → length (inner_keys (old.inner id.0)) ≤ 64 → FitInOneLeaf old left right → MergesLeaves cmp is_summary slot node one other node' one' emptied joint → MergesLeavesAt cmp is_summary slot old s5 id left right joint emptied
    leaves_merged most fits merges = record {
      three = three_at here left_was right_was node_is left_is right_held apart most;
      inners = inners_stay;
      leaves = leaves_stay;
      fits = rw (left_was, right_was) at fits;
      transfers = merges;
    }

-- pairs that were moved move back
pub pairs_back : {K V A : Type 0} {giver : Sibling} {count : ℕ} (left right : LeafNodeId) {old mid new : Slots (Inner K A) (Leaf K V)} → MovesPairsAt old mid giver count left right → (mid' : Slots (Inner K A) (Leaf K V)) → mid'.leaf ≡ mid.leaf → MovesPairsAt mid' new (other_of giver) count left right → new.leaf ≡ old.leaf
pairs_back {K} {V} {A} {giver} {count} left right {old} {mid} {new} there mid' same back = λ i n. each n i
  where
    one : back.one ≡ there.one'
    one = same_node (mid'.leaf left.0) back.one there.one' back.at_left (ap (λ (f : ℕ → Slot (Leaf K V)). f left.0) same ∙ there.is_left)

    other : back.other ≡ there.other'
    other = same_node (mid'.leaf right.0) back.other there.other' back.at_right (ap (λ (f : ℕ → Slot (Leaf K V)). f right.0) same ∙ there.is_right)

    undone : (back.one' ≡ there.one) × (back.other' ≡ there.other)
    undone = pairs_moved_back giver count there.one there.other there.one' there.other' back.one' back.other' there.moves (subst (λ (l : Leaf K V). MovesPairs (other_of giver) count l there.other' back.one' back.other') one (subst (λ (l : Leaf K V). MovesPairs (other_of giver) count back.one l back.one' back.other') other back.moves))

    each : (n : ℕ) → new.leaf n ≡ old.leaf n
    each n =
        elim (cases_eq n left.0) [
          | inl e ↦ (rw e (back.is_left ∙ (ap Present undone.0 ∙ sym there.at_left)))
          | inr l ↦ elim (cases_eq n right.0) [
            | inl e ↦ (rw e (back.is_right ∙ (ap Present undone.1 ∙ sym there.at_right)))
            | inr r ↦ back.leaves n l r ∙ (ap (λ (f : ℕ → Slot (Leaf K V)). f n) same ∙ there.leaves n l r)
          ]
        ]

module _ {K V A : Type 0} {cmp : K → K → Ordering} {is_summary : A → List K → Type 0} {slot : ℕ} {giver : Sibling} {count : ℕ} (id : InnerNodeId) (left right : LeafNodeId) {joint : ParentEntry K A} where
  -- two leaves rotated pairs, and the node above takes their summaries and a separator
  pub leaves_rotated : {old mid new : Slots (Inner K A) (Leaf K V)} → (left.0 ≡ right.0 → ⊥) → MovesPairsAt old mid giver count left right → ResummarizesLeavesAt cmp is_summary slot mid new id left right joint → RotatesLeavesAt cmp is_summary slot old new id giver count left right joint
  leaves_rotated {old} {mid} {new} apart moved reported =
      let x = reported.exchanges in
      let one = same_node (mid.leaf left.0) reported.one moved.one' reported.at_left moved.is_left in
      let other = same_node (mid.leaf right.0) reported.other moved.other' reported.at_right moved.is_right in
      let at_node : old.inner id.0 ≡ Present reported.node = sym (ap (λ (f : ℕ → Slot (Inner K A)). f id.0) moved.inner) ∙ reported.at_node in
      let leaf = reported.updates.leaf in record {
        other' = moved.other';
        three = three_at at_node moved.at_left moved.at_right reported.updates.inner.changed (ap (λ (f : ℕ → Slot (Leaf K V)). f left.0) leaf ∙ moved.is_left) (ap (λ (f : ℕ → Slot (Leaf K V)). f right.0) leaf ∙ moved.is_right) apart (rw at_node reported.most);
        inners = λ n far. reported.updates.inner.others n far ∙ ap (λ (f : ℕ → Slot (Inner K A)). f n) moved.inner;
        leaves = λ n l r. ap (λ (f : ℕ → Slot (Leaf K V)). f n) leaf ∙ moved.leaves n l r;
        can = moved.can;
        transfers = record {
          bare = x.bare;
          child = x.child;
          entry = x.entry;
          moves = moved.moves;
          rotates = record {
            left = reported.reported.left;
            separator = reported.reported.separator;
            right = reported.reported.right;
            is = x.is;
            summary = x.summary;
            reported_left = subst (λ (l : Leaf K V). SumsUpLeaf cmp is_summary l.pairs reported.reported.left) one reported.reports.reported_left;
            separates = subst (λ (l : Leaf K V). StartsAt cmp reported.reported.separator l.pairs) other reported.reports.separates;
            reported_right = subst (λ (l : Leaf K V). SumsUpLeaf cmp is_summary l.pairs reported.reported.right) other reported.reports.reported_right;
          };
        };
      }

  -- the two leaves, and the node above, are again what they were
  pub leaves_unrotated : {was now mid new : Slots (Inner K A) (Leaf K V)} → (node back : Inner K A) (out : ParentEntry K A) → RotatesLeavesAt cmp is_summary slot was now id giver count left right joint → now.inner id.0 ≡ Present node → ExchangesJoint slot node joint out back → UpdatesInner now mid id.0 (Present back) → MovesPairsAt mid new (other_of giver) count left right
      → new ≡ was
  leaves_unrotated {was} {now} {mid} {new} node back out r here x put moved =
      let three = r.three in
      let rotates = r.transfers.rotates in
      let reported : ParentEntry K A = record { left = rotates.left; separator = rotates.separator; right = rotates.right } in
      let is = same_node (now.inner id.0) node three.node' here three.is_node ∙ rotates.is in
      let undone = joint_back three.node r.transfers.bare node back slot r.transfers.child joint reported out r.transfers.entry rotates.summary is x in
      let there : MovesPairsAt was (record { inner = was.inner; leaf = now.leaf }) giver count left right = record {
        one = three.one;
        other = three.other;
        one' = three.one';
        other' = r.other';
        at_left = three.at_left;
        at_right = three.at_right;
        is_left = three.is_left;
        is_right = three.is_right;
        leaves = r.leaves;
        inner = refl;
        can = r.can;
        moves = r.transfers.moves;
      } in
      slots_same new was
      (λ n. ap (λ (f : ℕ → Slot (Inner K A)). f n) moved.inner ∙ elim (cases_eq n id.0) [
        | inl e ↦ (rw e (put.inner.changed ∙ (ap Present undone ∙ sym three.at_node)))
        | inr far ↦ put.inner.others n far ∙ r.inners n far
      ])
      (λ n. ap (λ (f : ℕ → Slot (Leaf K V)). f n) (pairs_back left right there mid put.leaf moved))

-- a parent and two children that are inner nodes are taken out, changed, and put back
module _ {K V A : Type 0} {old s1 s2 s3 s4 s5 : Slots (Inner K A) (Leaf K V)} (id left right : InnerNodeId) {node' one other one' : Inner K A} (apart : (left.0 ≡ right.0 → ⊥) × (left.0 ≡ id.0 → ⊥) × (right.0 ≡ id.0 → ⊥))
    (t1 : UpdatesInner old s1 id.0 Held) (v2 : s1.inner left.0 ≡ Present one) (t2 : UpdatesInner s1 s2 left.0 Held) (v3 : s2.inner right.0 ≡ Present other) (t3 : UpdatesInner s2 s3 right.0 Held)
    (p1 : UpdatesInner s3 s4 id.0 (Present node')) (p2 : UpdatesInner s4 s5 left.0 (Present one')) where
  one_was : old.inner left.0 ≡ Present one
  one_was = sym (t1.inner.others left.0 apart.1) ∙ v2

  other_was : old.inner right.0 ≡ Present other
  other_was = sym (t2.inner.others right.0 (λ e. apart.0 (sym e)) ∙ t1.inner.others right.0 apart.2) ∙ v3

  above_is : s5.inner id.0 ≡ Present node'
  above_is = p2.inner.others id.0 (λ e. apart.1 (sym e)) ∙ p1.inner.changed

  one_is : s5.inner left.0 ≡ Present one'
  one_is = p2.inner.changed

  other_held : s5.inner right.0 ≡ Held
  other_held = p2.inner.others right.0 (λ e. apart.0 (sym e)) ∙ (p1.inner.others right.0 apart.2 ∙ t3.inner.changed)

  rest_stay : (n : ℕ) → (n ≡ id.0 → ⊥) → (n ≡ left.0 → ⊥) → (n ≡ right.0 → ⊥) → s5.inner n ≡ old.inner n
  rest_stay n far l r = p2.inner.others n l ∙ (p1.inner.others n far ∙ (t3.inner.others n r ∙ (t2.inner.others n l ∙ t1.inner.others n far)))

  leaf_stays : s5.leaf ≡ old.leaf
  leaf_stays = p2.leaf ∙ (p1.leaf ∙ (t3.leaf ∙ (t2.leaf ∙ t1.leaf)))

  module _ (s6 : Slots (Inner K A) (Leaf K V)) (slot : Slot (Inner K A)) (p3 : UpdatesInner s5 s6 right.0 slot) where
    above_is_then : s6.inner id.0 ≡ Present node'
    above_is_then = p3.inner.others id.0 (λ e. apart.2 (sym e)) ∙ above_is

    one_is_then : s6.inner left.0 ≡ Present one'
    one_is_then = p3.inner.others left.0 apart.0 ∙ one_is

    rest_stay_then : (n : ℕ) → (n ≡ id.0 → ⊥) → (n ≡ left.0 → ⊥) → (n ≡ right.0 → ⊥) → s6.inner n ≡ old.inner n
    rest_stay_then n far l r = p3.inner.others n r ∙ rest_stay n far l r

    leaf_stays_then : s6.leaf ≡ old.leaf
    leaf_stays_then = p3.leaf ∙ leaf_stays

    all_inners_back : (was : Slots (Inner K A) (Leaf K V)) → ((n : ℕ) → (n ≡ id.0 → ⊥) → (n ≡ left.0 → ⊥) → (n ≡ right.0 → ⊥) → old.inner n ≡ was.inner n) → old.leaf ≡ was.leaf
        → (was.inner id.0 ≡ Present node') × (was.inner left.0 ≡ Present one') × (was.inner right.0 ≡ slot) → s6 ≡ was
    all_inners_back was inners leaf (here, at_left, at_right) =
        slots_same s6 was
        (λ n. elim (cases_eq n id.0) [
          | inl e ↦ (rw e (above_is_then ∙ sym here))
          | inr far ↦ elim (cases_eq n left.0) [
            | inl e ↦ (rw e (one_is_then ∙ sym at_left))
            | inr l ↦ elim (cases_eq n right.0) [ inl e ↦ (rw e (p3.inner.changed ∙ sym at_right)) | inr r ↦ rest_stay_then n far l r ∙ inners n far l r ]
          ]
        ])
        (λ n. ap (λ (f : ℕ → Slot (Leaf K V)). f n) (leaf_stays_then ∙ leaf))

  module _ {cmp : K → K → Ordering} {is_summary : A → List K → Type 0} {slot : ℕ} {sides : ChildSummaries A} {node : Inner K A} (here : old.inner id.0 ≡ Present node) where
    pub inners_merged : {emptied : Inner K A} → length (inner_keys (old.inner id.0)) ≤ 64 → FitInOneNode old left right → MergesInners cmp is_summary slot node one other node' one' emptied sides → MergesInnersAt cmp is_summary slot old s5 id left right sides emptied
    inners_merged most fits merges = record {
      three = three_at here one_was other_was above_is one_is other_held apart.0 most;
      inners = rest_stay;
      leaf = leaf_stays;
      far = (apart.1, apart.2);
      fits = rw (one_was, other_was) at fits;
      transfers = merges;
    }

    module _ {giver : Sibling} {s6 : Slots (Inner K A) (Leaf K V)} {other' : Inner K A} (p3 : UpdatesInner s5 s6 right.0 (Present other')) where
      pub inners_rotated : length (inner_keys (old.inner id.0)) ≤ 64 → CanGiveChild old giver left right → RotatesInners cmp is_summary giver slot node one other node' one' other' sides → RotatesInnersAt cmp is_summary slot old s6 id giver left right sides
      inners_rotated most can rotates = record {
        other' = other';
        three = three_at here one_was other_was (above_is_then s6 (Present other') p3) (one_is_then s6 (Present other') p3) p3.inner.changed apart.0 most;
        inners = rest_stay_then s6 (Present other') p3;
        leaf = leaf_stays_then s6 (Present other') p3;
        far = (apart.1, apart.2);
        can = rw (one_was, other_was) at can;
        transfers = rotates;
      }

      pub inners_unrotated : (was : Slots (Inner K A) (Leaf K V)) → RotatesInnersAt cmp is_summary slot was old id giver left right sides → UndoesRotateInners cmp is_summary slot sides node one other node' one' other' giver → s6 ≡ was
      inners_unrotated was r undoes =
          all_inners_back s6 (Present other') p3 was r.inners r.leaf (three_back r.three (λ x y z. RotatesInners cmp is_summary giver slot r.three.node r.three.one r.three.other x y z sides) here one_was other_was r.transfers (undoes r.three.node r.three.one r.three.other))

pub ok_so : {T E : Type 0} (r : Result T E) (P R : T → Type 0) → IfOk r P → ((x : T) → P x → R x) → IfOk r R
ok_so (Ok x) P R given turns = turns x given
ok_so (Err e) P R given turns = tt

-- a parent and the left child are taken out and put back, and the right one is stored anew
leaf_put_back : {K V A : Type 0} (old s1 s2 s4 s5 s6 was : Slots (Inner K A) (Leaf K V)) (id : InnerNodeId) (left right : LeafNodeId) (node' : Inner K A) (one' : Leaf K V) (slot : Slot (Leaf K V)) → (left.0 ≡ right.0 → ⊥)
    → UpdatesInner old s1 id.0 Held → UpdatesLeaf s1 s2 left.0 Held → UpdatesInner s2 s4 id.0 (Present node') → UpdatesLeaf s4 s5 left.0 (Present one') → UpdatesLeaf s5 s6 right.0 slot
    → ((n : ℕ) → (n ≡ id.0 → ⊥) → old.inner n ≡ was.inner n) → ((n : ℕ) → (n ≡ left.0 → ⊥) → (n ≡ right.0 → ⊥) → old.leaf n ≡ was.leaf n)
    → was.inner id.0 ≡ Present node' → was.leaf left.0 ≡ Present one' → was.leaf right.0 ≡ slot → s6 ≡ was
leaf_put_back {K} {V} {A} old s1 s2 s4 s5 s6 was id left right node' one' slot apart t1 t2 p1 p2 p3 inners leaves here at_left at_right =
    slots_same s6 was
    (λ n. elim (cases_eq n id.0) [
      | inl e ↦ (rw e (ap (λ (f : ℕ → Slot (Inner K A)). f id.0) (p3.inner ∙ p2.inner) ∙ (p1.inner.changed ∙ sym here)))
      | inr far ↦ (ap (λ (f : ℕ → Slot (Inner K A)). f n) (p3.inner ∙ p2.inner) ∙ (p1.inner.others n far ∙ (ap (λ (f : ℕ → Slot (Inner K A)). f n) t2.inner ∙ (t1.inner.others n far ∙ inners n far))))
    ])
    (λ n. elim (cases_eq n right.0) [
      | inl e ↦ (rw e (p3.leaf.changed ∙ sym at_right))
      | inr r ↦ elim (cases_eq n left.0) [
        | inl e ↦ (p3.leaf.others n r ∙ rw e (p2.leaf.changed ∙ sym at_left))
        | inr l ↦ (p3.leaf.others n r ∙ (p2.leaf.others n l ∙ (ap (λ (f : ℕ → Slot (Leaf K V)). f n) p1.leaf ∙ (t2.leaf.others n l ∙ (ap (λ (f : ℕ → Slot (Leaf K V)). f n) t1.leaf ∙ leaves n l r)))))
      ]
    ])

inner_put_back : {K V A : Type 0} (old s1 s2 s4 s5 s6 was : Slots (Inner K A) (Leaf K V)) (id left right : InnerNodeId) (node' one' : Inner K A) (slot : Slot (Inner K A)) → (left.0 ≡ right.0 → ⊥) × (left.0 ≡ id.0 → ⊥) × (right.0 ≡ id.0 → ⊥)
    → UpdatesInner old s1 id.0 Held → UpdatesInner s1 s2 left.0 Held → UpdatesInner s2 s4 id.0 (Present node') → UpdatesInner s4 s5 left.0 (Present one') → UpdatesInner s5 s6 right.0 slot
    → ((n : ℕ) → (n ≡ id.0 → ⊥) → (n ≡ left.0 → ⊥) → (n ≡ right.0 → ⊥) → old.inner n ≡ was.inner n) → old.leaf ≡ was.leaf
    → was.inner id.0 ≡ Present node' → was.inner left.0 ≡ Present one' → was.inner right.0 ≡ slot → s6 ≡ was
inner_put_back {K} {V} {A} old s1 s2 s4 s5 s6 was id left right node' one' slot apart t1 t2 p1 p2 p3 inners leaf here at_left at_right =
    slots_same s6 was
    (λ n. elim (cases_eq n right.0) [
      | inl e ↦ (rw e (p3.inner.changed ∙ sym at_right))
      | inr r ↦ elim (cases_eq n left.0) [
        | inl e ↦ (p3.inner.others n r ∙ rw e (p2.inner.changed ∙ sym at_left))
        | inr l ↦ (p3.inner.others n r ∙ (p2.inner.others n l ∙ back n r l))
      ]
    ])
    (λ n. ap (λ (f : ℕ → Slot (Leaf K V)). f n) (p3.leaf ∙ (p2.leaf ∙ (p1.leaf ∙ (t2.leaf ∙ (t1.leaf ∙ leaf))))))
  where
    back : (n : ℕ) → (n ≡ right.0 → ⊥) → (n ≡ left.0 → ⊥) → s4.inner n ≡ was.inner n
    back n r l = elim (cases_eq n id.0) [ inl e ↦ (rw e (p1.inner.changed ∙ sym here)) | inr far ↦ (p1.inner.others n far ∙ (t2.inner.others n l ∙ (t1.inner.others n far ∙ inners n far l r))) ]

-- the merge of two leaves is undone
module _ {K V A : Type 0} {cmp : K → K → Ordering} {is_summary : A → List K → Type 0} {slot kept : ℕ} {old s1 s2 s4 s5 s6 : Slots (Inner K A) (Leaf K V)} {node node' : Inner K A} (was : Slots (Inner K A) (Leaf K V)) (id : InnerNodeId) (here : old.inner id.0 ≡ Present node) (t1 : UpdatesInner old s1 id.0 Held) where
  pub leaves_unmerged_at : {joint : ParentEntry K A} {one one' emptied back : Leaf K V} (left right : LeafNodeId) → s1.leaf left.0 ≡ Present one → UpdatesLeaf s1 s2 left.0 Held → UpdatesInner s2 s4 id.0 (Present node') → UpdatesLeaf s4 s5 left.0 (Present one') → UpdatesLeaf s5 s6 right.0 (Present back)
      → MergesLeavesAt cmp is_summary slot was old id left right joint emptied → UndoesMergeLeaves cmp is_summary slot joint node one emptied node' one' back (kind.Leaf right) kept (Some right)
      → kept ≡ length (leaf_pairs (was.leaf left.0)) → slice_get (inner_children (was.inner id.0)) (slot + 1) ≡ Some (kind.Leaf right) → leaf_next (was.leaf left.0) ≡ Some right → s6 ≡ was
  leaves_unmerged_at {one = one} {one' = one'} {back = back} left right v2 t2 p1 p2 p3 m undoes long read next =
      let t = m.three in
      let there = sym (ap (λ (f : ℕ → Slot (Leaf K V)). f left.0) t1.leaf) ∙ v2 in
      let undone = undoes t.node t.one t.other (rw (same_node (old.inner id.0) node t.node' here t.is_node, same_node (old.leaf left.0) one t.one' there t.is_left) m.transfers) (rw t.at_node at read) (rw t.at_left at long) (sym (rw t.at_left at next)) in
      leaf_put_back old s1 s2 s4 s5 s6 was id left right node' one' (Present back) t.apart t1 t2 p1 p2 p3 m.inners m.leaves (t.at_node ∙ ap Present (sym undone.0)) (t.at_left ∙ ap Present (sym undone.1)) (t.at_right ∙ ap Present (sym undone.2))

  pub inners_unmerged_at : {sides : ChildSummaries A} {one one' emptied back : Inner K A} (left right : InnerNodeId) → s1.inner left.0 ≡ Present one → UpdatesInner s1 s2 left.0 Held → UpdatesInner s2 s4 id.0 (Present node') → UpdatesInner s4 s5 left.0 (Present one') → UpdatesInner s5 s6 right.0 (Present back)
      → MergesInnersAt cmp is_summary slot was old id left right sides emptied → UndoesMergeInners cmp is_summary slot sides node one emptied node' one' back (kind.Inner right) kept
      → kept ≡ length (inner_keys (was.inner left.0)) → slice_get (inner_children (was.inner id.0)) (slot + 1) ≡ Some (kind.Inner right) → s6 ≡ was
  inners_unmerged_at {one = one} {one' = one'} {back = back} left right v2 t2 p1 p2 p3 m undoes long read =
      let t = m.three in
      let there = sym (t1.inner.others left.0 m.far.0) ∙ v2 in
      let undone = undoes t.node t.one t.other (rw (same_node (old.inner id.0) node t.node' here t.is_node, same_node (old.inner left.0) one t.one' there t.is_left) m.transfers) (rw t.at_node at read) (rw t.at_left at long) in
      inner_put_back old s1 s2 s4 s5 s6 was id left right node' one' (Present back) (t.apart, m.far.0, m.far.1) t1 t2 p1 p2 p3 m.inners m.leaf (t.at_node ∙ ap Present (sym undone.0)) (t.at_left ∙ ap Present (sym undone.1)) (t.at_right ∙ ap Present (sym undone.2))

-- two inner nodes that changed with the node above are present, and their ids are held once they
-- are taken out
module _ {K V A : Type 0} {now s1 : Slots (Inner K A) (Leaf K V)} {behind : Inner K A} (was : Slots (Inner K A) (Leaf K V)) (id left right : InnerNodeId) (t : ThreeAt was.inner now.inner was.inner now.inner id.0 left.0 right.0 (Present behind)) (far : (left.0 ≡ id.0 → ⊥) × (right.0 ≡ id.0 → ⊥)) (t1 : UpdatesInner now s1 id.0 Held) where
  pub one_there : IsPresent (s1.inner left.0)
  one_there = rw (t1.inner.others left.0 far.0, t.is_left) tt

  module _ {s2 : Slots (Inner K A) (Leaf K V)} (t2 : UpdatesInner s1 s2 left.0 Held) where
    pub other_there : IsPresent (s2.inner right.0)
    other_there = rw (t2.inner.others right.0 (λ e. t.apart (sym e)), t1.inner.others right.0 far.1, t.is_right) tt

    module _ {s3 : Slots (Inner K A) (Leaf K V)} (t3 : UpdatesInner s2 s3 right.0 Held) where
      pub node_held : s3.inner id.0 ≡ Held
      node_held = t3.inner.others id.0 (λ e. far.1 (sym e)) ∙ (t2.inner.others id.0 (λ e. far.0 (sym e)) ∙ t1.inner.changed)

      pub one_held : {x : Slot (Inner K A)} {s4 : Slots (Inner K A) (Leaf K V)} → UpdatesInner s3 s4 id.0 x → s4.inner left.0 ≡ Held
      one_held p1 = p1.inner.others left.0 far.0 ∙ (t3.inner.others left.0 t.apart ∙ t2.inner.changed)

      pub other_held_then : {x y : Slot (Inner K A)} {s4 s5 : Slots (Inner K A) (Leaf K V)} → UpdatesInner s3 s4 id.0 x → UpdatesInner s4 s5 left.0 y → s5.inner right.0 ≡ Held
      other_held_then p1 p2 = p2.inner.others right.0 (λ e. t.apart (sym e)) ∙ (p1.inner.others right.0 far.1 ∙ t3.inner.changed)

-- a node and two children that rotated can rotate back, once they are taken out
module _ {K V A : Type 0} {cmp : K → K → Ordering} {is_summary : A → List K → Type 0} {slot : ℕ} {giver : Sibling} {was now s1 s2 : Slots (Inner K A) (Leaf K V)} {id left right : InnerNodeId} {sides : ChildSummaries A} {node one other x y z : Inner K A}
    (r : RotatesInnersAt cmp is_summary slot was now id giver left right sides) where
  pub rotates_back : now.inner id.0 ≡ Present node → UpdatesInner now s1 id.0 Held → s1.inner left.0 ≡ Present one → UpdatesInner s1 s2 left.0 Held → s2.inner right.0 ≡ Present other → x ≡ node → y ≡ one → z ≡ other
      → HasChildAt x (slot + 1) × (length x.keys ≤ 64) × CanGive (other_of giver) (length y.keys) (length z.keys) × (0 < length y.children) × (0 < length z.children)
  rotates_back here t1 v2 t2 v3 x_is y_is z_is =
      let t = r.three in
      let rotated = r.transfers in
      let is = x_is ∙ same_node (now.inner id.0) node t.node' here t.is_node in
      let one_is = y_is ∙ same_node (now.inner left.0) one t.one' (sym (t1.inner.others left.0 r.far.0) ∙ v2) t.is_left in
      let other_is = z_is ∙ same_node (now.inner right.0) other r.other' (sym (t2.inner.others right.0 (λ e. t.apart (sym e)) ∙ t1.inner.others right.0 r.far.1) ∙ v3) t.is_right in
      let index = rotated_index t.node rotated.bare t.node' slot rotated.separator rotated.child sides.right sides.left rotated.entry rotated.rotates t.most in
      let some = children_left giver t.one t.other t.one' r.other' rotated.separator rotated.up rotated.some.0 rotated.some.1 rotated.moves in
      rw (is, one_is, other_is) (index.0, index.1, can_give_back giver (length t.one.keys) (length t.other.keys) (length t.one'.keys) (length r.other'.keys) r.can rotated.moves.sizes, some.0, some.1)

-- a node and two children that merged can be divided again, once they are taken out
module _ {K V A : Type 0} {cmp : K → K → Ordering} {is_summary : A → List K → Type 0} {slot kept : ℕ} {was now s1 : Slots (Inner K A) (Leaf K V)} {id left right : InnerNodeId} {sides : ChildSummaries A} {emptied node one x y z : Inner K A} (m : MergesInnersAt cmp is_summary slot was now id left right sides emptied) where
  pub divides_back : kept ≡ length (inner_keys (was.inner left.0)) → now.inner id.0 ≡ Present node → UpdatesInner now s1 id.0 Held → s1.inner left.0 ≡ Present one → x ≡ node → y ≡ one → z ≡ emptied
      → HasChildAt x slot × (length x.keys < 64) × (kept < length y.keys) × (kept ≤ 64) × (z.children ≡ [])
  divides_back long here t1 v2 x_is y_is z_is =
      let t = m.three in
      let merged = m.transfers in
      let is = x_is ∙ same_node (now.inner id.0) node t.node' here t.is_node in
      let one_is = y_is ∙ same_node (now.inner left.0) one t.one' (sym (t1.inner.others left.0 m.far.0) ∙ v2) t.is_left in
      let index = merged_index t.node merged.bare t.node' slot merged.separator merged.child sides.right sides.left merged.entry merged.merges t.most in
      let was_long : kept ≡ length t.one.keys = rw t.at_left at long in
      let all = length-append t.one.keys (merged.separator ∷ t.other.keys) in
      rw (is, one_is, z_is, merged.nodes.left_is, merged.nodes.right_is) (index.0, index.1, omega (arith, was_long, all), omega (arith, was_long, m.fits), refl)

-- a pair is taken out of one leaf, and stored in its sibling
module _ {K V A : Type 0} {giver : Sibling} {old mid new : Slots (Inner K A) (Leaf K V)} (left right : LeafNodeId) {one one' other other' : Leaf K V} (pair : K × V) (apart : left.0 ≡ right.0 → ⊥) (can : CanGivePairs old giver 1 left right) where
  pub pair_moved_right : giver ≡ sibling.Left → old.leaf left.0 ≡ Present one → UpdatesLeaf old mid left.0 (Present one') → mid.leaf right.0 ≡ Present other → UpdatesLeaf mid new right.0 (Present other')
      → one.pairs ≡ one'.pairs ++ pair ∷ [] → one' ≡ record one { pairs = one'.pairs } → other' ≡ record other { pairs = pair ∷ other.pairs } → MovesPairsAt old new giver 1 left right
  pair_moved_right is at_left p1 v2 p2 taken links put =
      let at_right = sym (p1.leaf.others right.0 (λ e. apart (sym e))) ∙ v2 in
      rw is (record {
        one = one;
        other = other;
        one' = one';
        other' = other';
        at_left = at_left;
        at_right = at_right;
        is_left = p2.leaf.others left.0 apart ∙ p1.leaf.changed;
        is_right = p2.leaf.changed;
        leaves = λ n l r. p2.leaf.others n r ∙ p1.leaf.others n l;
        inner = p2.inner ∙ p1.inner;
        can = rw (is, at_left, at_right) at can;
        moves = record { left_links = links; right_links = rw put refl; pairs = rw (put, taken, append_assoc) refl; sizes = rw (put, taken) (omega (arith, length-append one'.pairs (pair ∷ [])), omega arith) };
      })

  pub pair_moved_left : giver ≡ sibling.Right → old.leaf right.0 ≡ Present other → UpdatesLeaf old mid right.0 (Present other') → mid.leaf left.0 ≡ Present one → UpdatesLeaf mid new left.0 (Present one')
      → other.pairs ≡ pair ∷ other'.pairs → other' ≡ record other { pairs = other'.pairs } → one' ≡ record one { pairs = one.pairs ++ pair ∷ [] } → MovesPairsAt old new giver 1 left right
  pair_moved_left is at_right p1 v2 p2 taken links put =
      let at_left = sym (p1.leaf.others left.0 apart) ∙ v2 in
      rw is (record {
        one = one;
        other = other;
        one' = one';
        other' = other';
        at_left = at_left;
        at_right = at_right;
        is_left = p2.leaf.changed;
        is_right = p2.leaf.others right.0 (λ e. apart (sym e)) ∙ p1.leaf.changed;
        leaves = λ n l r. p2.leaf.others n l ∙ p1.leaf.others n r;
        inner = p2.inner ∙ p1.inner;
        can = rw (is, at_left, at_right) at can;
        moves = record { left_links = rw put refl; right_links = links; pairs = rw (put, taken, append_assoc) refl; sizes = rw (put, taken) (omega (arith, length-append one.pairs (pair ∷ [])), omega arith) };
      })
