-- The descent by summaries is the descent of a search for the key that it finds.
use Rattle.std.proofs.Common.{◌≡◌, ℕ, zero, suc, ◌+◌, ◌-◌, ◌<◌, ◌≤◌, List, [], ◌∷◌, ◌++◌, length, refl, sym, ap, subst, ◌∙◌, arith, Option, Some, None, slice_get, Result, Ok, Err, IfOk, length-append}
use Rattle.std.specs.declared.cmp.Ordering.{Ordering}
use Rattle.std.specs.Cmp.{IsTotalOrder}
use Rattle.bptree_nodes.specs.Inner.{Inner}
use Rattle.bptree_nodes.specs.Leaf.{Leaf}
use Rattle.bptree_nodes.specs.Slot.{Slot, Slots, Present}
use Rattle.bptree_keys.specs.declared.node_id.InnerNodeId.{InnerNodeId}
use Rattle.bptree_keys.specs.declared.node_id.LeafNodeId.{LeafNodeId}
use Rattle.bptree_keys.specs.declared.node_id.NodeId.{NodeId}
use Rattle.bptree_keys.specs.declared.node_id.Position.{Position}
use Rattle.bptree_keys.specs.declared.node_id.NodeId.TheVariants as kind
use Rattle.bptree_search.specs.ByArgument.{IsSubtree, IsSelectedAt, GoesOn}
use Rattle.bptree_invariant.specs.Leaves.{pairs_of, IsLeafOf}
use Rattle.std.proofs.lemmas.Result.{IfOk-weaker}
use Rattle.bptree_invariant.specs.Path.{Way}
use Rattle.bptree_invariant.proofs.Ends.{alone}
use Rattle.bptree_invariant.specs.Order.{AtLeast, Within, Chain, LeadsDown}
use Rattle.bptree_invariant.specs.Shape.{leaf_pairs, inner_keys, inner_children, pairs_at, IsTree}
use Rattle.bptree_invariant.proofs.Ordered.{AtLeast-up}
use Rattle.bptree_invariant.proofs.Spot.{parts_of}
use Rattle.bptree_search.proofs.Summed.{get_past, get_early}
use Rattle.bptree_invariant.proofs.Walk.{tree_inside}
use Rattle.bptree_invariant.proofs.Ways.{way_more}
use Rattle.bptree_invariant.proofs.ListReads.{all_read, read_below}

pub ok_both : {T E : Type 0} (r : Result T E) (P Q R : T → Type 0) → IfOk r P → IfOk r Q → ((x : T) → P x → Q x → R x) → IfOk r R
ok_both (Ok x) P Q R one other so = so x one other
ok_both (Err e) P Q R one other so = tt

-- a path with one more entry leaves room for the rest of the descent
pub room_left : {X : Type 0} (path longer : List X) (entry : X) (h : ℕ) → longer ≡ path ++ entry ∷ [] → length path + h ≤ 15 → h - 1 < h → length longer + (h - 1) ≤ 15
room_left path longer entry h is room less = omega (arith, ap length is, length-append path (entry ∷ []), room, less)

-- the child that contains a key is the one that the key leads to
chain_to : {C K : Type 0} {cmp : K → K → Ordering} (total : IsTotalOrder cmp) (P : C → Option K → Option K → Type 0) (ks : List K) (cs : List C) (lo hi : Option K) (i : ℕ) (c : C) (k : K)
    → Chain cmp P ks cs lo hi → slice_get cs i ≡ Some c → ((a b : Option K) → P c a b → Within cmp a b k) → AtLeast cmp lo k × LeadsDown cmp k ks i
chain_to total P ks [] lo hi i c k h read within = absurd h
chain_to total P [] (d ∷ []) lo hi zero c k h read within = let e : d ≡ c = cc in ((within lo hi (subst (λ x. P x lo hi) e h)).0, refl)
chain_to total P [] (d ∷ []) lo hi (suc i) c k h read within = cc
chain_to total P [] (d ∷ f ∷ cs) lo hi i c k h read within = absurd h
chain_to total P (s ∷ ss) (d ∷ cs) lo hi zero c k h read within = let e : d ≡ c = cc in within lo (Some s) (subst (λ x. P x lo (Some s)) e h.0)
chain_to total P (s ∷ ss) (d ∷ cs) lo hi (suc i) c k h read within = let r = chain_to total P ss cs (Some s) hi i c k h.2 read within in (AtLeast-up total lo s k h.1.0 r.0, r)

-- the index of a leaf's pair in the whole
pub index_read : {K V A : Type 0} (slots : Slots (Inner K A) (Leaf K V)) (h : ℕ) (id : NodeId) (leaf : LeafNodeId) (in' : IsLeafOf slots h id leaf) (slot : ℕ) (pair : K × V) → slice_get (leaf_pairs (slots.leaf leaf.0)) slot ≡ Some pair → slice_get (pairs_at slots h id) (length (pairs_of slots in'.before) + slot) ≡ Some pair
index_read slots h id leaf in' slot pair read =
    let before = pairs_of slots in'.before in
    let here = leaf_pairs (slots.leaf leaf.0) in
    let after = pairs_of slots in'.after in
    ap (λ l. slice_get l (length before + slot)) (parts_of slots h id leaf in') ∙ (get_past before (here ++ after) slot ∙ (get_early here after slot (read_below here slot pair read) ∙ read))

module _ {K V A : Type 0} {cmp : K → K → Ordering} (total : IsTotalOrder cmp) (is_summary : A → List K → Type 0) (slots : Slots (Inner K A) (Leaf K V)) where
  leads_to : (h : ℕ) (id : InnerNodeId) (node : Inner K A) → IsSubtree cmp is_summary slots (suc h) (kind.Inner id) → slots.inner id.0 ≡ Present node → (i : ℕ) (child : NodeId) → slice_get node.children i ≡ Some child
      → (leaf : LeafNodeId) → IsLeafOf slots h child leaf → (slot : ℕ) (pair : K × V) → slice_get (leaf_pairs (slots.leaf leaf.0)) slot ≡ Some pair → LeadsDown cmp pair.0 node.keys i
  leads_to h id node s e i child read leaf in' slot pair there =
      let chain = subst (λ (x : Slot (Inner K A)). Chain cmp (IsTree cmp slots 16 h) (inner_keys x) (inner_children x) s.stored.low s.stored.high) e s.stored.tree.1 in
      (chain_to total (IsTree cmp slots 16 h) node.keys node.children s.stored.low s.stored.high i child pair.0 chain read
      (λ a b t. all_read (λ p. Within cmp a b p.0) (pairs_at slots h child) (length (pairs_of slots in'.before) + slot) pair (tree_inside total slots 16 h child a b t) (index_read slots h child leaf in' slot pair there))).1

  -- the search that continues from the child, with the child's entry in the path, is one that
  -- continues from the node
  pub goes_on : {Q : Type 0} (selects : Q → List K → Option ℕ → Type 0) (next : Q) (h : ℕ) (id : InnerNodeId) (node : Inner K A) → IsSubtree cmp is_summary slots h (kind.Inner id) → slots.inner id.0 ≡ Present node → (i : ℕ) (child : NodeId) → slice_get node.children i ≡ Some child
      → (path longer : List (InnerNodeId × ℕ × NodeId)) (found : Option Position) → IsSelectedAt selects next slots (h - 1) child found → GoesOn cmp slots (h - 1) child (path ++ (id, i, child) ∷ []) longer found → GoesOn cmp slots h (kind.Inner id) path longer found
  goes_on selects next h id node s e i child read path longer None selected on = tt
  goes_on selects next zero id node s e i child read path longer (Some at) selected on = absurd s.stored.tree
  goes_on selects next (suc h) id node s e i child read path longer (Some at) selected on =
      let down : suc h - 1 ≡ h = omega arith in
      let in' = (rw down at selected).0 in
      let below = rw down at on in
      λ pair there top root way. below pair there top root (way_more cmp slots pair.0 path id i child top root h node way e (leads_to h id node s e i child read at.leaf in' at.slot pair there) read)

  -- the search ends at a leaf
  pub goes_here : (h : ℕ) (id : LeafNodeId) → IsSubtree cmp is_summary slots h (kind.Leaf id) → (slot : ℕ) (path : List (InnerNodeId × ℕ × NodeId)) → GoesOn cmp slots h (kind.Leaf id) path path (Some (record { leaf = id; slot = slot }))
  goes_here zero id s slot path pair there top root way = way
  goes_here (suc h) id s slot path pair there top root way = absurd s.stored.tree

  -- the position selected in a leaf is in that leaf
  pub ends_here : {Q E : Type 0} (selects : Q → List K → Option ℕ → Type 0) (query : Q) (h : ℕ) (top : NodeId) (id : LeafNodeId) → IsSubtree cmp is_summary slots h top → top ≡ kind.Leaf id → (found : Result (Option Position) E) → IfOk found (IsSelectedAt selects query slots h top) → (path : List (InnerNodeId × ℕ × NodeId))
      → IfOk found (GoesOn cmp slots h top path path)
  ends_here selects query h top id s is found selected path =
      rw is (IfOk-weaker found (IsSelectedAt selects query slots h (kind.Leaf id)) (GoesOn cmp slots h (kind.Leaf id) path path) (λ index. here h (rw is at s) index) (rw is at selected))
    where
      only : (before : List LeafNodeId) (leaf : LeafNodeId) (after : List LeafNodeId) → id ∷ [] ≡ before ++ leaf ∷ after → leaf ≡ id
      only before leaf after e = let none = (alone id before leaf after e).0 in let one : id ∷ [] ≡ leaf ∷ after = e ∙ ap (λ xs. xs ++ leaf ∷ after) none in cc

      here : (h : ℕ) → IsSubtree cmp is_summary slots h (kind.Leaf id) → (index : Option Position) → IsSelectedAt selects query slots h (kind.Leaf id) index → GoesOn cmp slots h (kind.Leaf id) path path index
      here (suc h) s index selected = absurd s.stored.tree
      here zero s None selected = tt
      here zero s (Some at) (stored, short, selected) =
          λ pair there top' root way. subst (λ l. Way cmp slots pair.0 top' root path 0 (kind.Leaf l)) (sym (only stored.before at.leaf stored.after stored.leaves)) way
