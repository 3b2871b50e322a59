-- The node above a split child takes the new child, and may be split in turn.
use Rattle.std.proofs.Common.{◌≡◌, ℕ, suc, ◌+◌, ◌≤◌, inl, inr, true, cond, List, [], ◌∷◌, ◌++◌, length, map, refl, sym, ap, subst, ◌∙◌, arith, Option, Some, eqb, slice_get, slice_set}
use Rattle.std.specs.declared.cmp.Ordering.{Ordering}
use Rattle.std.specs.Cmp.{IsTotalOrder}
use Rattle.std.specs.List.{AllByRecursion, AllZip, insert}
use Rattle.std.specs.Map.{keys_of}
use Rattle.std.proofs.lemmas.Bool.{eq-eqb}
use Rattle.std.proofs.lemmas.Bool.Decides.{eqb_tells}
use Rattle.std.proofs.lemmas.List.{length-map, map-append}
use Rattle.std.proofs.lemmas.List.Edits.{length-insert}
use Rattle.bptree_nodes.specs.Inner.{Inner}
use Rattle.bptree_nodes.specs.Leaf.{Leaf}
use Rattle.bptree_nodes.specs.Slot.{Slot, Slots, Present, IsPresent, Updates}
use Rattle.bptree_keys.specs.declared.node_id.InnerNodeId.{InnerNodeId}
use Rattle.bptree_keys.specs.declared.node_id.LeafNodeId.{LeafNodeId}
use Rattle.bptree_keys.specs.declared.node_id.NodeId.{NodeId}
use Rattle.bptree_keys.specs.declared.node_id.NodeId.TheVariants as kind
use Rattle.bptree_keys.proofs.PieceLemmas.{AllByRecursion-left, AllByRecursion-right, AllZip-left, AllZip-right, AllByRecursion-weaker}
use Rattle.bptree_propagation.specs.Change.{Keeps, Links, Splits}
use Rattle.bptree_invariant.specs.Edit.{IsLocal, CanReach, Turn, Stays, Gains, Loses, Extends, LinksAt, Edits}
use Rattle.bptree_invariant.specs.Order.{flat, total, Within, Between, Chain, LeadsDown}
use Rattle.bptree_propagation.specs.Sums.{with_summary}
use Rattle.bptree_invariant.specs.Shape.{inner_keys, inner_children, pairs_at, leaves_at, leaf_count, inner_count, stored, IsTree, IsSummed}
use Rattle.bptree_invariant.specs.Outcome.{Outcome, Done, Split}
use Rattle.bptree_invariant.proofs.Agreeing.{stored_le, stored_if_absent, flat_same, total_same, map_same, each_keeps, Chain-so}
use Rattle.bptree_invariant.proofs.Frame.{Same, all_same}
use Rattle.bptree_invariant.proofs.Hinted.{total-append}
use Rattle.bptree_invariant.proofs.Ordered.{AtLeast-up}
use Rattle.bptree_invariant.proofs.Walk.{flat-append}
use Rattle.bptree_invariant.proofs.Widen.{leads_within, own_inners, node_stays, Grown, grown_done, grown_split, zipped_done, zipped_split, below_leaves, below_inners}

-- the links stay right if the leaves stay
pub links_moved : {K V A : Type 0} (old new after : Slots (Inner K A) (Leaf K V)) (leaf : LeafNodeId) (turn : Turn) → ((n : ℕ) → after.leaf n ≡ new.leaf n) → LinksAt old new leaf turn → LinksAt old after leaf turn
links_moved old new after leaf Stays e links = rw (e leaf.0) links
links_moved old new after leaf (Gains f) e links = rw (e leaf.0, e f.0) links
links_moved old new after leaf (Loses g) e links = rw (e leaf.0) links

-- a node's children are cut in two at a separator
pub chain_cut : {C K : Type 0} {cmp : K → K → Ordering} (total' : IsTotalOrder cmp) (P : C → Option K → Option K → Type 0) (ks : List K) (up : K) (ls : List K) (cs ds : List C) (lo hi : Option K)
    → Chain cmp P (ks ++ (up ∷ ls)) (cs ++ ds) lo hi → length cs ≡ length ks + 1 → Chain cmp P ks cs lo (Some up) × Between cmp lo hi up × Chain cmp P ls ds (Some up) hi
chain_cut total' P ks up ls [] ds lo hi h e = absurd (omega arith)
chain_cut total' P [] up ls (c ∷ []) ds lo hi h e = h
chain_cut total' P [] up ls (c ∷ d ∷ cs) ds lo hi h e = absurd (omega arith)
chain_cut total' P (k ∷ ks) up ls (c ∷ cs) ds lo hi h e =
    let r = chain_cut total' P ks up ls cs ds (Some k) hi h.2 (omega arith) in
    ((h.0, (h.1.0, r.1.0), r.0), (AtLeast-up total' lo k up h.1.0 r.1.0, r.1.1), r.2)

-- after a node is written, the same nodes are present
same_stored : {N : Type 0} (f g : ℕ → Slot N) (id : ℕ) (x y : N) → f id ≡ Present x → Updates f g id (Present y) → (n : ℕ) → stored (g n) ≡ stored (f n)
same_stored f g id x y e u n = elim (eqb_tells n id) [ inl h ↦ (rw h.1 (rw (e, u.changed) refl)) | inr h ↦ ap stored (u.others n h.1) ]

module _ {K V A : Type 0} {cmp : K → K → Ordering} (total' : IsTotalOrder cmp) (is_summary : A → List K → Type 0) (edit : List (K × V) → List (K × V)) (kept : ℕ) (old new after : Slots (Inner K A) (Leaf K V))
    (m : ℕ) (id : InnerNodeId) (k : K) (node : Inner K A) (i : ℕ) (child : NodeId) (leaf : LeafNodeId) (turn : Turn) (local : IsLocal cmp k edit)
    (can : CanReach cmp old (suc m) (kind.Inner id) k) (is : old.inner id.0 ≡ Present node) (leads : LeadsDown cmp k node.keys i) (read : slice_get node.children i ≡ Some child)
    (outcome : Outcome K) (at : Edits cmp is_summary edit kept old new m child k leaf turn outcome) (least : ℕ) (ks : List K) (cs : List NodeId)
    (grown : Grown total' is_summary edit kept old new m id k node i child leaf turn local can is leads read least ks cs) where
  own : (x : ℕ) → cond (eqb id.0 x) 1 0 + total (λ c. inner_count old m c x) node.children ≤ stored (old.inner x)
  own x = own_inners old m id k node i child can is leads x

  apart : total (λ c. inner_count new m c id.0) cs ≡ 0
  apart =
      let h = own id.0 in
      let own_one = rw (eq-eqb id.0 id.0 refl) at h in
      omega (arith, own_one, stored_le (old.inner id.0), stored_le (new.inner id.0), grown.inners id.0)

  -- the nodes that the children reach
  pub record Reach : Type 0 where
    pub not_node : (x : ℕ) → 1 ≤ total (λ c. inner_count new m c x) cs → x ≡ id.0 → ⊥
    pub not_absent : (x y : ℕ) → 1 ≤ total (λ c. inner_count new m c x) cs → (IsPresent (new.inner y) → ⊥) → x ≡ y → ⊥
    pub other_than_node : (x : ℕ) → inner_count old (suc m) (kind.Inner id) x ≡ 0 → x ≡ id.0 → ⊥
    pub kept_inners : (x : ℕ) → inner_count old (suc m) (kind.Inner id) x ≡ 0 → IsPresent (old.inner x) → new.inner x ≡ old.inner x
    pub kept_leaves : (x : ℕ) → leaf_count old (suc m) (kind.Inner id) x ≡ 0 → IsPresent (old.leaf x) → new.leaf x ≡ old.leaf x

  reach : Reach
  reach = record {
    not_node = λ x some q. let z : 1 ≤ total (λ c. inner_count new m c id.0) cs = subst (λ y. 1 ≤ total (λ c. inner_count new m c y) cs) q some in omega (arith, apart);
    not_absent = λ x y some absent q. let z : stored (new.inner x) ≡ 0 = ap (λ n. stored (new.inner n)) q ∙ stored_if_absent (new.inner y) absent in omega (arith, own x, grown.inners x);
    other_than_node = λ x none q. let e : eqb id.0 x ≡ true = eq-eqb id.0 x (sym q) in let y = rw (is, e) at none in omega arith;
    kept_inners = λ x none some. at.other_inners x (below_inners total' is_summary edit kept old new m id k node i child leaf turn local can is leads read x none) some;
    kept_leaves = λ x none some. at.other_leaves x (below_leaves total' is_summary edit kept old new m id k node i child leaf turn local can is leads read x none) some;
  }

  -- the store is changed once more, but not in the nodes that the grown children reach
  module _ (leaf_same : (x : ℕ) → after.leaf x ≡ new.leaf x) (agrees : (x : ℕ) → 1 ≤ total (λ c. inner_count new m c x) cs → after.inner x ≡ new.inner x) where
    all : AllByRecursion (Same cmp is_summary new after m) cs
    all = all_same cmp is_summary new after m cs ((λ x some. leaf_same x), agrees)

    -- the facts of the children after that change
    pub record Moved : Type 0 where
      pub chain : (lo hi : Option K) → Chain cmp (IsTree cmp old 16 m) node.keys node.children lo hi → Within cmp lo hi k → Chain cmp (IsTree cmp after least m) ks cs lo hi
      pub pairs : flat (pairs_at after m) cs ≡ edit (flat (pairs_at old m) node.children)
      pub leaves : (x : ℕ) → total (λ c. leaf_count after m c x) cs + stored (old.leaf x) ≡ total (λ c. leaf_count old m c x) node.children + stored (after.leaf x)
      pub inners : (x : ℕ) → total (λ c. inner_count after m c x) cs + stored (old.inner x) ≡ total (λ c. inner_count old m c x) node.children + stored (new.inner x)
      pub order : Extends (flat (leaves_at old m) node.children) leaf turn (flat (leaves_at after m) cs)
      pub summed : IsSummed old is_summary (suc m) (kind.Inner id) → AllByRecursion (IsSummed after is_summary m) cs
      pub zipped : (arguments : List A) → AllZip is_summary arguments (map (λ c. keys_of (pairs_at new m c)) cs) → AllZip is_summary arguments (map (λ c. keys_of (pairs_at after m c)) cs)
      pub links : LinksAt old after leaf turn

    moved_there : Moved
    moved_there = record {
      chain = λ lo hi c w. Chain-so cmp (IsTree cmp new least m) (IsTree cmp after least m) ks cs lo hi (AllByRecursion-weaker _ _ (λ c s a b. s.tree least a b) cs all) (grown.chain lo hi c w);
      pairs = flat_same (pairs_at new m) (pairs_at after m) cs (AllByRecursion-weaker _ _ (λ c s. s.pairs) cs all) ∙ grown.pairs;
      leaves = λ x. omega (arith, grown.leaves x, ap stored (leaf_same x), total_same (λ c. leaf_count new m c x) (λ c. leaf_count after m c x) cs (AllByRecursion-weaker _ _ (λ c s. s.leaves x) cs all));
      inners = λ x. omega (arith, grown.inners x, total_same (λ c. inner_count new m c x) (λ c. inner_count after m c x) cs (AllByRecursion-weaker _ _ (λ c s. s.inners x) cs all));
      order = subst (Extends (flat (leaves_at old m) node.children) leaf turn) (sym (flat_same (leaves_at new m) (leaves_at after m) cs (AllByRecursion-weaker _ _ (λ c s. s.order) cs all))) grown.order;
      summed = λ h.
          let both : AllZip is_summary node.arguments (map (λ c. keys_of (pairs_at old m c)) node.children) × AllByRecursion (IsSummed old is_summary m) node.children = rw is at h in
          each_keeps (IsSummed new is_summary m) (IsSummed after is_summary m) cs (AllByRecursion-weaker _ _ (λ c s. s.summed) cs all) (grown.summed both.1);
      zipped = λ arguments zip. rw (map_same (λ c. keys_of (pairs_at new m c)) (λ c. keys_of (pairs_at after m c)) cs (AllByRecursion-weaker _ _ (λ c s. ap keys_of s.pairs) cs all)) zip;
      links = links_moved old new after leaf turn leaf_same at.links;
    }

module _ {K V A : Type 0} {cmp : K → K → Ordering} (total' : IsTotalOrder cmp) (is_summary : A → List K → Type 0) (edit : List (K × V) → List (K × V)) (kept : ℕ) (old new after : Slots (Inner K A) (Leaf K V))
    (m : ℕ) (id : InnerNodeId) (k : K) (node : Inner K A) (i : ℕ) (child : NodeId) (leaf : LeafNodeId) (turn : Turn) (local : IsLocal cmp k edit)
    (can : CanReach cmp old (suc m) (kind.Inner id) k) (is : old.inner id.0 ≡ Present node) (leads : LeadsDown cmp k node.keys i) (read : slice_get node.children i ≡ Some child) where
  old_zip : IsSummed old is_summary (suc m) (kind.Inner id) → AllZip is_summary node.arguments (map (λ c. keys_of (pairs_at old m c)) node.children)
  old_zip h = let both : AllZip is_summary node.arguments (map (λ c. keys_of (pairs_at old m c)) node.children) × AllByRecursion (IsSummed old is_summary m) node.children = rw is at h in both.0

  -- a node keeps its children, and takes a new summary of the edited one
  module _ (most : ℕ) (enough : 16 ≤ kept) (at : Edits cmp is_summary edit kept old new m child k leaf turn Done) (a : A) (reported : is_summary a (keys_of (pairs_at new m child))) (keeps : Keeps new after id i a node) where
    grown_here : Grown total' is_summary edit kept old new m id k node i child leaf turn local can is leads read 16 node.keys node.children
    grown_here = grown_done total' is_summary edit kept old new m id k node i child leaf turn local can is leads read 16 enough (omega arith) at

    stays_here : new.inner id.0 ≡ Present node
    stays_here = node_stays total' is_summary edit kept old new m id k node i child leaf turn local can is leads read Done at

    one : Reach total' is_summary edit kept old new after m id k node i child leaf turn local can is leads read Done at 16 node.keys node.children grown_here
    one = reach total' is_summary edit kept old new after m id k node i child leaf turn local can is leads read Done at 16 node.keys node.children grown_here

    same_here : (x : ℕ) → after.leaf x ≡ new.leaf x
    same_here x = ap (λ (f : ℕ → Slot (Leaf K V)). f x) keeps.leaf

    agrees_here : (x : ℕ) → 1 ≤ total (λ c. inner_count new m c x) node.children → after.inner x ≡ new.inner x
    agrees_here x some = keeps.sets.others x (one.not_node x some)

    moved_here : Moved total' is_summary edit kept old new after m id k node i child leaf turn local can is leads read Done at 16 node.keys node.children grown_here same_here agrees_here
    moved_here = moved_there total' is_summary edit kept old new after m id k node i child leaf turn local can is leads read Done at 16 node.keys node.children grown_here same_here agrees_here

    pub node_keeps : Edits cmp is_summary edit most old after (suc m) (kind.Inner id) k leaf turn Done
    node_keeps = record {
      tree = λ least lo hi low' t w.
          let c = subst (λ (x : Slot (Inner K A)). Chain cmp (IsTree cmp old 16 m) (inner_keys x) (inner_children x) lo hi) is t.1 in
          let sizes : (least ≤ length node.keys) × (length node.keys ≤ 64) = subst (λ (x : Slot (Inner K A)). (least ≤ length (inner_keys x)) × (length (inner_keys x) ≤ 64)) is (t.2, t.3) in
          rw keeps.sets.changed (tt, moved_here.chain lo hi c w, omega (arith, sizes.0), sizes.1);
      pairs = rw (keeps.sets.changed, is) (moved_here.pairs);
      leaves = λ x. rw (keeps.sets.changed, is) (moved_here.leaves x);
      inners = λ x. rw (keeps.sets.changed, is)
          (omega (arith, moved_here.inners x, same_stored new.inner after.inner id.0 node (with_summary node i a) stays_here keeps.sets x));
      other_leaves = λ x none some. same_here x ∙ one.kept_leaves x none some;
      other_inners = λ x none some. keeps.sets.others x (one.other_than_node x none) ∙ one.kept_inners x none some;
      order = rw (keeps.sets.changed, is) (moved_here.order);
      links = moved_here.links;
      untouched = λ x other spares some. rw (same_here x.0) (at.untouched x other spares some);
      summed = λ h. rw keeps.sets.changed (
        moved_here.zipped (slice_set node.arguments i a) (zipped_done total' is_summary edit kept old new m id k node i child leaf turn local can is leads read at a reported (old_zip h)),
        moved_here.summed h,
      );
    }

  -- a child was split, and the node takes its new summary and the child to its right
  module _ (most : ℕ) (enough : 16 ≤ kept) (s : K) (right : NodeId) (at : Edits cmp is_summary edit kept old new m child k leaf turn (Split s right)) (l r : A)
      (left_told : is_summary l (keys_of (pairs_at new m child))) (right_told : is_summary r (keys_of (pairs_at new m right))) where
    abbrev ks : List K
    ks = insert node.keys i s

    abbrev cs : List NodeId
    cs = insert node.children (suc i) right

    grown_two : Grown total' is_summary edit kept old new m id k node i child leaf turn local can is leads read 16 ks cs
    grown_two = grown_split total' is_summary edit kept old new m id k node i child leaf turn local can is leads read s right enough at

    node_there : new.inner id.0 ≡ Present node
    node_there = node_stays total' is_summary edit kept old new m id k node i child leaf turn local can is leads read (Split s right) at

    two : Reach total' is_summary edit kept old new after m id k node i child leaf turn local can is leads read (Split s right) at 16 ks cs grown_two
    two = reach total' is_summary edit kept old new after m id k node i child leaf turn local can is leads read (Split s right) at 16 ks cs grown_two

    zip_two : IsSummed old is_summary (suc m) (kind.Inner id) → AllZip is_summary (insert (slice_set node.arguments i l) (suc i) r) (map (λ c. keys_of (pairs_at new m c)) cs)
    zip_two h = zipped_split total' is_summary edit kept old new m id k node i child leaf turn local can is leads read s right at l r left_told right_told (old_zip h)

    -- a node with room takes the child
    pub node_links : Links new after id i l s right r node → Edits cmp is_summary edit most old after (suc m) (kind.Inner id) k leaf turn Done
    node_links link =
        let leaf_same = λ (x : ℕ). ap (λ (f : ℕ → Slot (Leaf K V)). f x) link.leaf in
        let agrees = λ (x : ℕ) (some : 1 ≤ total (λ c. inner_count new m c x) cs). link.sets.others x (two.not_node x some) in
        let moved = moved_there total' is_summary edit kept old new after m id k node i child leaf turn local can is leads read (Split s right) at 16 ks cs grown_two leaf_same agrees in
        let long : length ks ≡ length node.keys + 1 = length-insert node.keys i s (leads_within cmp k node.keys i leads) in
        record {
          tree = λ least lo hi low' t w.
              let c = subst (λ (x : Slot (Inner K A)). Chain cmp (IsTree cmp old 16 m) (inner_keys x) (inner_children x) lo hi) is t.1 in
              let low : least ≤ length node.keys = subst (λ (x : Slot (Inner K A)). least ≤ length (inner_keys x)) is t.2 in
              rw link.sets.changed (rw (link.keys, link.children) (tt, moved.chain lo hi c w, omega (arith, low, long), omega (arith, link.room, long)));
          pairs = rw (link.sets.changed, is) (rw link.children (moved.pairs));
          leaves = λ x. rw (link.sets.changed, is) (rw link.children (moved.leaves x));
          inners = λ x. rw (link.sets.changed, is) (rw link.children (omega (arith, moved.inners x, same_stored new.inner after.inner id.0 node link.is node_there link.sets x)));
          other_leaves = λ x none some. leaf_same x ∙ two.kept_leaves x none some;
          other_inners = λ x none some. link.sets.others x (two.other_than_node x none) ∙ two.kept_inners x none some;
          order = rw (link.sets.changed, is) (rw link.children (moved.order));
          links = moved.links;
          untouched = λ x other spares some. rw (leaf_same x.0) (at.untouched x other spares some);
          summed = λ h. rw link.sets.changed (rw (link.arguments, link.children) (moved.zipped _ (zip_two h)), rw link.children (moved.summed h));
        }

    -- a full node takes the child and is split
    pub node_splits : (up : K) (number : InnerNodeId) → Splits new after id i l s right r node up number → Edits cmp is_summary edit most old after (suc m) (kind.Inner id) k leaf turn (Split up (kind.Inner number))
    node_splits up number split =
        let leaf_same = λ (x : ℕ). ap (λ (f : ℕ → Slot (Leaf K V)). f x) split.leaf in
        let agrees = λ (x : ℕ) (some : 1 ≤ total (λ c. inner_count new m c x) cs). split.others x (two.not_node x some) (two.not_absent x number.0 some split.absent) in
        let moved = moved_there total' is_summary edit kept old new after m id k node i child leaf turn local can is leads read (Split s right) at 16 ks cs grown_two leaf_same agrees in
        let first = split.left.children in
        let second = split.right.children in
        let joined : first ++ second ≡ cs = split.children in
        record {
          tree = λ least lo hi low' t w.
              let c = subst (λ (x : Slot (Inner K A)). Chain cmp (IsTree cmp old 16 m) (inner_keys x) (inner_children x) lo hi) is t.1 in
              let whole : Chain cmp (IsTree cmp after 16 m) (split.left.keys ++ (up ∷ split.right.keys)) (first ++ second) lo hi = rw (split.keys, split.children) (moved.chain lo hi c w) in
              let cut = chain_cut total' (IsTree cmp after 16 m) split.left.keys up split.right.keys first second lo hi whole split.left_children in
              rw (split.at_left, split.at_right)
              ((tt, cut.0, split.left_least, split.left_most), cut.1, (tt, cut.2, split.right_least, split.right_most));
          pairs = rw (split.at_left, split.at_right, is)
              (sym (flat-append (pairs_at after m) first second) ∙ (ap (flat (pairs_at after m)) joined ∙ moved.pairs));
          leaves = λ x. rw (split.at_left, split.at_right, is)
              (omega (arith, moved.leaves x, total-append (λ c. leaf_count after m c x) first second, ap (total (λ c. leaf_count after m c x)) joined));
          inners = λ x. rw (split.at_left, split.at_right, is)
              (omega (arith, moved.inners x, total-append (λ c. inner_count after m c x) first second, ap (total (λ c. inner_count after m c x)) joined, more x));
          other_leaves = λ x none some. leaf_same x ∙ two.kept_leaves x none some;
          other_inners = λ x none some.
              let e : new.inner x ≡ old.inner x = two.kept_inners x none some in
              split.others x (two.other_than_node x none) (λ q. split.absent (subst (λ n. IsPresent (new.inner n)) q (subst IsPresent (sym e) some))) ∙ e;
          order = rw (split.at_left, split.at_right, is)
              (subst (Extends (flat (leaves_at old m) node.children) leaf turn)
              (sym (sym (flat-append (leaves_at after m) first second) ∙ ap (flat (leaves_at after m)) joined)) (moved.order));
          links = moved.links;
          untouched = λ x other spares some. rw (leaf_same x.0) (at.untouched x other spares some);
          summed = λ h.
              let all' : AllByRecursion (IsSummed after is_summary m) (first ++ second) = rw joined (moved.summed h) in
              let keys = λ (c : NodeId). keys_of (pairs_at after m c) in
              let zip : AllZip is_summary (split.left.arguments ++ split.right.arguments) (map keys first ++ map keys second) = rw (← map-append keys first second, split.arguments, joined) (moved.zipped _ (zip_two h)) in
              let long : length split.left.arguments ≡ length (map keys first) = split.left_arguments ∙ sym (length-map first keys) in
              rw (split.at_left, split.at_right) (
                (AllZip-left is_summary split.left.arguments (map keys first) split.right.arguments (map keys second) long zip, AllByRecursion-left (IsSummed after is_summary m) first second all'),
                (AllZip-right is_summary split.left.arguments (map keys first) split.right.arguments (map keys second) long zip, AllByRecursion-right (IsSummed after is_summary m) first second all'),
              );
        }
      where
        more : (x : ℕ) → stored (after.inner x) ≡ stored (new.inner x) + cond (eqb number.0 x) 1 0
        more x =
            elim (eqb_tells number.0 x) [
              | inl h ↦ (let f : stored (new.inner x) ≡ 0 = ap (λ n. stored (new.inner n)) (sym h.1) ∙ stored_if_absent (new.inner number.0) split.absent in
                  let g : stored (after.inner x) ≡ 1 = ap (λ n. stored (after.inner n)) (sym h.1) ∙ ap stored split.at_right in
                  rw h.0 (omega arith))
              | inr h ↦ (elim (eqb_tells id.0 x) [
                | inl p ↦ (let f : stored (new.inner x) ≡ 1 = ap (λ n. stored (new.inner n)) (sym p.1) ∙ ap stored node_there in
                    let g : stored (after.inner x) ≡ 1 = ap (λ n. stored (after.inner n)) (sym p.1) ∙ ap stored split.at_left in
                    rw h.0 (omega arith))
                | inr p ↦ (rw h.0 (let f = split.others x (λ q. p.1 (sym q)) (λ q. h.1 (sym q)) in omega (arith, ap stored f)))
              ])
            ]
