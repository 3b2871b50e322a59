-- Two siblings rotate or merge, and the undoing of each.
use Rattle.std.proofs.Common.{◌≡◌, ℕ, zero, suc, ◌+◌, ◌-◌, ◌<◌, ◌≤◌, List, [], ◌∷◌, ◌++◌, length, take, drop, refl, sym, ap, subst, ◌∙◌, arith, add-one, Option, Some, slice_get, slice_set, length-append}
use Rattle.std.specs.declared.cmp.Ordering.{Ordering}
use Rattle.std.specs.List.{insert, remove}
use Rattle.std.proofs.lemmas.List.{take_at, drop_at}
use Rattle.std.proofs.lemmas.List.Edits.{length-insert, length-remove}
use Rattle.bptree_keys.specs.declared.node_id.LeafNodeId.{LeafNodeId}
use Rattle.bptree_keys.specs.declared.node_id.NodeId.{NodeId}
use Rattle.bptree_nodes.proofs.Inverses.{split_same}
use Rattle.bptree_nodes.specs.Inner.{Inner, with_entry, without_entry, first_children, later_children}
use Rattle.bptree_nodes.specs.Leaf.{Leaf}
use Rattle.bptree_nodes.specs.Slot.{Slot, Present}
use Rattle.bptree_rebalancing.specs.Transfer.{other_of, CanGive, Moves, MovesMany, MovesPairs, MovesChild, MergesLeaf, MergesInner, HasEntry, Rotates, Merges, ExchangesJoint}
use Rattle.bptree_propagation.specs.Sums.{HasChildAt, with_summary, with_split}
use Rattle.bptree_propagation.specs.declared.node_changes.NodeSplit.{NodeSplit}
use Rattle.bptree_rebalancing.specs.declared.rotate_merge.ParentEntry.{ParentEntry}
use Rattle.bptree_rebalancing.specs.declared.rotate_merge.Sibling.{Sibling}
use Rattle.bptree_rebalancing.specs.declared.rotate_merge.Sibling.TheVariants.{Left, Right}
use Rattle.bptree_rebalancing.proofs.Choosing.{inserted_is}
use Rattle.bptree_invariant.proofs.ListReads.{read_some}
use Rattle.bptree_propagation.proofs.Undone.{same_node}
use Rattle.bptree_propagation.proofs.NodeChanges.{entry_back, sum_back, index_below, set_back, set_long}

module _ {X : Type 0} where
  -- an item that was removed is inserted again
  pub insert_removed : (xs : List X) (i : ℕ) (x : X) → slice_get xs i ≡ Some x → insert (remove xs i) i x ≡ xs
  insert_removed [] i x read = cc
  insert_removed (y ∷ xs) zero x read = let same : y ≡ x = cc in rw same refl
  insert_removed (y ∷ xs) (suc i) x read = ap (λ l. y ∷ l) (insert_removed xs i x read)

  pub read_at_end : (xs ys : List X) (x : X) (i : ℕ) → i ≡ length xs → slice_get (xs ++ x ∷ ys) i ≡ Some x
  read_at_end [] ys x i e = rw e refl
  read_at_end (z ∷ xs) ys x zero e = absurd (omega arith)
  read_at_end (z ∷ xs) ys x (suc i) e = read_at_end xs ys x i (omega arith)

  -- a write at the index of an insertion replaces the inserted item, and one right before it
  -- replaces the item before
  set_inserted : (xs : List X) (i : ℕ) (a b : X) → i ≤ length xs → slice_set (insert xs i a) i b ≡ insert xs i b
  set_inserted [] zero a b within = refl
  set_inserted [] (suc i) a b within = absurd (omega arith)
  set_inserted (x ∷ xs) zero a b within = refl
  set_inserted (x ∷ xs) (suc i) a b within = ap (λ l. x ∷ l) (set_inserted xs i a b (omega arith))

  set_before : (xs : List X) (i : ℕ) (a b : X) → i < length xs → slice_set (insert xs (suc i) a) i b ≡ insert (slice_set xs i b) (suc i) a
  set_before [] i a b below = absurd (omega arith)
  set_before (x ∷ xs) zero a b below = refl
  set_before (x ∷ xs) (suc i) a b below = ap (λ l. x ∷ l) (set_before xs i a b (omega arith))

  get_before : (xs : List X) (i : ℕ) (a : X) → i < length xs → slice_get (insert xs (suc i) a) i ≡ slice_get xs i
  get_before [] i a below = absurd (omega arith)
  get_before (x ∷ xs) zero a below = refl
  get_before (x ∷ xs) (suc i) a below = get_before xs i a (omega arith)

  -- a write at an index keeps the next item
  get_next : (xs : List X) (i : ℕ) (a : X) → slice_get (slice_set xs i a) (suc i) ≡ slice_get xs (suc i)
  get_next [] i a = refl
  get_next (x ∷ xs) zero a = refl
  get_next (x ∷ xs) (suc i) a = get_next xs i a

  pub get_behind : (xs : List X) (i : ℕ) (a : X) → slice_get (slice_set xs i a) (i + 1) ≡ slice_get xs (i + 1)
  get_behind xs i a = rw add-one (get_next xs i a)

-- a rotation and one in the other direction leave both sizes as they were
back_sizes : (giver : Sibling) (a b c d e f : ℕ) → Moves giver a b c d → Moves (other_of giver) c d e f → (e ≡ a) × (f ≡ b)
back_sizes Left a b c d e f there back = (omega arith, omega arith)
back_sizes Right a b c d e f there back = (omega arith, omega arith)

back_many : (giver : Sibling) (n a b c d e f : ℕ) → MovesMany giver n a b c d → MovesMany (other_of giver) n c d e f → (e ≡ a) × (f ≡ b)
back_many Left n a b c d e f there back = (omega arith, omega arith)
back_many Right n a b c d e f there back = (omega arith, omega arith)

pub can_give_back : (giver : Sibling) (a b c d : ℕ) → CanGive giver a b → Moves giver a b c d → CanGive (other_of giver) c d
can_give_back Left a b c d can moves = (omega arith, omega arith, omega arith)
can_give_back Right a b c d can moves = (omega arith, omega arith, omega arith)

pub leaf_same : {K V : Type 0} (x y : Leaf K V) → x.pairs ≡ y.pairs → x.prev ≡ y.prev → x.next ≡ y.next → x ≡ y
leaf_same x y pairs prev next = λ i. record { pairs = pairs i; prev = prev i; next = next i }

pub node_same : {K A : Type 0} (x y : Inner K A) → x.keys ≡ y.keys → x.children ≡ y.children → x.arguments ≡ y.arguments → x ≡ y
node_same x y keys children arguments = λ i. record { keys = keys i; children = children i; arguments = arguments i }

module _ {K V : Type 0} where
  -- pairs move back
  pub pairs_moved_back : (giver : Sibling) (n : ℕ) (a b c d e f : Leaf K V) → MovesPairs giver n a b c d → MovesPairs (other_of giver) n c d e f → (e ≡ a) × (f ≡ b)
  pairs_moved_back giver n a b c d e f there back =
      let sizes = back_many giver n (length a.pairs) (length b.pairs) (length c.pairs) (length d.pairs) (length e.pairs) (length f.pairs) there.sizes back.sizes in
      let parts = split_same e.pairs f.pairs a.pairs b.pairs (back.pairs ∙ there.pairs) sizes.0 in (
        leaf_same e a parts.0 (ap (λ (l : Leaf K V). l.prev) back.left_links ∙ ap (λ (l : Leaf K V). l.prev) there.left_links) (ap (λ (l : Leaf K V). l.next) back.left_links ∙ ap (λ (l : Leaf K V). l.next) there.left_links),
        leaf_same f b parts.1 (ap (λ (l : Leaf K V). l.prev) back.right_links ∙ ap (λ (l : Leaf K V). l.prev) there.right_links) (ap (λ (l : Leaf K V). l.next) back.right_links ∙ ap (λ (l : Leaf K V). l.next) there.right_links),
      )

  -- a leaf is cut back, and relinked
  pub leaf_cut : (c given back : Leaf K V) (kept : ℕ) (next was : Option LeafNodeId) → given ≡ record c { pairs = take kept c.pairs } → back ≡ record given { next = next } → next ≡ was → back ≡ record c { pairs = take kept c.pairs; next = was }
  leaf_cut c given back kept next was cut linked same = linked ∙ rw (cut, same) refl

  -- the merge of two leaves is undone
  pub leaves_unmerged : (a b c d e f : Leaf K V) (kept : ℕ) → MergesLeaf a b c d → kept ≡ length a.pairs → e ≡ record c { pairs = take kept c.pairs; next = a.next } → f ≡ record d { pairs = drop kept c.pairs } → (e ≡ a) × (f ≡ b)
  leaves_unmerged a b c d e f kept merges long left right =
      let first : take kept c.pairs ≡ a.pairs = ap (λ (l : Leaf K V). take kept l.pairs) merges.left_is ∙ take_at a.pairs b.pairs kept (sym long) in
      let second : drop kept c.pairs ≡ b.pairs = ap (λ (l : Leaf K V). drop kept l.pairs) merges.left_is ∙ drop_at a.pairs b.pairs kept (sym long) in (
        leaf_same e a (ap (λ (l : Leaf K V). l.pairs) left ∙ first) (ap (λ (l : Leaf K V). l.prev) left ∙ ap (λ (l : Leaf K V). l.prev) merges.left_is) (ap (λ (l : Leaf K V). l.next) left),
        leaf_same f b (ap (λ (l : Leaf K V). l.pairs) right ∙ second) (ap (λ (l : Leaf K V). l.prev) right ∙ ap (λ (l : Leaf K V). l.prev) merges.right_is) (ap (λ (l : Leaf K V). l.next) right ∙ ap (λ (l : Leaf K V). l.next) merges.right_is),
      )

module _ {K A : Type 0} where
  -- a child moves back
  pub child_moved_back : (giver : Sibling) (a b c d e f : Inner K A) (s u v : K) → 0 < length a.children → 0 < length b.children → MovesChild giver a s b c u d → MovesChild (other_of giver) c u d e v f → (e ≡ a) × (f ≡ b) × (v ≡ s)
  child_moved_back giver a b c d e f s u v some_left some_right there back =
      let sizes = back_sizes giver (length a.keys) (length b.keys) (length c.keys) (length d.keys) (length e.keys) (length f.keys) there.sizes back.sizes in
      let keys = split_same e.keys (v ∷ f.keys) a.keys (s ∷ b.keys) (back.keys ∙ there.keys) sizes.0 in
      let tail : f.keys ≡ b.keys = let z = keys.1 in cc in
      let head : v ≡ s = let z = keys.1 in cc in
      let all : e.children ++ f.children ≡ a.children ++ b.children = back.children ∙ there.children in
      let more : e.arguments ++ f.arguments ≡ a.arguments ++ b.arguments = back.arguments ∙ there.arguments in
      let long : length e.children ≡ length a.children =
      omega (arith, some_left, some_right, sizes.0, sizes.1, back.left_fits.0.children, back.right_fits.0.children, there.left_fits.1.children, there.right_fits.1.children, ap length all, length-append e.children f.children, length-append a.children b.children) in
      let children = split_same e.children f.children a.children b.children all long in
      let arguments = split_same e.arguments f.arguments a.arguments b.arguments more (omega (arith, long, back.left_fits.0.arguments, there.left_fits.1.arguments)) in
      (node_same e a keys.0 children.0 arguments.0, node_same f b tail children.1 arguments.1, head)

  -- the merge of two inner nodes is undone
  pub inners_unmerged : (a b c d e f : Inner K A) (s v : K) (kept : ℕ) → MergesInner a s b c d → kept ≡ length a.keys → length a.children ≡ kept + 1 → length a.arguments ≡ kept + 1
      → e ≡ first_children (kept + 1) c → slice_get c.keys (kept + 1 - 1) ≡ Some v → f ≡ later_children (kept + 1) c → (e ≡ a) × (f ≡ b) × (v ≡ s)
  inners_unmerged a b c d e f s v kept merges long children arguments left got right =
      let less : kept + 1 - 1 ≡ kept = omega arith in
      let is = merges.left_is in
      let head : v ≡ s = let z : Some v ≡ Some s = sym got ∙ (ap (λ (n : Inner K A). slice_get n.keys (kept + 1 - 1)) is ∙ read_at_end a.keys b.keys s (kept + 1 - 1) (omega arith)) in cc in
      let rest : drop (kept + 1) c.keys ≡ b.keys = ap (λ (n : Inner K A). drop (kept + 1) n.keys) is ∙ after a.keys b.keys s (kept + 1) (omega arith) in (
        node_same e a
            (ap (λ (n : Inner K A). n.keys) left ∙ (ap (λ (n : Inner K A). take (kept + 1 - 1) n.keys) is ∙ take_at a.keys (s ∷ b.keys) (kept + 1 - 1) (omega arith)))
            (ap (λ (n : Inner K A). n.children) left ∙ (ap (λ (n : Inner K A). take (kept + 1) n.children) is ∙ take_at a.children b.children (kept + 1) children))
            (ap (λ (n : Inner K A). n.arguments) left ∙ (ap (λ (n : Inner K A). take (kept + 1) n.arguments) is ∙ take_at a.arguments b.arguments (kept + 1) arguments)),
        node_same f b (ap (λ (n : Inner K A). n.keys) right ∙ rest)
            (ap (λ (n : Inner K A). n.children) right ∙ (ap (λ (n : Inner K A). drop (kept + 1) n.children) is ∙ drop_at a.children b.children (kept + 1) children))
            (ap (λ (n : Inner K A). n.arguments) right ∙ (ap (λ (n : Inner K A). drop (kept + 1) n.arguments) is ∙ drop_at a.arguments b.arguments (kept + 1) arguments)),
        head,
      )
    where
      after : {X : Type 0} (xs ys : List X) (x : X) (n : ℕ) → n ≡ suc (length xs) → drop n (xs ++ x ∷ ys) ≡ ys
      after [] ys x n e = rw e refl
      after (y ∷ xs) ys x zero e = absurd (omega arith)
      after (y ∷ xs) ys x (suc n) e = after xs ys x n (omega arith)

  -- a node without an entry has a child at the entry's index
  removed_index : (node bare : Inner K A) (slot : ℕ) → HasChildAt node (slot + 1) → bare ≡ without_entry node slot → HasChildAt bare slot × (length bare.keys + 1 ≡ length node.keys)
  removed_index node bare slot h is =
      let first = length-remove node.keys slot (omega (arith, h.within)) in
      let second = length-remove node.children (slot + 1) (omega (arith, h.within, h.children)) in
      let third = length-remove node.arguments (slot + 1) (omega (arith, h.within, h.children, h.arguments)) in
      rw is (record { within = omega (arith, first, h.within); children = omega (arith, first, second, h.children, h.within); arguments = omega (arith, second, third, h.arguments) }, first)

  pub entry_below : (node bare : Inner K A) (slot : ℕ) → HasChildAt node (slot + 1) → bare ≡ without_entry node slot → slot < length bare.arguments
  entry_below node bare slot h is = index_below bare slot (removed_index node bare slot h is).0

  -- the entry fits in the node again, also after other summaries were stored there
  pub entry_fits : (node bare now : Inner K A) (slot : ℕ) → HasChildAt node (slot + 1) → length node.keys ≤ 64 → bare ≡ without_entry node slot → now.keys ≡ bare.keys → (length now.keys < 64) × (slot ≤ length now.keys)
  entry_fits node bare now slot h most is same =
      let removed = removed_index node bare slot h is in
      let long = ap length same in
      (omega (arith, long, removed.1, most), omega (arith, long, removed.0.within))

  -- a node without the entry that was removed from it
  pub entry_out : (node bare : Inner K A) (slot : ℕ) (s : K) (child : NodeId) (a : A) → HasChildAt node (slot + 1) → slice_get node.keys slot ≡ Some s → slice_get node.children (slot + 1) ≡ Some child → slice_get node.arguments (slot + 1) ≡ Some a
      → bare ≡ without_entry node slot → HasEntry node bare slot s child a
  entry_out node bare slot s child a h key at reported is =
      rw is (record {
        index = (removed_index node (without_entry node slot) slot h refl).0;
        is = node_same node (with_entry (without_entry node slot) slot s child a) (sym (insert_removed node.keys slot s key)) (sym (insert_removed node.children (slot + 1) child at)) (sym (insert_removed node.arguments (slot + 1) a reported));
      })

  -- a node with another separator, and other summaries on both sides
  abbrev pub with_joint : Inner K A → ℕ → ParentEntry K A → Inner K A
  with_joint node slot joint = record node {
    keys = slice_set node.keys slot joint.separator;
    arguments = slice_set (slice_set node.arguments slot joint.left) (slot + 1) joint.right;
  }

  joint_put : (bare : Inner K A) (slot : ℕ) (s : K) (child : NodeId) (a : A) (joint : ParentEntry K A) → HasChildAt bare slot
      → with_joint (with_entry bare slot s child a) slot joint ≡ with_split bare slot joint.left joint.separator child joint.right
  joint_put bare slot s child a joint h =
      let below = index_below bare slot h in
      let long = set_long bare.arguments slot joint.left in
      node_same _ _ (set_inserted bare.keys slot s joint.separator h.within) refl
      (rw add-one (ap (λ xs. slice_set xs (suc slot) joint.right) (set_before bare.arguments slot a joint.left below) ∙ set_inserted (slice_set bare.arguments slot joint.left) (suc slot) a joint.right (omega (arith, below, long))))

  joint_is : (node new : Inner K A) (slot : ℕ) (joint out : ParentEntry K A) → ExchangesJoint slot node joint out new → new ≡ with_joint node slot joint
  joint_is node new slot joint out x = x.is ∙ sym (ap (λ n. with_joint n slot joint) x.entry.is ∙ joint_put x.bare slot out.separator x.child out.right joint x.entry.index)

  pub joint_exchanged : (node new : Inner K A) (slot : ℕ) (joint out : ParentEntry K A) → HasChildAt node (slot + 1) → slice_get node.keys slot ≡ Some out.separator → slice_get node.arguments slot ≡ Some out.left → slice_get node.arguments (slot + 1) ≡ Some out.right
      → new ≡ with_joint node slot joint → ExchangesJoint slot node joint out new
  joint_exchanged node new slot joint out h key left right is =
      let at = read_some node.children (slot + 1) (omega (arith, h.within, h.children)) in
      let bare = without_entry node slot in
      let entry = entry_out node bare slot out.separator at.0 out.right h key at.1 right refl in record {
        bare = bare;
        child = at.0;
        entry = entry;
        summary =
            sym (get_before bare.arguments slot out.right (index_below bare slot entry.index))
            ∙ (ap (λ n. slice_get (insert bare.arguments n out.right) slot) (sym (add-one slot)) ∙ (ap (λ (n : Inner K A). slice_get n.arguments slot) (sym entry.is) ∙ left));
        is = is ∙ (ap (λ n. with_joint n slot joint) entry.is ∙ joint_put bare slot out.separator at.0 out.right joint entry.index);
      }

  -- the child index stays valid, and the number of keys stays
  pub joint_index : (node new : Inner K A) (slot : ℕ) (joint out : ParentEntry K A) → HasChildAt node (slot + 1) → ExchangesJoint slot node joint out new → HasChildAt new (slot + 1) × (length new.keys ≡ length node.keys)
  joint_index node new slot joint out h x =
      let is = joint_is node new slot joint out x in
      let keys : length new.keys ≡ length node.keys = ap (λ (n : Inner K A). length n.keys) is ∙ set_long node.keys slot joint.separator in
      let children : length new.children ≡ length node.children = ap (λ (n : Inner K A). length n.children) is in
      let arguments : length new.arguments ≡ length node.arguments =
      ap (λ (n : Inner K A). length n.arguments) is ∙ (set_long (slice_set node.arguments slot joint.left) (slot + 1) joint.right ∙ set_long node.arguments slot joint.left) in
      (record { within = omega (arith, keys, h.within); children = omega (arith, keys, children, h.children); arguments = omega (arith, children, arguments, h.arguments) }, keys)

  -- the separator and the summaries that a node had are stored again
  pub joint_back : (node bare now back : Inner K A) (slot : ℕ) (child : NodeId) (joint reported out : ParentEntry K A) → HasEntry node bare slot joint.separator child joint.right → slice_get bare.arguments slot ≡ Some joint.left
      → now ≡ with_split bare slot reported.left reported.separator child reported.right → ExchangesJoint slot now joint out back → back ≡ node
  joint_back node bare now back slot child joint reported out entry summary is x =
      let other = with_summary bare slot reported.left in
      let h = entry.index in
      let there : HasChildAt other slot = record { within = h.within; children = h.children; arguments = set_long bare.arguments slot reported.left ∙ h.arguments } in
      joint_is now back slot joint out x
      ∙ (ap (λ n. with_joint n slot joint) is
      ∙ (joint_put other slot reported.separator child reported.right joint there
      ∙ (ap (λ xs. with_entry (record bare { arguments = xs }) slot joint.separator child joint.right) (set_back bare.arguments slot reported.left joint.left summary) ∙ sym entry.is)))

  -- the node that a slot contains has the entry
  pub entry_of : {bare : Inner K A} {slot : ℕ} {s : K} {child : NodeId} {a : A} (there : Slot (Inner K A)) (node was : Inner K A) → there ≡ Present node → there ≡ Present was → HasEntry was bare slot s child a → HasEntry node bare slot s child a
  entry_of {bare} {slot} {s} {child} {a} there node was here is entry = subst (λ n. HasEntry n bare slot s child a) (sym (same_node there node was here is)) entry

  -- the entry is inserted again
  pub entry_returned : (node bare now back : Inner K A) (slot : ℕ) (s : K) (child : NodeId) (a : A) → HasChildAt node (slot + 1) → slice_get node.keys slot ≡ Some s → slice_get node.children (slot + 1) ≡ Some child → slice_get node.arguments (slot + 1) ≡ Some a
      → bare ≡ without_entry node slot → now ≡ bare → back ≡ with_entry now slot s child a → back ≡ node
  entry_returned node bare now back slot s child a h key at reported out same is =
      is ∙ (ap (λ n. with_entry n slot s child a) same ∙ sym (entry_out node bare slot s child a h key at reported out).is)

  -- a node that took another entry has the old one again
  module _ (cmp : K → K → Ordering) (node bare now taken set back : Inner K A) (slot : ℕ) (s : K) (child out_child : NodeId) (a before out_a out : A) (out_s : K) (left_told : A → Type 0) (parts : K → Type 0) (right_told : A → Type 0)
      (entry : HasEntry node bare slot s child a) (rotates : Rotates cmp bare slot child left_told parts right_told now before)
      (undoes : (w : Inner K A) (key : K) (c : NodeId) (x : A) → now.keys ≡ insert w.keys slot key → now.children ≡ insert w.children (suc slot) c → now.arguments ≡ insert w.arguments (suc slot) x
      → slot ≤ length w.keys → suc slot ≤ length w.children → suc slot ≤ length w.arguments → (taken ≡ w) × (◌≡◌ {A = K × NodeId × A} (out_s, out_child, out_a) (key, c, x)))
      (got : slice_get taken.arguments slot ≡ Some out) (put : set ≡ record taken { arguments = slice_set taken.arguments slot before }) where
    rotated_back : (set ≡ bare) × (◌≡◌ {A = NodeSplit K A} (record { left = out; separator = out_s; node = out_child; right = out_a }) (record { left = rotates.left; separator = rotates.separator; node = child; right = rotates.right }))
    rotated_back = entry_back bare now taken set slot before (out_s, out_child, out_a) (record { left = out; separator = out_s; node = out_child; right = out_a }) (record { left = rotates.left; separator = rotates.separator; node = child; right = rotates.right }) entry.index rotates.summary rotates.is undoes got put refl

    pub rotated_separator : out_s ≡ rotates.separator
    rotated_separator = ap (λ (d : NodeSplit K A). d.separator) rotated_back.1

    pub rotated_entry : back ≡ with_entry set slot s out_child a → back ≡ node
    rotated_entry is = is ∙ (rw (rotated_back.0, ap (λ (d : NodeSplit K A). d.node) rotated_back.1) (sym entry.is))

  -- a node that lost an entry has it again
  pub merged_entry : (node bare now set back : Inner K A) (slot : ℕ) (s : K) (child given : NodeId) (a before out : A) (reported : A → Type 0) → HasEntry node bare slot s child a → (merges : Merges bare slot reported now before)
      → slice_get now.arguments slot ≡ Some out → set ≡ record now { arguments = slice_set now.arguments slot before } → slice_get node.children (slot + 1) ≡ Some given → back ≡ with_entry set slot s given a → back ≡ node
  merged_entry node bare now set back slot s child given a before out reported entry merges got put read is =
      let undone = sum_back bare now set slot merges.both before out merges.is (index_below bare slot entry.index) merges.summary got put in
      let there : child ≡ given =
      inserted_is bare.children (slot + 1) child given (omega (arith, entry.index.within, entry.index.children)) (ap (λ (n : Inner K A). slice_get n.children (slot + 1)) (sym entry.is) ∙ read) in
      is ∙ rw (undone.0, ← there) (sym entry.is)

-- a rotation keeps the sum of both sizes
moves_total : (giver : Sibling) (a b c d : ℕ) → Moves giver a b c d → c + d ≡ a + b
moves_total Left a b c d moves = omega arith
moves_total Right a b c d moves = omega arith

-- two nodes with one child more than keys have
some_left : (a b c d i j k l : ℕ) → c + d ≡ a + b → a ≡ i - 1 → b ≡ j - 1 → c ≡ k - 1 → d ≡ l - 1 → 0 < i → 0 < j → k + l ≡ i + j → (0 < k) × (0 < l)
some_left a b c d i j k l sizes one other one' other' left right all = (omega arith, omega arith)

-- after a rotation a child can be rotated back: the node has the entry again, and each child keeps
-- a child of its own
module _ {K A : Type 0} where
  split_index : (bare new : Inner K A) (slot : ℕ) (a : A) (s : K) (child : NodeId) (b : A) → HasChildAt bare slot → new ≡ with_split bare slot a s child b → HasChildAt new (slot + 1) × (length new.keys ≡ length bare.keys + 1)
  split_index bare new slot a s child b h is =
      let long = set_long bare.arguments slot a in
      let keys = length-insert bare.keys slot s h.within in
      let children = length-insert bare.children (slot + 1) child (omega (arith, h.within, h.children)) in
      let arguments = length-insert (slice_set bare.arguments slot a) (slot + 1) b (omega (arith, long, h.within, h.children, h.arguments)) in
      rw is (record { within = omega (arith, keys, h.within); children = omega (arith, keys, children, h.children); arguments = omega (arith, children, arguments, long, h.arguments) }, keys)

  pub rotated_index : {cmp : K → K → Ordering} {left_told : A → Type 0} {parts : K → Type 0} {right_told : A → Type 0} (node bare new : Inner K A) (slot : ℕ) (s : K) (child : NodeId) (a before : A)
      → HasEntry node bare slot s child a → Rotates cmp bare slot child left_told parts right_told new before → length node.keys ≤ 64 → HasChildAt new (slot + 1) × (length new.keys ≤ 64)
  rotated_index node bare new slot s child a before entry rotates most =
      let put = split_index bare new slot rotates.left rotates.separator child rotates.right entry.index rotates.is in
      let was : length node.keys ≡ length bare.keys + 1 = ap (λ (n : Inner K A). length n.keys) entry.is ∙ length-insert bare.keys slot s entry.index.within in
      (put.0, omega (arith, put.1, was, most))

  -- after a merge the entry fits in the node again
  pub merged_index : {reported : A → Type 0} (node bare new : Inner K A) (slot : ℕ) (s : K) (child : NodeId) (a before : A) → HasEntry node bare slot s child a → Merges bare slot reported new before → length node.keys ≤ 64 → HasChildAt new slot × (length new.keys < 64)
  merged_index node bare new slot s child a before entry merges most =
      let h = entry.index in
      let was : length node.keys ≡ length bare.keys + 1 = ap (λ (n : Inner K A). length n.keys) entry.is ∙ length-insert bare.keys slot s h.within in
      rw merges.is (record { within = h.within; children = h.children; arguments = set_long bare.arguments slot merges.both ∙ h.arguments }, omega (arith, was, most))

  pub children_left : (giver : Sibling) (a b c d : Inner K A) (s u : K) → 0 < length a.children → 0 < length b.children → MovesChild giver a s b c u d → (0 < length c.children) × (0 < length d.children)
  children_left giver a b c d s u left right moves =
      let sizes = moves_total giver (length a.keys) (length b.keys) (length c.keys) (length d.keys) moves.sizes in
      let all : length c.children + length d.children ≡ length a.children + length b.children = omega (arith, ap length moves.children, length-append c.children d.children, length-append a.children b.children) in
      some_left (length a.keys) (length b.keys) (length c.keys) (length d.keys) (length a.children) (length b.children) (length c.children) (length d.children) sizes moves.left_fits.1.children moves.right_fits.1.children moves.left_fits.0.children moves.right_fits.0.children left right all
