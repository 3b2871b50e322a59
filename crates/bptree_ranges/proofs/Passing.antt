-- A walk over the positions of a tree: it passes a child, or finds the position below it.
use Rattle.std.proofs.Common.{◌≡◌, ℕ, zero, suc, ◌+◌, ◌-◌, ◌<◌, ◌≤◌, List, [], ◌∷◌, ◌++◌, length, take, get_or, refl, sym, ap, subst, ◌∙◌, arith, append-nil, Some, length-append, slice_get}
use Rattle.std.specs.declared.cmp.Ordering.{Ordering}
use Rattle.std.specs.Cmp.{IsTotalOrder}
use Rattle.std.specs.Map.{keys_of}
use Rattle.std.proofs.lemmas.List.{length-map, take_all, take_more}
use Rattle.std.proofs.lemmas.Map.Entries.{length-keys_of}
use Rattle.bptree_keys.specs.Pieces.{piece_at}
use Rattle.bptree_keys.specs.declared.node_id.InnerNodeId.{InnerNodeId}
use Rattle.bptree_keys.specs.declared.node_id.LeafNodeId.{LeafNodeId}
use Rattle.bptree_keys.specs.declared.node_id.Position.{Position}
use Rattle.bptree_keys.specs.declared.node_id.NodeId.{NodeId}
use Rattle.bptree_keys.specs.declared.node_id.NodeId.TheVariants as kind
use Rattle.bptree_keys.proofs.PieceLemmas.{AllZip-at, AllZip-length}
use Rattle.bptree_nodes.specs.Inner.{Inner}
use Rattle.bptree_nodes.specs.Leaf.{Leaf}
use Rattle.bptree_nodes.specs.Slot.{Slot, Slots, Present}
use Rattle.bptree_ranges.specs.Indexes.{before_entry, IsSkipped}
use Rattle.bptree_ranges.specs.declared.indexes.Skipped.{Skipped}
use Rattle.bptree_ranges.specs.declared.indexes.Skipped.TheVariants.{Found, Short}
use Rattle.bptree_invariant.specs.Leaves.{pairs_of}
use Rattle.bptree_invariant.specs.Order.{flat}
use Rattle.bptree_invariant.specs.Shape.{leaf_pairs, inner_children, leaves_at, pairs_at}
use Rattle.bptree_invariant.proofs.Down.{pairs_of_all, is_stored_above}
use Rattle.bptree_invariant.proofs.ListReads.{read_some}
use Rattle.bptree_invariant.proofs.NodePieces.{keys_at}
use Rattle.bptree_invariant.proofs.Walk.{flat-append}
use Rattle.bptree_search.specs.ByArgument.{IsSubtree}
use Rattle.bptree_search.proofs.Child.{IsChildAt, IsNodeAt}
use Rattle.bptree_search.proofs.Summed.{pieces, same, summaries, whole, down}

one_more : {C X : Type 0} (f : C → List X) (cs : List C) (n : ℕ) (d : C) → n < length cs → length (flat f (take (n + 1) cs)) ≡ length (flat f (take n cs)) + length (f (get_or cs n d))
one_more f cs n d within =
    ap (λ l. length (flat f l)) (take_more cs n d within) ∙ (ap length (flat-append f (take n cs) (get_or cs n d ∷ [])) ∙ (length-append (flat f (take n cs)) (f (get_or cs n d) ++ []) ∙ ap (λ l. length (flat f (take n cs)) + length l) (append-nil (f (get_or cs n d)))))

module _ {K V A : Type 0} {cmp : K → K → Ordering} (total : IsTotalOrder cmp) (is_summary : A → List K → Type 0) (slots : Slots (Inner K A) (Leaf K V)) where
  none_before : (h : ℕ) (id : NodeId) → before_entry slots h id 0 ≡ 0
  none_before zero (kind.Leaf id) = omega arith
  none_before zero (kind.Inner id) = refl
  none_before (suc h) (kind.Inner id) = refl
  none_before (suc h) (kind.Leaf id) = refl

  -- a leaf has so many pairs from a slot on
  module _ (top : NodeId) (id : LeafNodeId) (node : Leaf K V) (first i all len : ℕ) where
    pub leaf_found : (h : ℕ) → IsSubtree cmp is_summary slots h top → top ≡ kind.Leaf id → slots.leaf id.0 ≡ Present node → all ≡ length node.pairs → len ≡ all - first → i < len → IsSkipped slots h top (before_entry slots h top first) i (Found (record { leaf = id; slot = first + i }))
    leaf_found zero s is e are rest less =
        let long : length (leaf_pairs (slots.leaf id.0)) ≡ length node.pairs = ap (λ (x : Slot (Leaf K V)). length (leaf_pairs x)) e in
        let s' : IsSubtree cmp is_summary slots zero (kind.Leaf id) = rw is at s in
        rw is (record { before = []; after = []; leaves = refl; present = s'.stored.tree.0 }, omega (arith, long), omega (arith, long))
    leaf_found (suc h) s is e are rest less = absurd (rw is at s.stored.tree)

    pub leaf_short : (h : ℕ) → IsSubtree cmp is_summary slots h top → top ≡ kind.Leaf id → slots.leaf id.0 ≡ Present node → all ≡ length node.pairs → len ≡ all - first → len ≤ i → IsSkipped slots h top (before_entry slots h top first) i (Short (i - len))
    leaf_short zero s is e are rest less =
        let long : length (leaf_pairs (slots.leaf id.0)) ≡ length node.pairs = ap (λ (x : Slot (Leaf K V)). length (leaf_pairs x)) e in
        rw is (omega (arith, long))
    leaf_short (suc h) s is e are rest less = absurd (rw is at s.stored.tree)

  -- the result of a walk from a later index on is that of the whole walk
  pub later_on : (h : ℕ) (id : NodeId) (start later rest i : ℕ) → start + i ≡ later + rest → (skipped : Skipped) → IsSkipped slots h id later rest skipped → IsSkipped slots h id start i skipped
  later_on h id start later rest i is (Found index) (stored, short, at) = (stored, short, omega (arith, at, is))
  later_on h id start later rest i is (Short more) all = omega (arith, all, is)

  module _ (h : ℕ) (id : InnerNodeId) (node : Inner K A) (s : IsSubtree cmp is_summary slots (suc h) (kind.Inner id)) (e : slots.inner id.0 ≡ Present node) where
    before_is : (n : ℕ) → before_entry slots (suc h) (kind.Inner id) n ≡ length (flat (pairs_at slots h) (take n node.children))
    before_is n = ap (λ (x : Slot (Inner K A)). length (flat (pairs_at slots h) (take n (inner_children x)))) e

    all_before : (n : ℕ) → length node.children ≤ n → before_entry slots (suc h) (kind.Inner id) n ≡ length (pairs_at slots (suc h) (kind.Inner id))
    all_before n past =
        before_is n ∙ (ap (λ cs. length (flat (pairs_at slots h) cs)) (take_all n node.children past) ∙ ap length (sym (whole total is_summary slots h id node s e)))

    many : length node.arguments ≡ length node.children
    many = AllZip-length is_summary node.arguments (pieces total is_summary slots h id node s e) (summaries total is_summary slots h id node s e) ∙ length-map node.children (λ c. keys_of (pairs_at slots h c))

    module _ (n : ℕ) (child : NodeId) (within : n < length node.children) (read : slice_get node.children n ≡ Some child) where
      next_before : before_entry slots (suc h) (kind.Inner id) (n + 1) ≡ before_entry slots (suc h) (kind.Inner id) n + length (pairs_at slots h child)
      next_before =
          before_is (n + 1)
          ∙ (one_more (pairs_at slots h) node.children n child within
          ∙ (ap (λ m. m + length (pairs_at slots h (get_or node.children n child))) (sym (before_is n)) ∙ ap (λ c. before_entry slots (suc h) (kind.Inner id) n + length (pairs_at slots h c)) (same total is_summary slots h id node s e n child within read)))

      reported_here : (argument : A) (count : ℕ) → argument ≡ get_or node.arguments n argument → ((keys : List K) → is_summary argument keys → count ≡ length keys) → count ≡ length (pairs_at slots h child)
      reported_here argument count is law =
          let ps = pieces total is_summary slots h id node s e in
          let there : is_summary argument (piece_at ps n) = subst (λ a. is_summary a (piece_at ps n)) (sym is) (AllZip-at is_summary node.arguments ps n argument [] (summaries total is_summary slots h id node s e) (omega (arith, many, within))) in
          let piece : piece_at ps n ≡ keys_of (pairs_at slots h child) = keys_at (pairs_at slots h) node.children n child within ∙ ap (λ c. keys_of (pairs_at slots h c)) (same total is_summary slots h id node s e n child within read) in
          law (piece_at ps n) there ∙ (ap length piece ∙ length-keys_of (pairs_at slots h child))

      found_here : (from rest start i : ℕ) (index : Position) → before_entry slots (suc h) (kind.Inner id) n + (from + rest) ≡ start + i → IsSkipped slots h child from rest (Found index) → IsSkipped slots (suc h) (kind.Inner id) start i (Found index)
      found_here from rest start i index sum (stored, short, at) =
          let left = flat (leaves_at slots h) (take n node.children) in
          let up : length (pairs_of slots (left ++ stored.before)) ≡ length (pairs_of slots left) + length (pairs_of slots stored.before) =
          ap length (flat-append (λ (l : LeafNodeId). leaf_pairs (slots.leaf l.0)) left stored.before) ∙ length-append (pairs_of slots left) (pairs_of slots stored.before) in
          let begins : length (pairs_of slots left) ≡ before_entry slots (suc h) (kind.Inner id) n = ap length (pairs_of_all slots h (take n node.children)) ∙ sym (before_is n) in
          let moved : length (pairs_of slots (left ++ stored.before)) + index.slot ≡ start + i = omega (arith, up, begins, sum, at) in
          (is_stored_above slots h id node e n child index.leaf within read stored, short, moved)

  -- the lemmas above, for a node at a height that the code knows
  module _ (top : NodeId) (id : InnerNodeId) (node : Inner K A) where
    as_many : (h : ℕ) → IsNodeAt cmp is_summary slots h top id node → length node.arguments ≡ length node.children
    as_many zero at = absurd at.subtree.stored.tree
    as_many (suc h) at = many h id node at.subtree at.read

    pub ended : (h : ℕ) → IsNodeAt cmp is_summary slots h top id node → (arguments : List A) → arguments ≡ node.arguments → (n start rest i : ℕ) → length arguments ≤ n → before_entry slots h top n + rest ≡ start + i → IsSkipped slots h top start i (Short rest)
    ended zero at arguments are n start rest i past sum = absurd at.subtree.stored.tree
    ended (suc h) at arguments are n start rest i past sum =
        let sum' = rw at.is at sum in
        let all = all_before h id node at.subtree at.read n (omega (arith, past, ap length are, many h id node at.subtree at.read)) in
        rw at.is (omega (arith, all, sum'))

    module _ (n : ℕ) where
      -- each summary belongs to a child
      pub child_of : (h : ℕ) → IsNodeAt cmp is_summary slots h top id node → (arguments : List A) → arguments ≡ node.arguments → n < length arguments → (child : NodeId) → slice_get node.children n ≡ Some child → IsChildAt cmp is_summary slots h top id node n child
      child_of h at' arguments are less child read = record { at = at'; within = omega (arith, less, ap length are, as_many h at'); child_is = read }

      pub next_is : (h : ℕ) (child : NodeId) → IsChildAt cmp is_summary slots h top id node n child → before_entry slots h top (n + 1) ≡ before_entry slots h top n + length (pairs_at slots (h - 1) child)
      next_is zero child there = absurd there.at.subtree.stored.tree
      next_is (suc h) child there = rw (there.at.is, down total is_summary slots h) (next_before h id node there.at.subtree there.at.read n child there.within there.child_is)

      -- a child is passed if its summary determines how many keys it has, or if it was walked over
      pub passed_by : (h : ℕ) → IsNodeAt cmp is_summary slots h top id node → (arguments : List A) → arguments ≡ node.arguments → n < length arguments → (argument : A) → argument ≡ get_or arguments n argument → (count : ℕ) → ((keys : List K) → is_summary argument keys → count ≡ length keys)
          → (rest start i : ℕ) → count ≤ rest → before_entry slots h top n + rest ≡ start + i → before_entry slots h top (n + 1) + (rest - count) ≡ start + i
      passed_by zero at arguments are less argument is count law rest start i few sum = absurd at.subtree.stored.tree
      passed_by (suc h) at arguments are less argument is count law rest start i few sum =
          let within : n < length node.children = omega (arith, less, ap length are, many h id node at.subtree at.read) in
          let child = read_some node.children n within in
          let reported = reported_here h id node at.subtree at.read n child.0 within child.1 argument count (is ∙ ap (λ l. get_or l n argument) are) law in
          let sum' = rw at.is at sum in
          rw at.is (omega (arith, next_before h id node at.subtree at.read n child.0 within child.1, reported, few, sum'))

      pub passed_below : (h : ℕ) (child : NodeId) → IsChildAt cmp is_summary slots h top id node n child → (rest more start i : ℕ) → IsSkipped slots (h - 1) child (before_entry slots (h - 1) child 0) rest (Short more) → before_entry slots h top n + rest ≡ start + i → before_entry slots h top (n + 1) + more ≡ start + i
      passed_below h child there rest more start i all sum = omega (arith, next_is h child there, none_before (h - 1) child, all, sum)

      pub found : (h : ℕ) (child : NodeId) → IsChildAt cmp is_summary slots h top id node n child → (from rest start i : ℕ) (index : Position) → before_entry slots h top n + (from + rest) ≡ start + i
          → IsSkipped slots (h - 1) child from rest (Found index) → IsSkipped slots h top start i (Found index)
      found zero child there from rest start i index sum below = absurd there.at.subtree.stored.tree
      found (suc h) child there from rest start i index sum below =
          rw there.at.is (found_here h id node there.at.subtree there.at.read n child there.within there.child_is from rest start i index (rw there.at.is at sum) (rw (down total is_summary slots h) at below))

      pub found_first : (h : ℕ) (child : NodeId) → IsChildAt cmp is_summary slots h top id node n child → (rest start i : ℕ) (index : Position) → before_entry slots h top n + rest ≡ start + i
          → IsSkipped slots (h - 1) child (before_entry slots (h - 1) child 0) rest (Found index) → IsSkipped slots h top start i (Found index)
      found_first h child there rest start i index sum below = found h child there (before_entry slots (h - 1) child 0) rest start i index (omega (arith, none_before (h - 1) child, sum)) below
