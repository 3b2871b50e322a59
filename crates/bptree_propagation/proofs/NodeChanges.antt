-- Changes of a node's summaries and entries, and the undoing of each.
use Rattle.std.proofs.Common.{◌≡◌, ℕ, zero, suc, ◌<◌, ◌≤◌, List, [], ◌∷◌, ◌++◌, length, refl, sym, ap, ◌∙◌, arith, add-one, Some, slice_get, slice_set}
use Rattle.std.specs.List.{insert}
use Rattle.bptree_nodes.specs.Inner.{Inner}
use Rattle.bptree_keys.specs.declared.node_id.NodeId.{NodeId}
use Rattle.bptree_propagation.specs.Sums.{with_summary, with_split, HasChildAt, IsNodeCut}
use Rattle.bptree_propagation.specs.Undoing.{GivesEntry}
use Rattle.bptree_propagation.specs.declared.node_changes.NodeSplit.{NodeSplit}

module _ {X : Type 0} where
  pub set_back : (xs : List X) (i : ℕ) (a b : X) → slice_get xs i ≡ Some b → slice_set (slice_set xs i a) i b ≡ xs
  set_back [] i a b e = cc
  set_back (x ∷ xs) zero a b e = let same : x ≡ b = cc in ap (λ y. y ∷ xs) (sym same)
  set_back (x ∷ xs) (suc i) a b e = ap (λ ys. x ∷ ys) (set_back xs i a b e)

  pub get_set : (xs : List X) (i : ℕ) (a : X) → i < length xs → slice_get (slice_set xs i a) i ≡ Some a
  get_set [] i a below = absurd (omega arith)
  get_set (x ∷ xs) zero a below = refl
  get_set (x ∷ xs) (suc i) a below = get_set xs i a (omega arith)

  pub set_long : (xs : List X) (i : ℕ) (a : X) → length (slice_set xs i a) ≡ length xs
  set_long [] i a = refl
  set_long (x ∷ xs) zero a = refl
  set_long (x ∷ xs) (suc i) a = ap suc (set_long xs i a)

pub some_same : {X : Type 0} (a b : X) → Some a ≡ Some b → a ≡ b
some_same a b e = cc

module _ {K A : Type 0} where
  -- the old summary is stored again, and the new one is returned
  pub sum_back : (was mid new : Inner K A) (index : ℕ) (a old out : A) → mid ≡ with_summary was index a → index < length was.arguments → slice_get was.arguments index ≡ Some old
      → slice_get mid.arguments index ≡ Some out → new ≡ record mid { arguments = slice_set mid.arguments index old } → (new ≡ was) × (out ≡ a)
  sum_back was mid new index a old out is below read got set = (
    set ∙ rw is (ap (λ xs. record was { arguments = xs }) (set_back was.arguments index a old read)),
    some_same out a (sym got ∙ (ap (λ (n : Inner K A). slice_get n.arguments index) is ∙ get_set was.arguments index a below)),
  )

  pub index_below : (was : Inner K A) (index : ℕ) → HasChildAt was index → index < length was.arguments
  index_below was index h = omega (arith, h.within, h.children, h.arguments)

  -- divisions with the same entry and the same summary to the left are the same
  same_division : (given d : NodeSplit K A) (entry : K × NodeId × A) → GivesEntry entry given → ◌≡◌ {A = K × NodeId × A} entry (d.separator, d.node, d.right) → given.left ≡ d.left → given ≡ d
  same_division given d entry gives same left = gives ∙ (λ i. record { left = left i; separator = (same i).0; node = (same i).1; right = (same i).2 })

  -- an entry is removed again, and the old summary of the child before it is stored again
  pub entry_back : (was whole mid new : Inner K A) (index : ℕ) (old : A) (entry : K × NodeId × A) (given d : NodeSplit K A) → HasChildAt was index → slice_get was.arguments index ≡ Some old
      → whole ≡ with_split was index d.left d.separator d.node d.right
      → ((w : Inner K A) (key : K) (child : NodeId) (a : A) → whole.keys ≡ insert w.keys index key → whole.children ≡ insert w.children (suc index) child → whole.arguments ≡ insert w.arguments (suc index) a
      → index ≤ length w.keys → suc index ≤ length w.children → suc index ≤ length w.arguments → (mid ≡ w) × (◌≡◌ {A = K × NodeId × A} entry (key, child, a)))
      → slice_get mid.arguments index ≡ Some given.left → new ≡ record mid { arguments = slice_set mid.arguments index old } → GivesEntry entry given → (new ≡ was) × (given ≡ d)
  entry_back was whole mid new index old entry given d h read is undoes got set gives =
      let w = with_summary was index d.left in
      let long = set_long was.arguments index d.left in
      let taken = undoes w d.separator d.node d.right (ap (λ (x : Inner K A). x.keys) is) (ap (λ (x : Inner K A). x.children) is ∙ rw add-one refl) (ap (λ (x : Inner K A). x.arguments) is ∙ rw add-one refl)
      h.within (omega (arith, h.within, h.children)) (omega (arith, long, h.within, h.children, h.arguments)) in
      let back = sum_back was mid new index d.left old given.left taken.0 (index_below was index h) read got set in
      (back.0, same_division given d entry gives taken.1 back.1)

  -- the split of a full node is undone
  pub cut_back : (was left half mid new : Inner K A) (index : ℕ) (old : A) (up : K) (entry : K × NodeId × A) (given d : NodeSplit K A) → HasChildAt was index → length was.keys ≡ 64 → slice_get was.arguments index ≡ Some old
      → IsNodeCut (with_split was index d.left d.separator d.node d.right) left up half
      → ((w : Inner K A) (key : K) (child : NodeId) (a : A) → left.keys ++ (up ∷ half.keys) ≡ insert w.keys index key → left.children ++ half.children ≡ insert w.children (suc index) child
      → left.arguments ++ half.arguments ≡ insert w.arguments (suc index) a → length w.keys ≡ 64 → length w.children ≡ 65 → length w.arguments ≡ 65 → (mid ≡ w) × (◌≡◌ {A = K × NodeId × A} entry (key, child, a)))
      → slice_get mid.arguments index ≡ Some given.left → new ≡ record mid { arguments = slice_set mid.arguments index old } → GivesEntry entry given → (new ≡ was) × (given ≡ d)
  cut_back was left half mid new index old up entry given d h full read cut undoes got set gives =
      let w = with_summary was index d.left in
      let long = set_long was.arguments index d.left in
      let taken = undoes w d.separator d.node d.right cut.keys (cut.children ∙ rw add-one refl) (cut.arguments ∙ rw add-one refl)
      full (omega (arith, full, h.children)) (omega (arith, long, full, h.children, h.arguments)) in
      let back = sum_back was mid new index d.left old given.left taken.0 (index_below was index h) read got set in
      (back.0, same_division given d entry gives taken.1 back.1)
