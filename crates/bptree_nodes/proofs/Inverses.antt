-- The operations that undo an insertion.
use Rattle.std.proofs.Common.{◌≡◌, ℕ, ◌+◌, ◌-◌, ◌<◌, ◌≤◌, zero, suc, List, [], ◌∷◌, ◌++◌, length, take, drop, refl, sym, ap, ◌∙◌, arith, Some}
use Rattle.std.specs.List.{insert, remove, slice_get}
use Rattle.std.proofs.lemmas.List.{take_at, drop_at}
use Rattle.std.proofs.lemmas.List.Edits.{remove-append_left, remove-append_right}
use Rattle.bptree_keys.specs.declared.node_id.NodeId.{NodeId}
use Rattle.bptree_nodes.specs.Inner.{Inner, TakesEntry, merged_inner, without_entry}
use Rattle.bptree_nodes.proofs.Splits.{at_new}

module _ {X : Type 0} where
  -- a removal at the index of an insertion undoes the insertion
  pub remove_inserted : (xs : List X) (i : ℕ) (x : X) → i ≤ length xs → remove (insert xs i x) i ≡ xs
  remove_inserted xs zero x h = refl
  remove_inserted [] (suc i) x h = absurd (omega arith)
  remove_inserted (y ∷ xs) (suc i) x h = ap (λ zs. y ∷ zs) (remove_inserted xs i x (omega arith))

  pub delete_inserted : (xs ys : List X) (i : ℕ) (x y : X) → i ≤ length xs → slice_get (insert xs i x) i ≡ Some y → ys ≡ remove (insert xs i x) i → (ys ≡ xs) × (y ≡ x)
  delete_inserted xs ys i x y h got e =
      let same : Some y ≡ Some x = sym got ∙ at_new xs i x h in
      (e ∙ remove_inserted xs i x h, cc)

  -- if an insertion made the list `whole`, a removal at its index leaves the list before, and returns the inserted element
  pub taken_back : (was whole left : List X) (i : ℕ) (x y : X) → whole ≡ insert was i x → i ≤ length was → slice_get whole i ≡ Some y → left ≡ remove whole i → (left ≡ was) × (y ≡ x)
  taken_back was whole left i x y made h got e = delete_inserted was left i x y h (ap (λ zs. slice_get zs i) (sym made) ∙ got) (e ∙ ap (λ zs. remove zs i) made)

  -- two equal concatenations whose first parts have the same length have equal parts
  pub split_same : (xs ys zs ws : List X) → xs ++ ys ≡ zs ++ ws → length xs ≡ length zs → (xs ≡ zs) × (ys ≡ ws)
  split_same xs ys zs ws same long = (
    sym (take_at xs ys (length xs) refl) ∙ (ap (take (length xs)) same ∙ take_at zs ws (length xs) (sym long)),
    sym (drop_at xs ys (length xs) refl) ∙ (ap (drop (length xs)) same ∙ drop_at zs ws (length xs) (sym long)),
  )

  -- an element of a concatenation is one of its two lists
  pub slice_get-append_left : (xs ys : List X) (i : ℕ) → i < length xs → slice_get (xs ++ ys) i ≡ slice_get xs i
  slice_get-append_left [] ys i h = absurd (omega arith)
  slice_get-append_left (x ∷ xs) ys zero h = refl
  slice_get-append_left (x ∷ xs) ys (suc i) h = slice_get-append_left xs ys i (omega arith)

  pub slice_get-append_right : (xs ys : List X) (i k : ℕ) → i ≡ length xs + k → slice_get (xs ++ ys) i ≡ slice_get ys k
  slice_get-append_right [] ys i k e = let same : i ≡ k = omega (arith, e) in ap (slice_get ys) same
  slice_get-append_right (x ∷ xs) ys zero k e = absurd (omega (arith, e))
  slice_get-append_right (x ∷ xs) ys (suc i) k e = slice_get-append_right xs ys i k (omega (arith, e))

  -- a removal in the second list is a removal in the concatenation
  pub remove_in_right : (xs ys : List X) (i k : ℕ) → i ≡ length xs + k → xs ++ remove ys k ≡ remove (xs ++ ys) i
  remove_in_right xs ys i k e =
      let same : k ≡ i - length xs = omega (arith, e) in
      rw same (sym (remove-append_right xs ys (length xs) i refl (omega (arith, e))))

  -- if a list with an insertion was split in two, a removal in the part with the new element undoes the insertion
  pub taken_from_left : (was left right : List X) (i : ℕ) (x y : X) → i < length left → slice_get left i ≡ Some y → left ++ right ≡ insert was i x → i ≤ length was → (remove left i ++ right ≡ was) × (y ≡ x)
  taken_from_left was left right i x y l got made h =
      taken_back was (left ++ right) (remove left i ++ right) i x y made h (slice_get-append_left left right i l ∙ got) (sym (remove-append_left left right i l))

  pub taken_from_right : (was left right : List X) (i k : ℕ) (x y : X) → i ≡ length left + k → slice_get right k ≡ Some y → left ++ right ≡ insert was i x → i ≤ length was → (left ++ remove right k ≡ was) × (y ≡ x)
  taken_from_right was left right i k x y e got made h =
      taken_back was (left ++ right) (left ++ remove right k) i x y made h (slice_get-append_right left right i k e ∙ got) (remove_in_right left right i k e)

module _ {K A : Type 0} where
  -- the removal of an entry from a node undoes its insertion
  pub entry_taken_back : (slot : ℕ) (whole now : Inner K A) (k : K) (c : NodeId) (a : A) → TakesEntry slot whole k c a now
      → (was : Inner K A) (key : K) (child : NodeId) (argument : A) → whole.keys ≡ insert was.keys slot key
      → whole.children ≡ insert was.children (suc slot) child → whole.arguments ≡ insert was.arguments (suc slot) argument
      → slot ≤ length was.keys → suc slot ≤ length was.children → suc slot ≤ length was.arguments
      → (now ≡ was) × (◌≡◌ {A = K × NodeId × A} (k, c, a) (key, child, argument))
  entry_taken_back slot whole now k c a takes was key child argument ks cs xs h i j =
      let behind : slot + 1 ≡ suc slot = omega arith in
      let first = taken_back was.keys whole.keys (remove whole.keys slot) slot key k ks h takes.among_keys refl in
      let second = taken_back was.children whole.children (remove whole.children (suc slot)) (suc slot) child c cs i (rw behind at takes.among_children) refl in
      let third = taken_back was.arguments whole.arguments (remove whole.arguments (suc slot)) (suc slot) argument a xs j (rw behind at takes.among_arguments) refl in
      (takes.after ∙ rw (behind, first.0, second.0, third.0) refl, rw (first.1, second.1, third.1) refl)

  -- a removal in the part of a merged node that contains the slot is a removal in the merged node
  pub takes_from_left : (slot : ℕ) (left right : Inner K A) (up k : K) (c : NodeId) (a : A) → slot < length left.keys
      → slot + 1 < length left.children → slot + 1 < length left.arguments
      → slice_get left.keys slot ≡ Some k → slice_get left.children (slot + 1) ≡ Some c → slice_get left.arguments (slot + 1) ≡ Some a
      → TakesEntry slot (merged_inner left up right) k c a (merged_inner (without_entry left slot) up right)
  takes_from_left slot left right up k c a l m n key child argument = record {
    among_keys = slice_get-append_left left.keys (up ∷ right.keys) slot l ∙ key;
    among_children = slice_get-append_left left.children right.children (slot + 1) m ∙ child;
    among_arguments = slice_get-append_left left.arguments right.arguments (slot + 1) n ∙ argument;
    after = rw (remove-append_left left.keys (up ∷ right.keys) slot l, remove-append_left left.children right.children (slot + 1) m, remove-append_left left.arguments right.arguments (slot + 1) n) refl;
  }

  pub takes_between : (slot : ℕ) (left right rest : Inner K A) (up k : K) (c : NodeId) (a : A) → slot ≡ length left.keys
      → slot + 1 ≡ length left.children → slot + 1 ≡ length left.arguments
      → right.keys ≡ k ∷ rest.keys → right.children ≡ c ∷ rest.children → right.arguments ≡ a ∷ rest.arguments
      → TakesEntry slot (merged_inner left up right) up c a (merged_inner left k rest)
  takes_between slot left right rest up k c a l m n key child argument = record {
    among_keys = slice_get-append_right left.keys (up ∷ right.keys) slot 0 (omega (arith, l));
    among_children = slice_get-append_right left.children right.children (slot + 1) 0 (omega (arith, m)) ∙ ap (λ zs. slice_get zs 0) child;
    among_arguments = slice_get-append_right left.arguments right.arguments (slot + 1) 0 (omega (arith, n)) ∙ ap (λ zs. slice_get zs 0) argument;
    after = rw (
      ← remove_in_right left.keys (up ∷ right.keys) slot 0 (omega (arith, l)),
      ← remove_in_right left.children right.children (slot + 1) 0 (omega (arith, m)),
      ← remove_in_right left.arguments right.arguments (slot + 1) 0 (omega (arith, n)),
      key,
      child,
      argument,
    ) refl;
  }

  pub takes_from_right : (slot index : ℕ) (left right : Inner K A) (up k : K) (c : NodeId) (a : A) → slot ≡ length left.keys + suc index
      → slot + 1 ≡ length left.children + (index + 1) → slot + 1 ≡ length left.arguments + (index + 1)
      → slice_get right.keys index ≡ Some k → slice_get right.children (index + 1) ≡ Some c → slice_get right.arguments (index + 1) ≡ Some a
      → TakesEntry slot (merged_inner left up right) k c a (merged_inner left up (without_entry right index))
  takes_from_right slot index left right up k c a l m n key child argument = record {
    among_keys = slice_get-append_right left.keys (up ∷ right.keys) slot (suc index) l ∙ key;
    among_children = slice_get-append_right left.children right.children (slot + 1) (index + 1) m ∙ child;
    among_arguments = slice_get-append_right left.arguments right.arguments (slot + 1) (index + 1) n ∙ argument;
    after = rw (
      ← remove_in_right left.keys (up ∷ right.keys) slot (suc index) l,
      ← remove_in_right left.children right.children (slot + 1) (index + 1) m,
      ← remove_in_right left.arguments right.arguments (slot + 1) (index + 1) n,
    ) refl;
  }
