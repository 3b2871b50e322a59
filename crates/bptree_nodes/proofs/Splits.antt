-- The two nodes after a split of an inner node.
use Rattle.std.proofs.Common.{◌≡◌, ℕ, ◌+◌, ◌-◌, ◌<◌, ◌≤◌, zero, suc, List, [], ◌∷◌, ◌++◌, length, take, drop, refl, sym, ap, ◌∙◌, arith, Some}
use Rattle.std.specs.List.{insert, slice_get}
use Rattle.std.proofs.lemmas.List.{take-append-drop, take-take}
use Rattle.bptree_keys.specs.declared.node_id.NodeId.{NodeId}
use Rattle.bptree_nodes.specs.Inner.{Inner, SplitsByTable}
use Rattle.bptree_nodes.proofs.Pairs.{parts, slice_get-take}

module _ {X : Type 0} where
  slice_get-drop : (n : ℕ) (xs : List X) (i : ℕ) → slice_get (drop n xs) i ≡ slice_get xs (n + i)
  slice_get-drop zero xs i = let e : i ≡ zero + i = omega arith in ap (slice_get xs) e
  slice_get-drop (suc n) [] i = refl
  slice_get-drop (suc n) (x ∷ xs) i = slice_get-drop n xs i ∙ (let e : suc (n + i) ≡ suc n + i = omega arith in ap (slice_get (x ∷ xs)) e)

  -- a list is the elements before one of its elements, this element, and the elements after it
  pub around_element : (xs : List X) (n m : ℕ) (x : X) → slice_get xs n ≡ Some x → m ≡ n + 1 → take n xs ++ x ∷ drop m xs ≡ xs
  around_element [] n m x h e = cc
  around_element (y ∷ xs) zero m x h e = let one : m ≡ suc zero = omega arith in rw one (cc)
  around_element (y ∷ xs) (suc n) zero x h e = absurd (omega arith)
  around_element (y ∷ xs) (suc n) (suc m) x h e = ap (λ zs. y ∷ zs) (around_element xs n m x h (omega arith))

  -- the last of the first m elements, and the elements before it
  pub last_taken : (xs cut left : List X) (m len : ℕ) (x : X) → 0 < m → cut ≡ take m xs → len ≡ m → slice_get cut (len - 1) ≡ Some x → left ≡ take (len - 1) cut → (slice_get xs (m - 1) ≡ Some x) × (left ≡ take (m - 1) xs)
  last_taken xs cut left m len x some kept same value items = (
    sym (slice_get-take m xs (m - 1) (omega arith)) ∙ rw (kept, same) at value,
    items ∙ rw (kept, same) (take-take (m - 1) m xs (omega arith)),
  )

  -- the elements of a list with a new element
  pub at_new : (xs : List X) (i : ℕ) (x : X) → i ≤ length xs → slice_get (insert xs i x) i ≡ Some x
  at_new xs zero x h = refl
  at_new [] (suc i) x h = absurd (omega arith)
  at_new (y ∷ xs) (suc i) x h = at_new xs i x (omega arith)

  before_new : (xs : List X) (i k : ℕ) (x : X) → k < i → i ≤ length xs → slice_get (insert xs i x) k ≡ slice_get xs k
  before_new xs zero k x l h = absurd (omega arith)
  before_new [] (suc i) k x l h = absurd (omega arith)
  before_new (y ∷ xs) (suc i) zero x l h = refl
  before_new (y ∷ xs) (suc i) (suc k) x l h = before_new xs i k x (omega arith) (omega arith)

  behind_new : (xs : List X) (i k : ℕ) (x : X) → i ≤ k → i ≤ length xs → slice_get (insert xs i x) (suc k) ≡ slice_get xs k
  behind_new xs zero k x l h = refl
  behind_new [] (suc i) k x l h = absurd (omega arith)
  behind_new (y ∷ xs) (suc i) zero x l h = absurd (omega arith)
  behind_new (y ∷ xs) (suc i) (suc k) x l h = behind_new xs i k x (omega arith) (omega arith)

  -- the new element in the part before the split point, and in the part after it
  new_in_left : (xs : List X) (i n : ℕ) (x : X) → i < n → i ≤ length xs → slice_get (take n (insert xs i x)) i ≡ Some x
  new_in_left xs i n x l h = slice_get-take n (insert xs i x) i l ∙ at_new xs i x h

  new_in_right : (xs : List X) (i n k : ℕ) (x : X) → i ≡ n + k → i ≤ length xs → slice_get (drop n (insert xs i x)) k ≡ Some x
  new_in_right xs i n k x e h = slice_get-drop n (insert xs i x) k ∙ (ap (slice_get (insert xs i x)) (sym e) ∙ at_new xs i x h)

module _ {K A : Type 0} (slot : ℕ) (key : K) (child : NodeId) (argument : A) (old left : Inner K A) (promoted : K) (right : Inner K A) where
  pub splits_by_table : length old.keys ≡ 64 → length old.children ≡ 65 → length old.arguments ≡ 65 → slot ≤ 64
      → slice_get (insert old.keys slot key) 32 ≡ Some promoted
      → left.children ≡ take 33 (insert old.children (slot + 1) child) → left.arguments ≡ take 33 (insert old.arguments (slot + 1) argument)
      → right.children ≡ drop 33 (insert old.children (slot + 1) child) → right.arguments ≡ drop 33 (insert old.arguments (slot + 1) argument)
      → SplitsByTable slot key child argument old left promoted right
  splits_by_table n m a h up lc la rc ra = record {
    low = λ l. (
      sym (behind_new old.keys slot 31 key (omega arith) (omega arith)) ∙ up,
      record {
        among_children = rw lc (new_in_left old.children (slot + 1) 33 child (omega arith) (omega arith));
        among_arguments = rw la (new_in_left old.arguments (slot + 1) 33 argument (omega arith) (omega arith));
      },
    );
    middle = λ l. (
      let same : Some promoted ≡ Some key = sym up ∙ (ap (λ i. slice_get (insert old.keys i key) 32) l ∙ at_new old.keys 32 key (omega arith)) in cc,
      record {
        among_children = rw rc (new_in_right old.children (slot + 1) 33 0 child (omega arith) (omega arith));
        among_arguments = rw ra (new_in_right old.arguments (slot + 1) 33 0 argument (omega arith) (omega arith));
      },
    );
    high = λ l. (
      sym (before_new old.keys slot 32 key l (omega arith)) ∙ up,
      record {
        among_children = rw rc (new_in_right old.children (slot + 1) 33 (slot - 32) child (omega arith) (omega arith));
        among_arguments = rw ra (new_in_right old.arguments (slot + 1) 33 (slot - 32) argument (omega arith) (omega arith));
      },
    );
  }

-- the lemmas that the checker tries at each goal of an inner node
pub ruleset inner = (parts, around_element, take-append-drop)
