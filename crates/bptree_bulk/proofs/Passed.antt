-- Members that move from the front of one list to the end of another.
use Rattle.std.proofs.Common.{◌≡◌, ◌∙◌, ◌+◌, ◌-◌, ◌<◌, ◌≤◌, ℕ, zero, suc, sym, ap, refl, List, [], ◌∷◌, ◌++◌, length, take, drop, arith, append_assoc, length-append}
use Rattle.std.proofs.lemmas.List.{drop-take}
use Rattle.std.specs.declared.alloc.Global.{Global}
use Rattle.std.specs.declared.boxed.Box.{Box}
use Rattle.bptree_bulk_load.specs.Rooms.{joined, parts_of}
use Rattle.bptree_bulk.specs.Moving.{poured}
use Rattle.bptree_bulk.specs.Cut.{pieces}
use Rattle.bptree_nodes.specs.Leaf.{Leaf}

one_less : (n : ℕ) → n ≡ suc n - 1
one_less n = omega arith

one_more : (n m : ℕ) → suc n + m ≡ suc (n + m)
one_more n m = omega arith

module _ {X : Type 0} where
  pub take_one : (n : ℕ) (x : X) (l : List X) → 0 < n → take n (x ∷ l) ≡ x ∷ take (n - 1) l
  take_one zero x l some = absurd (omega (arith, some))
  take_one (suc n) x l some = ap (λ m. x ∷ take m l) (one_less n)

  pub drop_one : (n : ℕ) (x : X) (l : List X) → 0 < n → drop n (x ∷ l) ≡ drop (n - 1) l
  drop_one zero x l some = absurd (omega (arith, some))
  drop_one (suc n) x l some = ap (λ m. drop m l) (one_less n)

  pub rest_one : (n : ℕ) (x : X) (items items' : List X) → 0 < n → items ≡ x ∷ items' → drop n items ≡ drop (n - 1) items'
  rest_one n x items items' some first = ap (drop n) first ∙ drop_one n x items' some

  pub take_take : (n m : ℕ) (l : List X) → take n (take (n + m) l) ≡ take n l
  take_take zero m l = refl
  take_take (suc n) m [] = ap (λ k. take (suc n) (take {A = X} k [])) (one_more n m)
  take_take (suc n) m (x ∷ l) = ap (λ k. take (suc n) (take k (x ∷ l))) (one_more n m) ∙ ap (λ r. x ∷ r) (take_take n m l)

  pieces_two : (half : ℕ) (l : List X) → 0 < half → pieces half l ≡ take half l ∷ drop half l ∷ []
  pieces_two zero l some = absurd (omega (arith, some))
  pieces_two (suc n) l some = refl

  -- the two pieces of the first members
  pub two_pieces : (half count : ℕ) (l : List X) → 0 < half → half ≤ count → pieces half (take count l) ≡ take half l ∷ take (count - half) (drop half l) ∷ []
  two_pieces half count l some within =
      let both : count ≡ half + (count - half) = omega (arith, within) in
      let first : take half (take count l) ≡ take half l = ap (λ n. take half (take n l)) both ∙ take_take half (count - half) l in
      let second : drop half (take count l) ≡ take (count - half) (drop half l) = ap (λ n. drop half (take n l)) both ∙ drop-take half (count - half) l in
      pieces_two half (take count l) some ∙ (ap (λ p. p ∷ drop half (take count l) ∷ []) first ∙ ap (λ p. take half l ∷ p ∷ []) second)

  -- the two pieces behind other lists
  pub filled_two : (half count : ℕ) (l : List X) (before between after : List (List X)) → 0 < half → half ≤ count → between ≡ before ++ take half l ∷ [] → after ≡ between ++ take (count - half) (drop half l) ∷ [] → after ≡ before ++ pieces half (take count l)
  filled_two half count l before between after some within one two =
      two
      ∙ (ap (λ b. b ++ take (count - half) (drop half l) ∷ []) one
      ∙ (append_assoc before (take half l ∷ []) (take (count - half) (drop half l) ∷ []) ∙ ap (λ p. before ++ p) (sym (two_pieces half count l some within))))

module _ {K V : Type 0} where
  pub pour_one : (n : ℕ) (leaf : Box (Leaf K V) Global) (leaves leaves' : List (Box (Leaf K V) Global)) → 0 < n → leaves ≡ leaf ∷ leaves' → poured n leaves ≡ leaf.value.pairs ++ poured (n - 1) leaves'
  pour_one n leaf leaves leaves' some first = ap (poured n) first ∙ ap (λ l. joined (parts_of l)) (take_one n leaf leaves' some)

  pub poured_one : (n : ℕ) (leaf : Box (Leaf K V) Global) (leaves leaves' : List (Box (Leaf K V) Global)) (pairs : List (K × V)) → 0 < n → leaves ≡ leaf ∷ leaves' → pairs ++ poured n leaves ≡ (pairs ++ leaf.value.pairs) ++ poured (n - 1) leaves'
  poured_one n leaf leaves leaves' pairs some first = ap (λ l. pairs ++ l) (pour_one n leaf leaves leaves' some first) ∙ sym (append_assoc pairs leaf.value.pairs (poured (n - 1) leaves'))

  pub poured_len : (n : ℕ) (leaf : Box (Leaf K V) Global) (leaves leaves' : List (Box (Leaf K V) Global)) → 0 < n → leaves ≡ leaf ∷ leaves' → length (poured n leaves) ≡ length leaf.value.pairs + length (poured (n - 1) leaves')
  poured_len n leaf leaves leaves' some first = ap length (pour_one n leaf leaves leaves' some first) ∙ length-append leaf.value.pairs (poured (n - 1) leaves')
