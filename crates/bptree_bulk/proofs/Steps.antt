-- Steps up to the end of a leaf of either list.
use Rattle.std.proofs.Common.{◌≡◌, ◌∙◌, ◌+◌, ◌<◌, ℕ, zero, suc, sym, ap, refl, Some, List, [], ◌∷◌, ◌++◌, length, take, drop, arith, append_assoc, length-append}
use Rattle.std.proofs.lemmas.List.{length-drop}
use Rattle.std.proofs.lemmas.Map.Entries.{length-keys_of}
use Rattle.std.specs.Prelude.{slice_index_or}
use Rattle.std.specs.Map.{keys_of}
use Rattle.std.specs.declared.cmp.Ordering.{Ordering}
use Rattle.bptree_bulk.specs.Weave.{first_rest, next_source, second_rest, source_by, takes_first, takes_second, AddsSteps, AreFirstKeys}
use Rattle.bptree_bulk.specs.declared.weaving.Source.{Source}
use Rattle.bptree_bulk.specs.declared.weaving.Source.TheVariants.{First, Second, Both}
use Rattle.bptree_bulk.proofs.Segments.{drop_more}
use Rattle.bptree_bulk.proofs.Weaves.{goes_joined}

whole_keys : {K V : Type 0} (pairs rest : List (K × V)) → keys_of (take (length (keys_of pairs)) (pairs ++ rest)) ≡ keys_of pairs
whole_keys [] rest = refl
whole_keys (p ∷ pairs) rest = ap (λ l. p.0 ∷ l) (whole_keys pairs rest)

keys_behind : {K V : Type 0} (pairs rest : List (K × V)) (i : ℕ) → keys_of (take (length (drop i (keys_of pairs))) (drop i (pairs ++ rest))) ≡ drop i (keys_of pairs)
keys_behind [] rest zero = refl
keys_behind [] rest (suc i) = refl
keys_behind (p ∷ pairs) rest zero = whole_keys (p ∷ pairs) rest
keys_behind (p ∷ pairs) rest (suc i) = keys_behind pairs rest i

-- the keys of a leaf from a slot on are those of the first pairs from there on
pub first_keys : {K V : Type 0} (pairs rest : List (K × V)) (i : ℕ) → (0 < length (drop i (pairs ++ rest)) → i < length pairs) → AreFirstKeys (drop i (keys_of pairs)) (drop i (pairs ++ rest))
first_keys pairs rest i inside =
    record {
      are = sym (keys_behind pairs rest i);
      within = omega (arith, length-drop i (keys_of pairs), length-drop i (pairs ++ rest), length-append pairs rest, length-keys_of pairs);
      some = λ some. omega (arith, length-drop i (keys_of pairs), length-keys_of pairs, inside some);
    }

-- the pair at an index has the key there
pub record IsPairAt {K V : Type 0} (l : List (K × V)) (i : ℕ) (k : K) : Type 0 where
  pub value : V
  pub rest : List (K × V)
  pub is : drop i l ≡ (k, value) ∷ rest

pub pair_at : {K V : Type 0} (keys : List K) (l : List (K × V)) (i : ℕ) (k : K) → keys ≡ keys_of (take (length keys) l) → i < length keys → k ≡ slice_index_or keys i k → IsPairAt l i k
pair_at [] l i k are less get = absurd (omega (arith, less))
pair_at (x ∷ keys) [] i k are less get = absurd (let z : x ∷ keys ≡ [] = are in cc)
pair_at (x ∷ keys) (p ∷ l) zero k are less get =
    let same : p.0 ≡ k = (let z : x ∷ keys ≡ p.0 ∷ keys_of (take (length keys) l) = are in let y : k ≡ x = get in cc) in
    record { value = p.1; rest = l; is = ap (λ key. (key, p.1) ∷ l) same }
pair_at (x ∷ keys) (p ∷ l) (suc i) k are less get =
    let later : keys ≡ keys_of (take (length keys) l) = (let z : x ∷ keys ≡ p.0 ∷ keys_of (take (length keys) l) = are in cc) in
    let there = pair_at keys l i k later (omega (arith, less)) get in
    record { value = there.value; rest = there.rest; is = there.is }

-- a step takes a pair
pub takes_some : (s : Source) → 0 < takes_first s + takes_second s
takes_some First = omega arith
takes_some Second = omega arith
takes_some Both = omega arith

module _ {K V : Type 0} (cmp : K → K → Ordering) where
  -- the step that the order of both next keys decides
  next_by : (a b : List (K × V)) (i j : ℕ) (k k' : K) → IsPairAt a i k → IsPairAt b j k' → next_source cmp (drop i a) (drop j b) ≡ Some (source_by (cmp k k'))
  next_by a b i j k k' one other = ap (λ l. next_source cmp l (drop j b)) one.is ∙ ap (λ l. next_source cmp ((k, one.value) ∷ one.rest) l) other.is

  first_on : (s : Source) (a : List (K × V)) (i : ℕ) → first_rest s (drop i a) ≡ drop (i + takes_first s) a
  first_on First a i = drop_more i 1 a
  first_on Second a i = drop_more i 0 a
  first_on Both a i = drop_more i 1 a

  second_on : (s : Source) (b : List (K × V)) (j : ℕ) → second_rest s (drop j b) ≡ drop (j + takes_second s) b
  second_on First b j = drop_more j 0 b
  second_on Second b j = drop_more j 1 b
  second_on Both b j = drop_more j 1 b

  -- one step more
  pub step_more : (old now : List Source) (a b : List (K × V)) (keys keys' : List K) (i j : ℕ) (k k' : K) (s : Source) → AreFirstKeys keys a → AreFirstKeys keys' b → i < length keys → j < length keys' → k ≡ slice_index_or keys i k → k' ≡ slice_index_or keys' j k'
      → s ≡ source_by (cmp k k') → AddsSteps cmp old now a b (drop i a) (drop j b) → AddsSteps cmp old (now ++ s ∷ []) a b (drop (i + takes_first s) a) (drop (j + takes_second s) b)
  step_more old now a b keys keys' i j k k' s one other less less' get get' is adds =
      let next : next_source cmp (drop i a) (drop j b) ≡ Some s = next_by a b i j k k' (pair_at keys a i k one.are less get) (pair_at keys' b j k' other.are less' get') ∙ ap Some (sym is) in
      record {
        more = adds.more ++ s ∷ [];
        added = ap (λ l. l ++ s ∷ []) adds.added ∙ append_assoc old adds.more (s ∷ []);
        goes = goes_joined cmp adds.more (s ∷ []) a b (drop i a) (drop j b) (drop (i + takes_first s) a) (drop (j + takes_second s) b) adds.goes (next, (first_on s a i, second_on s b j));
      }
