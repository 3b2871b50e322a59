-- Changes that a closure makes to a value of a map, and values that a closure makes.
use Rattle.std.specs.Prelude.{◌≡◌, ◌↔◌, ℕ, List, Some, Result, Err}
use Rattle.std.specs.Borrow.{MutBor}
use Rattle.std.specs.declared.cmp.Ordering.{Ordering}
use Rattle.std.specs.Fn.{FnOnceReturnsAtMut, Once}
use Rattle.std.specs.Option.{UnwrapsOrElse}
use Rattle.bptree_keys.specs.Contents.{put, value}
use Rattle.bptree_tree.specs.Changes.{IsFull}
use Rattle.bptree_tree.specs.Returning.{pair_of}
use Rattle.bptree_tree.specs.declared.InsertError.{InsertError}
use Rattle.bptree_tree.specs.declared.InsertError.TheVariants.{Full}

-- the value at k is the one that a call of f leaves of the old one; nothing else changes
pub record IsUpdatedAt {F K V : Type 0} (calls : Once F (MutBor V × Unit {0}) (Unit {0} × (MutBor V × Unit {0}))) (f : F) (cmp : K → K → Ordering) (old : List (K × V)) (k : K) (new : List (K × V)) : Type 0 where
  pub was : V
  pub left : V
  pub there : value cmp old k ≡ Some was
  pub call : FnOnceReturnsAtMut calls f was tt left
  pub contents : new ≡ put cmp old k left

module _ {K V : Type 0} (makes : V → Type 0) where
  -- v is the value at k, or one that is made if there is no such value
  abbrev pub IsThereOrMade : (K → K → Ordering) → List (K × V) → K → V → Type 0
  IsThereOrMade cmp l k v = UnwrapsOrElse (value cmp l k) makes v

  -- the value at k is the old one, or one that is made; nothing else changes
  pub record IsPutIfAbsent (cmp : K → K → Ordering) (old : List (K × V)) (k : K) (new : List (K × V)) : Type 0 where
    pub put_value : V
    pub made : IsThereOrMade cmp old k put_value
    pub contents : new ≡ put cmp old k put_value

  -- the error has k, which was not stored, and a value that is made
  abbrev pub FailsAt : K → InsertError K V → Type 0
  FailsAt k refusal = ((pair_of refusal).0 ≡ k) × makes (pair_of refusal).1

-- the error is `Full`, with k and some value
abbrev pub IsFullWith : {K V R : Type 0} → K → Result R (InsertError K V) → Type 0
IsFullWith {V = V} k result = (v : V) × (result ≡ Err (Full k v))

-- the error is `Full` if and only if k is absent and the length is the greatest
abbrev pub IsFullExactly : {K V R X : Type 0} → (K → K → Ordering) → ℕ → K → List (K × X) → Result R (InsertError K V) → Type 0
IsFullExactly cmp most k l result = IsFullWith k result ↔ IsFull cmp most l k
