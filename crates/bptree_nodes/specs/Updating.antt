-- The values that a closure leaves when it changes values in place.
use Rattle.std.specs.Prelude.{◌≡◌, ℕ, List, [], ◌∷◌, ◌++◌, take, drop}
use Rattle.std.specs.Borrow.{Bor, MutBor}
use Rattle.std.specs.Fn.{Called, Mut}
use Rattle.bptree_nodes.specs.Leaf.{Leaf}

module _ {F K V : Type 0} (calls : Mut F (Bor K × (MutBor V × Unit {0})) (Unit {0} × (MutBor V × Unit {0}))) where
  -- a call with the key and the value of a pair leaves the pair `left` and the closure `after`
  pub record ChangesValue (f : F) (pair : K × V) (after : F) (left : K × V) : Type 0 where
    pub key : Bor K
    pub value : MutBor V
    pub borrowed : MutBor V
    pub shows : (key.now ≡ pair.0) × (value.now ≡ pair.1)
    pub called : Called calls f (key, (value, tt)) (tt, (borrowed, tt)) after
    pub leaves : left ≡ (pair.0, borrowed.now)

  -- the closure changed the pairs one after another
  abbrev pub ChangesInTurn : F → List (K × V) → F → List (K × V) → Type 0
  ChangesInTurn f [] after new = (after ≡ f) × (new ≡ [])
  ChangesInTurn f (p ∷ old) after new =
      (g : F) × (q : K × V) × (rest : List (K × V)) × ChangesValue f p g q × ChangesInTurn g old after rest × (new ≡ q ∷ rest)

  -- the closure changed the pairs from the index `from` on and before `to`, and all others are unchanged
  abbrev pub ChangesBetween : ℕ → ℕ → F → List (K × V) → F → List (K × V) → Type 0
  ChangesBetween from to f old after new = (changed : List (K × V)) × ChangesInTurn f (drop from (take to old)) after changed × (new ≡ take from old ++ changed ++ drop to old)

  -- the closure changed the pairs of a leaf from the slot `from` on and before `to`, and the links are unchanged
  abbrev pub LeafChangesBetween : ℕ → ℕ → F → Leaf K V → F → Leaf K V → Type 0
  LeafChangesBetween from to f old after new =
      (changed : List (K × V)) × ChangesInTurn f (drop from (take to old.pairs)) after changed × (new ≡ record old { pairs = take from old.pairs ++ changed ++ drop to old.pairs })
