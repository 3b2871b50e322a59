-- Each call of a closure leaves the same value.
use Rattle.std.proofs.Common.{◌≡◌, ◌∙◌, List, [], ◌∷◌, map, ap}
use Rattle.std.specs.Borrow.{Bor, MutBor}
use Rattle.std.specs.Fn.{Mut}
use Rattle.bptree_nodes.specs.Updating.{ChangesInTurn, ChangesValue}

module _ {F K V : Type 0} (calls : Mut F (Bor K × (MutBor V × Unit {0})) (Unit {0} × (MutBor V × Unit {0}))) (w : V) (leaves : (f : F) (pair : K × V) (after : F) (left : K × V) → ChangesValue calls f pair after left → left ≡ (pair.0, w)) where
  pub all_become : (f : F) (old : List (K × V)) (after : F) (new : List (K × V)) → ChangesInTurn calls f old after new → new ≡ map (λ pair. (pair.0, w)) old
  all_become f [] after new changes = changes.1
  all_become f (p ∷ old) after new (g, q, rest, call, changes, is) =
      is ∙ (ap (λ pair. pair ∷ rest) (leaves f p g q call) ∙ ap (λ l. (p.0, w) ∷ l) (all_become g old after rest changes))
