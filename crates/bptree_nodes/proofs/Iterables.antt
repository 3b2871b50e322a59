-- The items of the iterator of a vector.
use Rattle.std.proofs.Common.{◌≡◌, List, length, sym, ◌∙◌}
use Rattle.std.specs.declared.vec.Vec.{Vec}
use Rattle.std.specs.declared.vec.IntoIter.{IntoIter}
use Rattle.std.specs.Iterator.{Drains}
use Rattle.std.specs.Vec.Iter.{into_iter_items, into_iter_len, into_iter_steps}
use Rattle.std.proofs.lemmas.List.{map-id}
use Rattle.std.proofs.lemmas.Iterator.{items_from_drains}
use Rattle.std.proofs.lemmas.Iterator.Adapters.{YieldsList-from_vec}

-- the items of the iterator are the elements of the vector
pub given_by_vec : {X Z : Type 0} (v : Vec X Z) (xs : List X) (it : IntoIter X Z) → into_iter_items it ≡ v.items → into_iter_len it ≡ length v.items → Drains (into_iter_steps {X = X} {Z = Z}) it xs → xs ≡ v.items
given_by_vec v xs it items len (u, (t, taken, last)) =
    sym (map-id xs) ∙ items_from_drains xs (t, taken, λ _. (u, last)) (YieldsList-from_vec v.items items len)
