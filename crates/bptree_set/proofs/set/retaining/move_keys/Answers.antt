use Rattle.std.proofs.Common.{◌∙◌, ◌++◌, ap, arith, length}
use Rattle.std.specs.Map.{keys_of}
use Rattle.std.specs.Vec.Iter.{into_iter_items}
use Rattle.bptree_set.proofs.set.retaining.move_keys.Goals as goal

pub pairs-init : goal.pairs-init
pairs-init g c = record {
  moved = ap (λ l. l ++ keys_of (into_iter_items c.into_iter-rest.result)) c.requires.none ∙ ap keys_of c.into_iter-rest.ensures.rest;
  room = omega (arith, c.requires.room, ap length c.into_iter-rest.ensures.rest);
}
