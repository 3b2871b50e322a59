use Rattle.std.proofs.Common.{sym}
use Rattle.bptree_removal.proofs.TakenOut as out
use Rattle.bptree_removal.proofs.removal.take_out.Goals as goal

pub take_pair-pair-requires-clause-slot : goal.take_pair-pair-requires-clause-slot
take_pair-pair-requires-clause-slot g c =
    out.slot_found g.S.K.Ord.cmp _ c.requires.0 c.args.slot c.requires.1.found

pub rebalance_leaf-requires : goal.rebalance_leaf-requires
rebalance_leaf-requires g c = (
  out.short_leaf g.met.S.K.Ord.total g.S.Argument.Argument.is_summary (g.S.NodeStore.slots c.args.store.now) c.pop.new.self c.in-Some.id c.in-Some.index c.in-Some.field-0-2 c.args.leaf c.args.slot c.requires.0 c.args.path.now c.in-Some.ensures.some c.requires.1
      c.take_pair-pair.result c.take_pair-pair.ensures.pair (g.S.NodeStore.slots c.take_pair-pair.new.store) c.take_pair-pair.ensures.takes c.get_leaf.result.now c.get_leaf.ensures c.if-can_spare.ensures.1,
  c.requires.2,
)

pub put_pair-requires : goal.put_pair-requires
put_pair-requires g c =
    rw c.in-Err.ensures.unchanged (
    let room = out.room_taken g.met.S.K.Ord.total g.S.Argument.Argument.is_summary (g.S.NodeStore.slots c.args.store.now) c.args.path.now c.args.leaf c.args.slot c.requires.0 c.requires.1 c.take_pair-pair.result c.take_pair-pair.ensures.pair (g.S.NodeStore.slots c.take_pair-pair.new.store) c.take_pair-pair.ensures.takes in
    record { present = room.0; slot = room.1; room = room.2 }
    )

pub returns-in-Ok-clause-leaves : goal.returns-in-Ok-clause-leaves
returns-in-Ok-clause-leaves g c k there had =
    out.leaves_short g.met.S.K.Ord.total g.S.Argument.Argument.is_summary (g.S.NodeStore.slots c.args.store.now) c.pop.new.self c.in-Some.id c.in-Some.index c.in-Some.field-0-2 c.args.leaf c.args.slot k c.args.path.now c.in-Some.ensures.some there
    c.take_pair-pair.result c.take_pair-pair.ensures.pair (g.S.NodeStore.slots c.take_pair-pair.new.store) c.take_pair-pair.ensures.takes c.get_leaf.result.now c.get_leaf.ensures c.if-can_spare.ensures.1 (g.S.NodeStore.slots c.rebalance_leaf.new.store) c.in-Ok.top (c.in-Ok.ensures.trims (out.short_leaf g.met.S.K.Ord.total g.S.Argument.Argument.is_summary (g.S.NodeStore.slots c.args.store.now) c.pop.new.self c.in-Some.id c.in-Some.index c.in-Some.field-0-2 c.args.leaf c.args.slot k c.args.path.now c.in-Some.ensures.some there c.take_pair-pair.result c.take_pair-pair.ensures.pair (g.S.NodeStore.slots c.take_pair-pair.new.store) c.take_pair-pair.ensures.takes c.get_leaf.result.now c.get_leaf.ensures c.if-can_spare.ensures.1, had))

pub returns-in_default-clause-leaves : goal.returns-in_default-clause-leaves
returns-in_default-clause-leaves g c k there had =
    c.take_in_place-in_default.ensures.leaves k (out.there_by c.pop.new.self (sym c.in_default.ensures.none) there) had

pub take_in_place-requires-in_default-clause-there : goal.take_in_place-requires-in_default-clause-there
take_in_place-requires-in_default-clause-there g c = (c.requires.0, out.there_by c.pop.new.self (sym c.in_default.ensures.none) c.requires.1, c.requires.2)
