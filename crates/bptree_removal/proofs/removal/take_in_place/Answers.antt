use Rattle.bptree_removal.proofs.TakenOut as out
use Rattle.bptree_removal.proofs.removal.take_in_place.Goals as goal

pub sum_of-requires : goal.sum_of-requires
sum_of-requires g c =
    let slots = g.S.NodeStore.slots in
    let took = c.take_pair-pair.ensures in
    (out.room_taken g.met.S.K.Ord.total g.S.Argument.Argument.is_summary (slots c.args.store.now) c.args.path.now c.args.leaf c.args.slot c.requires.there.0 c.requires.there.1 c.take_pair-pair.result took.pair (slots c.take_pair-pair.new.store) took.takes).0

pub ascend-requires : goal.ascend-requires
ascend-requires g c =
    let slots = g.S.NodeStore.slots in
    let took = c.take_pair-pair.ensures in
    record { climbs = out.propagates_in_place g.met.S.K.Ord.total g.S.Argument.Argument.is_summary (slots c.args.store.now) c.args.path.now c.args.leaf c.args.slot c.requires.there.0 c.requires.there.1 c.take_pair-pair.result took.pair (slots c.take_pair-pair.new.store) took.takes c.requires.spare c.in-Ok.summary c.in-Ok.ensures.some c.in-Ok.ensures.none; had = c.requires.there.2 }

pub returns-in-Ok-ascend-clause-leaves : goal.returns-in-Ok-ascend-clause-leaves
returns-in-Ok-ascend-clause-leaves g c k there had =
    let slots = g.S.NodeStore.slots in
    let took = c.take_pair-pair.ensures in
    out.leaves_in_place g.met.S.K.Ord.total g.S.Argument.Argument.is_summary (slots c.args.store.now) c.args.path.now c.args.leaf c.args.slot k there c.take_pair-pair.result took.pair (slots c.take_pair-pair.new.store) took.takes c.requires.spare c.in-Ok.summary c.in-Ok.ensures.some c.in-Ok.ensures.none (slots c.ascend.new.store) c.in-Ok-ascend.top (c.in-Ok-ascend.ensures.rises (record { climbs = out.propagates_in_place g.met.S.K.Ord.total g.S.Argument.Argument.is_summary (slots c.args.store.now) c.args.path.now c.args.leaf c.args.slot k there c.take_pair-pair.result took.pair (slots c.take_pair-pair.new.store) took.takes c.requires.spare c.in-Ok.summary c.in-Ok.ensures.some c.in-Ok.ensures.none; had = had }))

pub put_pair-requires : goal.put_pair-requires
put_pair-requires g c =
    let room = out.room_taken g.met.S.K.Ord.total g.S.Argument.Argument.is_summary (g.S.NodeStore.slots c.args.store.now) c.args.path.now c.args.leaf c.args.slot c.requires.there.0 c.requires.there.1 c.take_pair-pair.result c.take_pair-pair.ensures.pair (g.S.NodeStore.slots c.take_pair-pair.new.store) c.take_pair-pair.ensures.takes in
    record { present = room.0; slot = room.1; room = room.2 }

pub put_pair-requires-in-Err : goal.put_pair-requires-in-Err
put_pair-requires-in-Err g c =
    rw c.in-Err.ensures.unchanged (
    let room = out.room_taken g.met.S.K.Ord.total g.S.Argument.Argument.is_summary (g.S.NodeStore.slots c.args.store.now) c.args.path.now c.args.leaf c.args.slot c.requires.there.0 c.requires.there.1 c.take_pair-pair.result c.take_pair-pair.ensures.pair (g.S.NodeStore.slots c.take_pair-pair.new.store) c.take_pair-pair.ensures.takes in
    record { present = room.0; slot = room.1; room = room.2 }
    )
