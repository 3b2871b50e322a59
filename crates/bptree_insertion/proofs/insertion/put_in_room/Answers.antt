use Rattle.bptree_insertion.proofs.Placed.{slot_at, climbs_added, placed_added, present_added, slot_added, when_added}
use Rattle.bptree_insertion.proofs.insertion.put_in_room.Goals as goal

pub add_at-requires-clause-slot : goal.add_at-requires-clause-slot
add_at-requires-clause-slot g c = slot_at g.met.S.K.Ord.total g.S.Argument.Argument.is_summary (g.S.NodeStore.slots c.args.store.now) c.args.path.now c.args.id c.args.slot c.args.key c.requires.due c.args.value

pub ascend-requires : goal.ascend-requires
ascend-requires g c = record { climbs = climbs_added g.met.S.K.Ord.total g.S.Argument.Argument.is_summary (g.S.NodeStore.slots c.args.store.now) c.args.path.now c.args.id c.args.slot c.args.key c.requires.due c.args.value (g.S.NodeStore.slots c.add_at.new.store) c.in_ok-summary.ensures.adds c.requires.room c.in_ok-summary.summary c.in_ok-summary.ensures.sums; had = c.requires.reported c.requires.due }

pub returns-in-Ok-clause-placed : goal.returns-in-Ok-clause-placed
returns-in-Ok-clause-placed g c given =
    placed_added g.met.S.K.Ord.total g.S.Argument.Argument.is_summary (g.S.NodeStore.slots c.args.store.now) c.args.path.now c.args.id c.args.slot c.args.key given c.args.value (g.S.NodeStore.slots c.add_at.new.store) c.in_ok-summary.ensures.adds c.requires.room
    (g.S.NodeStore.slots c.ascend.new.store) c.in-Ok.top
    (c.in-Ok.ensures.rises
    (record {
      climbs = climbs_added g.met.S.K.Ord.total g.S.Argument.Argument.is_summary (g.S.NodeStore.slots c.args.store.now) c.args.path.now c.args.id c.args.slot c.args.key given c.args.value (g.S.NodeStore.slots c.add_at.new.store) c.in_ok-summary.ensures.adds c.requires.room c.in_ok-summary.summary c.in_ok-summary.ensures.sums;
      had = c.requires.reported given;
    }))

pub take_back-requires-clause-present : goal.take_back-requires-clause-present
take_back-requires-clause-present g c = rw c.in-Err.ensures.unchanged (present_added g.met.S.K.Ord.total g.S.Argument.Argument.is_summary (g.S.NodeStore.slots c.args.store.now) c.args.path.now c.args.id c.args.slot c.args.key c.requires.due c.args.value (g.S.NodeStore.slots c.add_at.new.store) c.in_ok-summary.ensures.adds c.requires.room)

pub take_back-requires-clause-slot : goal.take_back-requires-clause-slot
take_back-requires-clause-slot g c = rw c.in-Err.ensures.unchanged (slot_added g.met.S.K.Ord.total g.S.Argument.Argument.is_summary (g.S.NodeStore.slots c.args.store.now) c.args.path.now c.args.id c.args.slot c.args.key c.requires.due c.args.value (g.S.NodeStore.slots c.add_at.new.store) c.in_ok-summary.ensures.adds c.requires.room)

pub returns-in-Err-clause-unchanged : goal.returns-in-Err-clause-unchanged
returns-in-Err-clause-unchanged g c = (when_added g.met.S.K.Ord.total g.S.Argument.Argument.is_summary (g.S.NodeStore.slots c.args.store.now) c.args.path.now c.args.id c.args.slot c.args.key c.requires.due c.args.value (g.S.NodeStore.slots c.add_at.new.store) c.in_ok-summary.ensures.adds c.requires.room
    (λ was here within adds. c.take_back.ensures.undoes (g.S.NodeStore.slots c.args.store.now) was (c.args.key, c.args.value) here within (rw c.in-Err.ensures.unchanged adds))).0

pub returns-in-Err-clause-returned : goal.returns-in-Err-clause-returned
returns-in-Err-clause-returned g c = (when_added g.met.S.K.Ord.total g.S.Argument.Argument.is_summary (g.S.NodeStore.slots c.args.store.now) c.args.path.now c.args.id c.args.slot c.args.key c.requires.due c.args.value (g.S.NodeStore.slots c.add_at.new.store) c.in_ok-summary.ensures.adds c.requires.room
    (λ was here within adds. c.take_back.ensures.undoes (g.S.NodeStore.slots c.args.store.now) was (c.args.key, c.args.value) here within (rw c.in-Err.ensures.unchanged adds))).1
