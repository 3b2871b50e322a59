use Rattle.bptree_removal.proofs.ReplacedKey.{climbs, returned, is_rekeyed, present, set_again, still_present, still_within, within}
use Rattle.bptree_removal.proofs.replacement.replace_in_place.Goals as goal

pub set_key-old-requires-clause-present : goal.set_key-old-requires-clause-present
set_key-old-requires-clause-present g c = present g.met.S.K.Ord.total g.S.Argument.Argument.is_summary (g.S.NodeStore.slots c.args.store.now) c.args.path.now c.args.at c.args.key c.requires.0

pub set_key-old-requires-clause-slot : goal.set_key-old-requires-clause-slot
set_key-old-requires-clause-slot g c = within g.met.S.K.Ord.total g.S.Argument.Argument.is_summary (g.S.NodeStore.slots c.args.store.now) c.args.path.now c.args.at c.args.key c.requires.0

pub sum_of-requires : goal.sum_of-requires
sum_of-requires g c =
    let slots = g.S.NodeStore.slots in
    still_present (slots c.args.store.now) (slots c.set_key-old.new.store) c.args.at c.args.key c.set_key-old.ensures.sets (present g.met.S.K.Ord.total g.S.Argument.Argument.is_summary (slots c.args.store.now) c.args.path.now c.args.at c.args.key c.requires.0)

pub ascend-requires : goal.ascend-requires
ascend-requires g c =
    let slots = g.S.NodeStore.slots in
    record {
      climbs = climbs g.met.S.K.Ord.total g.S.Argument.Argument.is_summary (slots c.args.store.now) c.args.path.now c.args.at c.args.key c.requires.0 (slots c.set_key-old.new.store) c.set_key-old.ensures.sets c.in-Ok.summary c.in-Ok.ensures.some;
      had = c.requires.1;
    }

pub returns-in-Ok-ascend-clause-replaced : goal.returns-in-Ok-ascend-clause-replaced
returns-in-Ok-ascend-clause-replaced g c there had =
    let slots = g.S.NodeStore.slots in
    let total = g.met.S.K.Ord.total in
    let sum = g.S.Argument.Argument.is_summary in
    is_rekeyed total sum (slots c.args.store.now) c.args.path.now c.args.at c.args.key there (slots c.set_key-old.new.store) c.set_key-old.ensures.sets c.in-Ok.summary c.in-Ok.ensures.some c.set_key-old.result c.set_key-old.ensures.old (slots c.ascend.new.store) c.in-Ok-ascend.top
    (c.in-Ok-ascend.ensures.rises (record { climbs = climbs total sum (slots c.args.store.now) c.args.path.now c.args.at c.args.key there (slots c.set_key-old.new.store) c.set_key-old.ensures.sets c.in-Ok.summary c.in-Ok.ensures.some; had = had }))

pub set_key-requires-clause-present : goal.set_key-requires-clause-present
set_key-requires-clause-present g c =
    let slots = g.S.NodeStore.slots in
    still_present (slots c.args.store.now) (slots c.set_key-old.new.store) c.args.at c.args.key c.set_key-old.ensures.sets (present g.met.S.K.Ord.total g.S.Argument.Argument.is_summary (slots c.args.store.now) c.args.path.now c.args.at c.args.key c.requires.0)

pub set_key-requires-clause-slot : goal.set_key-requires-clause-slot
set_key-requires-clause-slot g c =
    let slots = g.S.NodeStore.slots in
    let total = g.met.S.K.Ord.total in
    let sum = g.S.Argument.Argument.is_summary in
    still_within (slots c.args.store.now) (slots c.set_key-old.new.store) c.args.at c.args.key c.set_key-old.ensures.sets (present total sum (slots c.args.store.now) c.args.path.now c.args.at c.args.key c.requires.0) (within total sum (slots c.args.store.now) c.args.path.now c.args.at c.args.key c.requires.0)

pub returns-in_default-clause-unchanged : goal.returns-in_default-clause-unchanged
returns-in_default-clause-unchanged g c =
    let slots = g.S.NodeStore.slots in
    set_again (slots c.args.store.now) (slots c.set_key-old.new.store) c.args.at c.args.key c.set_key-old.ensures.sets (present g.met.S.K.Ord.total g.S.Argument.Argument.is_summary (slots c.args.store.now) c.args.path.now c.args.at c.args.key c.requires.0) (slots c.set_key.new.store) c.set_key-old.result c.set_key-old.ensures.old c.set_key.ensures.sets

pub returns-in_default-clause-returned : goal.returns-in_default-clause-returned
returns-in_default-clause-returned g c =
    let slots = g.S.NodeStore.slots in
    let total = g.met.S.K.Ord.total in
    let sum = g.S.Argument.Argument.is_summary in
    returned (slots c.args.store.now) (slots c.set_key-old.new.store) c.args.at c.args.key c.set_key-old.ensures.sets (present total sum (slots c.args.store.now) c.args.path.now c.args.at c.args.key c.requires.0) (within total sum (slots c.args.store.now) c.args.path.now c.args.at c.args.key c.requires.0) c.set_key.result c.set_key.ensures.old

pub set_key-requires-in-Err-clause-present : goal.set_key-requires-in-Err-clause-present
set_key-requires-in-Err-clause-present g c =
    let slots = g.S.NodeStore.slots in
    rw c.in-Err.ensures.unchanged (still_present (slots c.args.store.now) (slots c.set_key-old.new.store) c.args.at c.args.key c.set_key-old.ensures.sets (present g.met.S.K.Ord.total g.S.Argument.Argument.is_summary (slots c.args.store.now) c.args.path.now c.args.at c.args.key c.requires.0))

pub set_key-requires-in-Err-clause-slot : goal.set_key-requires-in-Err-clause-slot
set_key-requires-in-Err-clause-slot g c =
    let slots = g.S.NodeStore.slots in
    let total = g.met.S.K.Ord.total in
    let sum = g.S.Argument.Argument.is_summary in
    rw c.in-Err.ensures.unchanged (still_within (slots c.args.store.now) (slots c.set_key-old.new.store) c.args.at c.args.key c.set_key-old.ensures.sets (present total sum (slots c.args.store.now) c.args.path.now c.args.at c.args.key c.requires.0) (within total sum (slots c.args.store.now) c.args.path.now c.args.at c.args.key c.requires.0))

pub returns-in-Err-clause-unchanged : goal.returns-in-Err-clause-unchanged
returns-in-Err-clause-unchanged g c =
    let slots = g.S.NodeStore.slots in
    set_again (slots c.args.store.now) (slots c.set_key-old.new.store) c.args.at c.args.key c.set_key-old.ensures.sets (present g.met.S.K.Ord.total g.S.Argument.Argument.is_summary (slots c.args.store.now) c.args.path.now c.args.at c.args.key c.requires.0) (slots c.set_key-in-Err.new.store) c.set_key-old.result c.set_key-old.ensures.old (rw c.in-Err.ensures.unchanged at c.set_key-in-Err.ensures.sets)

pub returns-in-Err-clause-returned : goal.returns-in-Err-clause-returned
returns-in-Err-clause-returned g c =
    let slots = g.S.NodeStore.slots in
    let total = g.met.S.K.Ord.total in
    let sum = g.S.Argument.Argument.is_summary in
    returned (slots c.args.store.now) (slots c.set_key-old.new.store) c.args.at c.args.key c.set_key-old.ensures.sets (present total sum (slots c.args.store.now) c.args.path.now c.args.at c.args.key c.requires.0) (within total sum (slots c.args.store.now) c.args.path.now c.args.at c.args.key c.requires.0) c.set_key-in-Err.result (rw c.in-Err.ensures.unchanged at c.set_key-in-Err.ensures.old)
