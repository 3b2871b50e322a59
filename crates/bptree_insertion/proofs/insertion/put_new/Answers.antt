use Rattle.std.proofs.Common.{subst, arith}
use Rattle.bptree_insertion.specs.Puts.{IsPlacedUpTo}
use Rattle.bptree_insertion.proofs.Placed.{full_of, leaf_there, slot_within, climbs_divided, next_risen, placed_divided, halves_divided, when_divided}
use Rattle.bptree_insertion.proofs.insertion.put_new.Goals as goal

pub get_leaf-leaf-requires : goal.get_leaf-leaf-requires
get_leaf-leaf-requires g c = leaf_there g.met.S.K.Ord.total g.S.Argument.Argument.is_summary (g.S.NodeStore.slots c.args.store.now) c.args.path.now c.args.at.leaf c.args.at.slot c.args.pair.0 c.requires.due.0

pub split_at-requires : goal.split_at-requires
split_at-requires g c =
    let full = full_of _ _ _ c.get_leaf-leaf.ensures c.is_full.ensures.value c.if-not-is_full.false in
    record {
      present = leaf_there g.met.S.K.Ord.total g.S.Argument.Argument.is_summary (g.S.NodeStore.slots c.args.store.now) c.args.path.now c.args.at.leaf c.args.at.slot c.args.pair.0 c.requires.due.0;
      full = full;
      slot = omega (arith, full, slot_within g.met.S.K.Ord.total g.S.Argument.Argument.is_summary (g.S.NodeStore.slots c.args.store.now) c.args.path.now c.args.at.leaf c.args.at.slot c.args.pair.0 c.requires.due.0 c.args.pair.1);
    }

pub ascend_split-requires : goal.ascend_split-requires
ascend_split-requires g c = record { climbs = (climbs_divided g.met.S.K.Ord.total g.S.Argument.Argument.is_summary (g.S.NodeStore.slots c.args.store.now) c.args.path.now c.args.at.leaf c.args.at.slot c.args.pair.0 c.requires.due.0 c.args.pair.1 (g.S.NodeStore.slots c.split_at.new.store) c.in_ok-division.division c.in_ok-division.fresh c.in_ok-division.ensures.divides c.in_ok-division.ensures.left c.in_ok-division.ensures.right, c.requires.reported c.requires.due.0) }

pub relink_next-requires : goal.relink_next-requires
relink_next-requires g c = record {
  next = next_risen g.met.S.K.Ord.total g.S.Argument.Argument.is_summary (g.S.NodeStore.slots c.args.store.now) c.args.path.now c.args.at.leaf c.args.at.slot c.args.pair.0 c.requires.due.0 c.args.pair.1 (g.S.NodeStore.slots c.split_at.new.store) c.in_ok-division.division c.in_ok-division.fresh c.in_ok-division.ensures.divides c.in_ok-division.ensures.left c.in_ok-division.ensures.right
      (g.S.NodeStore.slots c.ascend_split.new.store) c.in-Ok.top.0 c.in-Ok.top.1 (c.in-Ok.ensures.rises (climbs_divided g.met.S.K.Ord.total g.S.Argument.Argument.is_summary (g.S.NodeStore.slots c.args.store.now) c.args.path.now c.args.at.leaf c.args.at.slot c.args.pair.0 c.requires.due.0 c.args.pair.1 (g.S.NodeStore.slots c.split_at.new.store) c.in_ok-division.division c.in_ok-division.fresh c.in_ok-division.ensures.divides c.in_ok-division.ensures.left c.in_ok-division.ensures.right, c.requires.reported c.requires.due.0) c.requires.due.1) c.next-next.result c.get_leaf-leaf.result.now c.get_leaf-leaf.ensures c.next-next.ensures;
}

pub returns-in-Ok : goal.returns-in-Ok
returns-in-Ok g c = record {
  placed = λ given same.
      subst (λ x. IsPlacedUpTo g.S.K.Ord.cmp g.S.Argument.Argument.is_summary (g.S.NodeStore.slots c.args.store.now) (g.S.NodeStore.slots c.relink_next.new.store) given.top x c.args.pair.0 c.args.pair.1 c.in-Ok.top.0 c.in-Ok.top.1) same
      (placed_divided g.met.S.K.Ord.total g.S.Argument.Argument.is_summary (g.S.NodeStore.slots c.args.store.now) c.args.path.now c.args.at.leaf c.args.at.slot c.args.pair.0 given c.args.pair.1 (g.S.NodeStore.slots c.split_at.new.store) c.in_ok-division.division c.in_ok-division.fresh c.in_ok-division.ensures.divides c.in_ok-division.ensures.left c.in_ok-division.ensures.right
      (g.S.NodeStore.slots c.ascend_split.new.store) c.in-Ok.top.0 c.in-Ok.top.1 (c.in-Ok.ensures.rises (climbs_divided g.met.S.K.Ord.total g.S.Argument.Argument.is_summary (g.S.NodeStore.slots c.args.store.now) c.args.path.now c.args.at.leaf c.args.at.slot c.args.pair.0 given c.args.pair.1 (g.S.NodeStore.slots c.split_at.new.store) c.in_ok-division.division c.in_ok-division.fresh c.in_ok-division.ensures.divides c.in_ok-division.ensures.left c.in_ok-division.ensures.right, c.requires.reported given) same) c.next-next.result c.get_leaf-leaf.result.now c.get_leaf-leaf.ensures c.next-next.ensures (g.S.NodeStore.slots c.relink_next.new.store) c.relink_next.ensures);
  unchanged = tt;
  returned = tt;
}

pub undo_split_at-requires : goal.undo_split_at-requires
undo_split_at-requires g c =
    let full = full_of _ _ _ c.get_leaf-leaf.ensures c.is_full.ensures.value c.if-not-is_full.false in
    let halves = halves_divided g.met.S.K.Ord.total g.S.Argument.Argument.is_summary (g.S.NodeStore.slots c.args.store.now) c.args.path.now c.args.at.leaf c.args.at.slot c.args.pair.0 c.requires.due.0 c.args.pair.1 (g.S.NodeStore.slots c.split_at.new.store) c.in_ok-division.division c.in_ok-division.fresh c.in_ok-division.ensures.divides full in
    record {
      halves = rw c.in-Err.ensures.unchanged halves.0;
      apart = halves.1;
      slot = omega (arith, full, slot_within g.met.S.K.Ord.total g.S.Argument.Argument.is_summary (g.S.NodeStore.slots c.args.store.now) c.args.path.now c.args.at.leaf c.args.at.slot c.args.pair.0 c.requires.due.0 c.args.pair.1);
    }

pub returns : goal.returns
returns g c =
    let undone = when_divided g.met.S.K.Ord.total g.S.Argument.Argument.is_summary (g.S.NodeStore.slots c.args.store.now) c.args.path.now c.args.at.leaf c.args.at.slot c.args.pair.0 c.requires.due.0 c.args.pair.1 (g.S.NodeStore.slots c.split_at.new.store) c.in_ok-division.division c.in_ok-division.fresh c.in_ok-division.ensures.divides
    (λ was here within divides. c.undo_split_at.ensures.undoes (g.S.NodeStore.slots c.args.store.now) was c.args.pair c.in_ok-division.division here within (rw c.in-Err.ensures.unchanged divides)) in
    record { placed = λ due same. tt; unchanged = undone.0; returned = undone.1 }
