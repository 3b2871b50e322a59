use Rattle.std.proofs.Common.{refl, rules}
use Rattle.bptree_insertion.proofs.SplitLeaf.{slot_in_halves, halves_most, long_there, full_taken, still_held, left_there, divides, split_undone}
use Rattle.bptree_insertion.proofs.insertion.split_at.Goals as goal

pub split_new_leaf-half-requires-clause-full : goal.split_new_leaf-half-requires-clause-full
split_new_leaf-half-requires-clause-full g c = long_there c.deref_mut.ensures.value (full_taken c.args.id c.in-Ok-reserve_leaf.fresh c.in-Ok-reserve_leaf.ensures.updates c.take_leaf-leaf.ensures.value c.requires.full)

pub assign_leaf-requires-in-Ok-divided : goal.assign_leaf-requires-in-Ok-divided
assign_leaf-requires-in-Ok-divided g c = still_held c.args.id c.in-Ok-reserve_leaf.fresh c.in-Ok-reserve_leaf.ensures.updates c.take_leaf-leaf.ensures.value c.take_leaf-leaf.ensures.updates c.assign_leaf.ensures

pub release_leaf-requires : goal.release_leaf-requires
release_leaf-requires g c = still_held c.args.id c.in-Ok-reserve_leaf.fresh c.in-Ok-reserve_leaf.ensures.updates c.take_leaf-leaf.ensures.value c.take_leaf-leaf.ensures.updates c.assign_leaf-in-Err.ensures

pub undo_split-pair-requires : goal.undo_split-pair-requires
undo_split-pair-requires g c = rw c.deref_mut-in-Err.ensures.value record {
  slot = slot_in_halves c.args.slot c.split_new_leaf-half.ensures.left_len c.split_new_leaf-half.ensures.right_len c.requires.slot;
  most = halves_most c.args.slot c.split_new_leaf-half.ensures.left_len c.split_new_leaf-half.ensures.right_len;
}

pub returns-in-Ok-divided : goal.returns-in-Ok-divided
returns-in-Ok-divided g c = record {
  divides = divides c.args.id c.in-Ok-reserve_leaf.fresh c.in-Ok-reserve_leaf.ensures.updates c.take_leaf-leaf.ensures.value c.take_leaf-leaf.ensures.updates c.assign_leaf.ensures c.assign_leaf-in-Ok-divided.ensures g.S.K.Ord.cmp c.args.slot (c.args.key, c.args.value) c.in-Ok-divided.division c.in-Ok-reserve_leaf.ensures.was_free
      c.deref_mut.ensures.value c.split_new_leaf-half.ensures.left c.split_new_leaf-half.ensures.right c.split_new_leaf-half.ensures.parts c.split_new_leaf-half.ensures.left_len c.split_new_leaf-half.ensures.right_len c.in-Ok-divided.ensures.node
      (rw c.in-Ok-divided.ensures.separator (c.in-Ok.ensures c.args.value));
  left = rw (left_there c.args.id c.in-Ok-reserve_leaf.fresh c.in-Ok-reserve_leaf.ensures.updates c.take_leaf-leaf.ensures.value c.take_leaf-leaf.ensures.updates c.assign_leaf.ensures c.assign_leaf-in-Ok-divided.ensures) (rw c.deref.ensures at c.in-Ok-divided.ensures.left);
  right = rw c.assign_leaf-in-Ok-divided.ensures.leaf.changed (rw c.deref-2.ensures at c.in-Ok-divided.ensures.right);
  unchanged = tt;
  returned = tt;
}

pub returns-in-Err : goal.returns-in-Err
returns-in-Err g c =
    let undone = split_undone c.args.id c.in-Ok-reserve_leaf.fresh c.in-Ok-reserve_leaf.ensures.was_free c.in-Ok-reserve_leaf.ensures.updates c.take_leaf-leaf.ensures.value c.take_leaf-leaf.ensures.updates c.assign_leaf-in-Err.ensures c.release_leaf.ensures c.args.slot (c.args.key, c.args.value) c.undo_split-pair.result c.split_new_leaf-half.new.self c.split_new_leaf-half.result.value c.requires.slot c.requires.full
    c.deref_mut.ensures.value c.deref_mut-in-Err.ensures.value c.split_new_leaf-half.ensures.left c.split_new_leaf-half.ensures.right c.split_new_leaf-half.ensures.parts c.undo_split-pair.ensures.undoes c.undo_split-pair.ensures.prev c.undo_split-pair.ensures.next in
    record { divides = λ _ _. tt; left = tt; right = tt; unchanged = undone.0; returned = undone.1 }

pub returns-in_default : goal.returns-in_default
returns-in_default g c = record { divides = λ _ _. tt; left = tt; right = tt; unchanged = refl; returned = refl }

pub returns-in_default-new : goal.returns-in_default-new
returns-in_default-new g c = record { divides = λ _ _. tt; left = tt; right = tt; unchanged = refl; returned = refl }

pub returns-in_default-reserve_leaf : goal.returns-in_default-reserve_leaf
returns-in_default-reserve_leaf g c = record { divides = λ _ _. tt; left = tt; right = tt; unchanged = search rules; returned = refl }
