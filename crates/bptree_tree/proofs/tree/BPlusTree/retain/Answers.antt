use Rattle.std.proofs.Common.{ap, arith, length}
use Rattle.bptree_tree.proofs.tree.BPlusTree.retain.Goals as goal

pub kept_leaves-kept-requires-clause-room : goal.kept_leaves-kept-requires-clause-room
kept_leaves-kept-requires-clause-room g c =
    omega (arith, c.in-Ok-new.ensures.room, c.len.ensures.value, ap (λ t. length t.contents) c.old.view_is, ap (λ t. length t.contents) c.replace-old.ensures.value)

pub plant_or_return-requires-clause-room : goal.plant_or_return-requires-clause-room
plant_or_return-requires-clause-room g c =
    omega (arith, c.in-Ok-new.ensures.spare, c.kept_leaves-kept.ensures.fewer, c.len.ensures.value, ap (λ t. length t.contents) c.old.view_is, ap (λ t. length t.contents) c.replace-old.ensures.value)
