use Rattle.std.proofs.Common.{ap, ◌∙◌}
use Rattle.bptree_rebalancing.proofs.Triples.{leaves_rotated, pairs_back, slots_same}
use Rattle.bptree_rebalancing.proofs.siblings.rotate_leaves_at.Goals as goal

pub returns-in-Ok-clause-rotates : goal.returns-in-Ok-clause-rotates
returns-in-Ok-clause-rotates g c = leaves_rotated c.args.id c.args.left c.args.right c.requires.apart c.move_pairs_at.ensures c.in-Ok.ensures.resummarizes

pub returns-in-Err-clause-unchanged : goal.returns-in-Err-clause-unchanged
returns-in-Err-clause-unchanged g c =
    let there = c.move_pairs_at.ensures in
    let same = c.in-Err.ensures.unchanged in
    let back = rw c.other.ensures at c.move_pairs_at-in-Err.ensures in
    slots_same (g.S.NodeStore.slots c.move_pairs_at-in-Err.new.store) (g.S.NodeStore.slots c.args.store.now) (λ n. ap (λ f. f n) (back.inner ∙ (ap (λ s. s.inner) same ∙ there.inner)))
    (λ n. ap (λ f. f n) (pairs_back c.args.left c.args.right there (g.S.NodeStore.slots c.resummarize_leaves_at.new.store) (ap (λ s. s.leaf) same) back))
