use Rattle.std.proofs.Common.{ap}
use Rattle.bptree_removal.proofs.Rekeyed.{key_of_pair, set_by_moves}
use Rattle.bptree_removal.proofs.replacement.set_in_leaf.Goals as goal

pub returns-clause-leaf : goal.returns-clause-leaf
returns-clause-leaf g c =
    rw (c.insert_at.ensures.after, c.delete_at-old.ensures.after) (ap (λ ps. record c.args.leaf.now { pairs = ps }) (set_by_moves c.args.leaf.now.pairs c.args.slot c.delete_at-old.result c.args.key c.delete_at-old.ensures.pair))

pub returns-clause-old : goal.returns-clause-old
returns-clause-old g c = key_of_pair c.args.leaf.now.pairs c.args.slot c.delete_at-old.result c.delete_at-old.ensures.pair
