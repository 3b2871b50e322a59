use Rattle.bptree_contract_tests.proofs.Shown.{shows_the_same}
use Rattle.bptree_contract_tests.proofs.callers.nodes.shows_the_same_unless_put.Goals as goal

pub returns : goal.returns
returns g c = λ failed. shows_the_same g.S.NodeStore.slots c.args.leaf.0 c.args.tree.now c.is_put-done.new.tree _ _ c.shows-before.ensures c.shows.ensures (c.is_put-done.ensures failed)
