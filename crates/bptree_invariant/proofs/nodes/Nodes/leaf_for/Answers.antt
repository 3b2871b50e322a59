use Rattle.bptree_invariant.proofs.Hinted.{hinted}
use Rattle.bptree_invariant.proofs.nodes.Nodes.leaf_for.Goals as goal

pub returns-in-Some-clause-leaf : goal.returns-in-Some-clause-leaf
returns-in-Some-clause-leaf g c =
    let tree = c.self.inside in
    rw (← c.self.view_is) (hinted g.met.S.K.Ord.total g.S.Argument.Argument.is_summary (g.S.NodeStore.slots tree.store) tree.height tree.root c.self.invariant.0 c.args.key.now c.in-Some.leaf c.in-Some.ensures.value)
