use Rattle.bptree_nodes.proofs.Separators.{child_for_counted}
use Rattle.bptree_nodes.proofs.inner_node.InnerNode.locate_child_counted.Goals as goal

pub returns-clause-leads : goal.returns-clause-leads
returns-clause-leads g c = λ s.
    let here = rw (← c.self.view_is) at s in
    let index = rw c.deref.ensures.value at (c.count_upto_counted-index.ensures.ascending (rw c.deref.ensures.value here)) in
    rw (← c.self.view_is) (child_for_counted g.K.Ord.cmp g.met.K.Ord.total c.args.key.now _ _ here index)
