use Rattle.std.proofs.Common.{arith}
use Rattle.bptree_tree.proofs.ChainLemmas.{end_present, end_out}
use Rattle.bptree_tree.proofs.chain.Chain.take_end.Goals as goal

pub take_out-leaf-requires : goal.take_out-leaf-requires
take_out-leaf-requires g c = let slots = g.S.NodeStore.slots c.self.inside.store in rw c.at-id.ensures (end_present slots slots c.self.inside.ends c.self.inside.len c.self.invariant (omega arith) c.args.end)

pub overflow_sub-self : goal.overflow_sub-self
overflow_sub-self g c = (end_out (g.S.NodeStore.slots c.self.inside.store) (g.S.NodeStore.slots c.take_out-leaf.new.store) c.self.inside.ends c.self.inside.len c.self.invariant (omega arith) c.take_out-leaf.result.value _ _ c.deref.ensures c.deref-2.ensures c.len.result c.len.ensures.value c.link_inward.result c.unwrap_or-next.result c.args.end c.link_inward.ensures (rw c.at-id.ensures at c.unwrap_or-next.ensures) (rw c.at-id.ensures at c.take_out-leaf.ensures.value) (rw c.at-id.ensures at c.take_out-leaf.ensures.others)).within

pub invariant_of-self : goal.invariant_of-self
invariant_of-self g c = rw c.with-self-inside.ensures ((end_out (g.S.NodeStore.slots c.self.inside.store) (g.S.NodeStore.slots c.take_out-leaf.new.store) c.self.inside.ends c.self.inside.len c.self.invariant (omega arith) c.take_out-leaf.result.value _ _ c.deref.ensures c.deref-2.ensures c.len.result c.len.ensures.value c.link_inward.result c.unwrap_or-next.result c.args.end c.link_inward.ensures (rw c.at-id.ensures at c.unwrap_or-next.ensures) (rw c.at-id.ensures at c.take_out-leaf.ensures.value) (rw c.at-id.ensures at c.take_out-leaf.ensures.others)).left')

pub returns : goal.returns
returns g c = rw (← c.self.view_is, c.with-self-inside.ensures) ((end_out (g.S.NodeStore.slots c.self.inside.store) (g.S.NodeStore.slots c.take_out-leaf.new.store) c.self.inside.ends c.self.inside.len c.self.invariant (omega arith) c.take_out-leaf.result.value _ _ c.deref.ensures c.deref-2.ensures c.len.result c.len.ensures.value c.link_inward.result c.unwrap_or-next.result c.args.end c.link_inward.ensures (rw c.at-id.ensures at c.unwrap_or-next.ensures) (rw c.at-id.ensures at c.take_out-leaf.ensures.value) (rw c.at-id.ensures at c.take_out-leaf.ensures.others)).leave)
