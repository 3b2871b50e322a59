use Rattle.std.proofs.Common.{refl, sym, ◌∙◌, arith}
use Rattle.bptree_ranges.proofs.Ranged.{next_of, last_of, size_of}
use Rattle.bptree_invariant.proofs.Whole.{right}
use Rattle.bptree_ranges.proofs.ranges.settled.Goals as goal

pub returns-then-at-len : goal.returns-then-at-len
returns-then-at-len g c =
    let size = size_of g.S.Argument.Argument.is_summary (g.S.NodeStore.slots c.args.tree.now.store) c.args.tree.now.height c.args.tree.now.root (right g.S.NodeStore.slots c.tree.view_is c.tree.invariant.0) c.args.at.leaf c.get_leaf-leaf.result.now (rw (← c.tree.view_is) c.get_leaf-leaf.ensures) in
    record { on = c.requires; same = refl; pair = λ _. omega (arith, size, c.len.ensures.value, c.if-at-len.true) }

pub returns-in-Some : goal.returns-in-Some
returns-in-Some g c =
    let next = next_of g.S.Argument.Argument.is_summary (g.S.NodeStore.slots c.args.tree.now.store) c.args.tree.now.height c.args.tree.now.root (right g.S.NodeStore.slots c.tree.view_is c.tree.invariant.0) c.args.at.leaf c.in-Some.next c.get_leaf-leaf.result.now c.requires.stored (rw (← c.tree.view_is) c.get_leaf-leaf.ensures) (sym c.next.ensures ∙ c.in-Some.is) in
    let size = size_of g.S.Argument.Argument.is_summary (g.S.NodeStore.slots c.args.tree.now.store) c.args.tree.now.height c.args.tree.now.root (right g.S.NodeStore.slots c.tree.view_is c.tree.invariant.0) c.args.at.leaf c.get_leaf-leaf.result.now (rw (← c.tree.view_is) c.get_leaf-leaf.ensures) in
    record {
      on = record { stored = next.stands'; within = omega arith };
      same = omega (arith, next.from, size, c.len.ensures.value, c.if-at-len.false, c.requires.within);
      pair = λ _. next.full;
    }

pub returns-in-None : goal.returns-in-None
returns-in-None g c =
    let all = last_of g.S.Argument.Argument.is_summary (g.S.NodeStore.slots c.args.tree.now.store) c.args.tree.now.height c.args.tree.now.root (right g.S.NodeStore.slots c.tree.view_is c.tree.invariant.0) c.args.at.leaf c.get_leaf-leaf.result.now c.requires.stored (rw (← c.tree.view_is) c.get_leaf-leaf.ensures) (sym c.next.ensures ∙ c.in-None.is) in
    let size = size_of g.S.Argument.Argument.is_summary (g.S.NodeStore.slots c.args.tree.now.store) c.args.tree.now.height c.args.tree.now.root (right g.S.NodeStore.slots c.tree.view_is c.tree.invariant.0) c.args.at.leaf c.get_leaf-leaf.result.now (rw (← c.tree.view_is) c.get_leaf-leaf.ensures) in
    record { on = c.requires; same = refl; pair = λ short. absurd (omega (arith, short, all, size, c.len.ensures.value, c.if-at-len.false)) }
