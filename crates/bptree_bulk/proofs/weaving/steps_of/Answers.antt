use Rattle.std.proofs.Common.{◌≡◌, ◌∷◌, [], Some, ap, arith, length, subst, sym}
use Rattle.bptree_bulk.proofs.Weaves.{goes_joined, step_shrinks}
use Rattle.bptree_bulk.specs.Weave.{next_source, Goes}
use Rattle.bptree_bulk.proofs.weaving.steps_of.Goals as goal

pub leaves-preserved : goal.leaves-preserved
leaves-preserved g c =
    let cmp = g.S.K.Ord.cmp in
    let a = c.args.first.now.contents in
    let b = c.args.second.now.contents in
    let added = c.take_steps.ensures.added in
    let items = c.leaves.steps.items in
    record {
      goes = subst (λ l. Goes cmp l a b c.take_steps.new.first c.take_steps.new.second) (sym added.added) (goes_joined cmp items added.more a b c.leaves.ones c.leaves.others c.take_steps.new.first c.take_steps.new.second c.leaves.invariant.goes added.goes);
      room = c.take_steps.ensures.room;
    }

pub steps-preserved : goal.steps-preserved
steps-preserved g c =
    let cmp = g.S.K.Ord.cmp in
    let source = c.in-Some.source in
    let first = c.args.first.now in
    let second = c.args.second.now in
    let a = c.steps.ones in
    let b = c.steps.others in
    let a' = c.step_over.new.first in
    let b' = c.step_over.new.second in
    let next : next_source cmp a b ≡ Some source = sym c.in-Some.ensures in
    let step = c.step_over.ensures in
    let items = c.steps.steps.items in
    record {
      goes = subst (λ l. Goes cmp l first.contents second.contents a' b') (sym c.push_reserved.ensures.items) (goes_joined cmp items (source ∷ []) first.contents second.contents a b a' b' c.steps.invariant.goes (next, (sym step.first, sym step.second)));
      room = omega (arith, c.steps.invariant.room, c.push_reserved.ensures.len, c.push_reserved.ensures.capacity, step_shrinks cmp source a b next, ap length step.first, ap length step.second);
    }
