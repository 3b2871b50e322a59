use Rattle.std.proofs.Common.{◌≡◌, ◌∙◌, ◌+◌, ◌-◌, ◌∷◌, ◌++◌, ◌≤◌, [], ap, arith, drop, length, length-append, subst, sym, take}
use Rattle.bptree_bulk_load.proofs.Standing.{drop_all}
use Rattle.bptree_bulk_load.specs.Plans.{PlansAll}
use Rattle.bptree_bulk.specs.Filling.{AreParts, IsSize}
use Rattle.bptree_bulk.specs.Weave.{woven}
use Rattle.bptree_bulk.proofs.Tails.{joined_parts, parts_several, parts_some, sized}
use Rattle.bptree_bulk.proofs.Weaves.{some_steps, steps_within, woven_ascends, woven_length}
use Rattle.bptree_bulk.proofs.Woven.{goes_on, own_ascends, own_leads, part_on, rest_on, IsUnderway}
use Rattle.bptree_keys.specs.Contents.{IsAscending}
use Rattle.bptree_bulk.proofs.weaving.plan_weave.Given.{Over}
use Rattle.bptree_bulk.proofs.weaving.plan_weave.Goals.{After-deref, After-parts}
use Rattle.bptree_bulk.proofs.weaving.plan_weave.Goals as goal

-- the number of steps so far
way : (g : Over) (c : After-deref g)
    → IsUnderway g.S.K.Ord.cmp c.in_ok-steps.steps.items c.args.first.now.contents c.args.second.now.contents c.parts.done c.parts.ones c.parts.others
way g c = record { goes = c.parts.invariant.goes; rest = c.parts.invariant.rest }

-- the number of steps of the next part
is_size : (g : Over) (c : After-deref g) → IsSize (length c.in_ok-steps.steps.items - c.parts.done) c.size_of-size.result
is_size g c = subst (λ k. IsSize k c.size_of-size.result) (omega (arith, c.len-in-parts.ensures)) c.size_of-size.ensures

fits : (g : Over) (c : After-deref g) → c.parts.done + c.size_of-size.result ≤ length c.in_ok-steps.steps.items
fits g c = omega (arith, (sized (length c.in_ok-steps.steps.items - c.parts.done) c.size_of-size.result (is_size g c)).within, c.parts-test.true, c.len.ensures)

-- the steps of the next part
own : (g : Over) (c : After-deref g) → take (c.parts.done + c.size_of-size.result - c.parts.done) (drop c.parts.done c.deref.result.now) ≡ take c.size_of-size.result (drop c.parts.done c.in_ok-steps.steps.items)
own g c =
    let n = c.parts.done in
    ap (λ l. take (n + c.size_of-size.result - n) (drop n l)) c.deref.ensures.value ∙ ap (λ k. take k (drop n c.in_ok-steps.steps.items)) (omega arith)

-- the steps go over all pairs, and each part of them has a leaf
all : (g : Over) (c : After-parts g) → AreParts (woven c.in_ok-steps.steps.items c.args.first.now.contents c.args.second.now.contents) c.parts.invariant.parts []
all g c =
    let steps = c.in_ok-steps.steps.items in
    let none = drop_all steps c.parts.done (omega (arith, c.parts-test.false, c.len.ensures)) in
    subst (AreParts (woven steps c.args.first.now.contents c.args.second.now.contents) c.parts.invariant.parts) (ap (λ l. woven l c.parts.ones c.parts.others) none) c.parts.invariant.are

ascends : (g : Over) (c : After-parts g) → IsAscending g.S.K.Ord.cmp (woven c.in_ok-steps.steps.items c.args.first.now.contents c.args.second.now.contents)
ascends g c = woven_ascends g.S.K.Ord.cmp g.met.S.K.Ord.total c.in_ok-steps.steps.items c.args.first.now.contents c.args.second.now.contents c.recall.ensures.ascending c.recall-2.ensures.ascending c.in_ok-steps.ensures

planned : (g : Over) (c : After-parts g) → PlansAll g.S.K.Ord.cmp g.S.Argument.Argument.is_summary g.S.NodeStore.slots c.parts.plan c.parts.invariant.parts
planned g c =
    let cmp = g.S.K.Ord.cmp in
    let steps = c.in_ok-steps.steps.items in
    let A = c.args.first.now.contents in
    let B = c.args.second.now.contents in
    let parts = c.parts.invariant.parts in
    let pairs = joined_parts (woven steps A B) parts (all g c) in
    let long = woven_length cmp steps A B [] [] c.in_ok-steps.ensures in
    record {
      planned = c.parts.invariant.planned;
      some = parts_some (woven steps A B) parts (all g c) (omega (arith, long, some_steps cmp steps A B c.in_ok-steps.ensures c.requires.some));
      many = parts_several (woven steps A B) parts (all g c);
      ascending = subst (IsAscending cmp) (sym pairs) (ascends g c);
      few = omega (arith, ap length pairs, long, steps_within cmp steps A B [] [] c.in_ok-steps.ensures, c.requires.few);
    }

pub plan_steps-requires-clause-lead : goal.plan_steps-requires-clause-lead
plan_steps-requires-clause-lead g c =
    let at = (goal.at.plan_steps-requires-clause-lead g c).After-deref in
    own_leads g.met.S.K.Ord.total (way g at) c.size_of-size.result (fits g at) (own g at)

pub plan_steps-requires-clause-ascending : goal.plan_steps-requires-clause-ascending
plan_steps-requires-clause-ascending g c =
    let at = (goal.at.plan_steps-requires-clause-ascending g c).After-deref in
    own_ascends g.met.S.K.Ord.total (way g at) c.size_of-size.result (fits g at) (own g at) c.recall.ensures.ascending c.recall-2.ensures.ascending

pub parts-preserved : goal.parts-preserved
parts-preserved g c =
    let at = (goal.at.parts-preserved g c).After-deref in
    let total = g.met.S.K.Ord.total in
    let n = c.parts.done in
    let size = c.size_of-size.result in
    let x = c.plan_steps.new.first in
    let y = c.plan_steps.new.second in
    let inv = c.parts.invariant in
    let leads = c.in_ok-plan_steps.ensures.leads in
    let these = woven (take (n + size - n) (drop n c.deref.result.now)) c.parts.ones c.parts.others in
    record {
      within = fits g at;
      goes = goes_on total (way g at) size (fits g at) (own g at) x y leads;
      rest = rest_on total (way g at) size (fits g at) (own g at) x y leads;
      parts = inv.parts ++ these ∷ [];
      are = part_on total (way g at) size (fits g at) (own g at) x y leads inv.parts (is_size g at) (omega (arith, c.parts-test.true, c.len.ensures)) inv.are;
      planned = c.in_ok-plan_steps.ensures.planned inv.parts inv.planned;
      as_many = omega (arith, inv.as_many, length-append inv.parts (these ∷ []));
      few = omega (arith, inv.few, (sized (length c.in_ok-steps.steps.items - n) size (is_size g at)).some (omega (arith, c.parts-test.true, c.len.ensures)));
      room = c.in_ok-plan_steps.ensures.room;
    }

pub frame-requires : goal.frame-requires
frame-requires g c =
    let at = (goal.at.frame-requires g c).After-parts in
    (c.parts.invariant.parts, planned g at)

pub returns : goal.returns
returns g c =
    let at = (goal.at.returns g c).After-parts in
    let inv = c.parts.invariant in
    record {
      weaves = c.in_ok-steps.ensures;
      parts = inv.parts;
      are = all g at;
      framed = c.in_ok-frame.ensures inv.parts (planned g at);
      ascending = ascends g at;
      leaves = (c.in_ok-leaves.ensures.items, c.in_ok-leaves.ensures.len, omega (arith, c.in_ok-leaves.ensures.exact, inv.as_many));
      rooms = c.in_ok-rooms.ensures;
    }
