use Rattle.std.proofs.Common.{[], ◌∷◌, ◌++◌, map, arith}
use Rattle.std.specs.Map.{keys_of}
use Rattle.bptree_unit_tests.proofs.Groups.{inner_reported, child_there, always_returns}
use Rattle.bptree_unit_tests.proofs.callers.groups.counts_a_group_above_two_leaves.Goals as goal

pub returns-in-Complete : goal.returns-in-Complete
returns-in-Complete g c = λ left right are summaries.
    inner_reported g.K.Ord.cmp g.G.Ord.cmp g.G.FromRef.group_of g.met.G.Ord.total c.new-visitor.result c.args.group c.new-visitor.ensures.group c.new-visitor.ensures.counted left right c.in-Complete.size are.fits (rw c.in-Complete.is at (c.in_ok-step.ensures.step (left ∷ right ∷ []) are summaries (omega (arith, c.requires))))

pub returns-in-GoDown : goal.returns-in-GoDown
returns-in-GoDown g c = λ left right are summaries.
    child_there g.G.Ord.cmp c.new-visitor.result (map g.G.FromRef.group_of (keys_of (left ++ (right ++ [])))) c.in-GoDown.child (rw c.in-GoDown.is at (c.in_ok-step.ensures.step (left ∷ right ∷ []) are summaries (omega (arith, c.requires)))).1

pub returns : goal.returns
returns g c = λ left right are summaries.
    absurd (always_returns g.G.Ord.cmp c.new-visitor.result (map g.G.FromRef.group_of (keys_of (left ++ (right ++ [])))) (rw c.in-Cancel.is at (c.in_ok-step.ensures.step (left ∷ right ∷ []) are summaries (omega (arith, c.requires)))))
