use Rattle.bptree_ranges.proofs.Sums.{both_summed, two_pushed}
use Rattle.bptree_ranges.proofs.summaries.sum_of_both.Goals as goal

pub returns-in_ok-from_inner-in-Some-Some : goal.returns-in_ok-from_inner-in-Some-Some
returns-in_ok-from_inner-in-Some-Some g c =
    both_summed g.A.Argument.is_summary c.in_ok-from_inner-in-Some-Some.field-0 c.args.first c.args.second c.in-Some-Some.one c.in-Some-Some.other c.in-Some-Some.is-0 c.in-Some-Some.is-1 c.deref.result.now
    (two_pushed _ _ _ c.deref.result.now c.in-Some-Some.one c.in-Some-Some.other c.in_ok-both-in-Some-Some.ensures.items c.in_ok-push-in-Some-Some.ensures.items c.in_ok-push-in-Some-Some-2.ensures.items c.deref.ensures.value)
    c.in_ok-from_inner-in-Some-Some.ensures.summary
