use Rattle.std.proofs.Common.{ap, ◌∙◌}
use Rattle.bptree_keys.specs.Contents.{gather}
use Rattle.bptree_map.proofs.map.BPlusTreeMap.from_iter.Goals as goal

-- the pairs that were collected are those that the iterator yielded up to its end
pub returns-clause-given : goal.returns-clause-given
returns-clause-given g c =
    let ran = c.in_ok-given.ensures.ran in
    let ends = ran.1.2 tt in
    (c.into_iter.result, ran.0, c.into_iter.ensures.into_iter_gives, (ends.0, (ran.1.0, ran.1.1, ends.1)), c.in_ok-gather_tree.ensures ∙ ap (gather g.K.Ord.cmp) ran.2.0)

pub returns-clause-runs : goal.returns-clause-runs
returns-clause-runs g c =
    let run = c.in_ok-given.ensures.runs tt in
    (c.into_iter.result, c.into_iter.ensures.into_iter_gives, (run.0, run.1, run.2, c.in_ok-gather_tree.ensures ∙ ap (gather g.K.Ord.cmp) run.3.0))
