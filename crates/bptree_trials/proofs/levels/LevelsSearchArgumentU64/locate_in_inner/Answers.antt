use Rattle.std.proofs.Common.{arith}
use Rattle.bptree_keys.proofs.PieceLemmas.{AllZip-length}
use Rattle.bptree_trials.proofs.levels.LevelsSearchArgumentU64.locate_in_inner.Goals as goal

-- There are as many pieces as summaries.
pub returns-clause-leads : goal.returns-clause-leads
returns-clause-leads c = λ pieces are zip. (omega (arith, AllZip-length _ c.args.arguments.now pieces zip, c.if-arguments-eq0.false), λ index within selected. tt)
