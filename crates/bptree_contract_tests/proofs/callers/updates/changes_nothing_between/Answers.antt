use Rattle.std.proofs.Common.{◌∙◌, ◌++◌, List, ap, sym}
use Rattle.bptree_contract_tests.proofs.callers.updates.changes_nothing_between.Goals as goal

pub returns : goal.returns
returns g c = λ none.
    let reported = c.update_range.ensures in
    let whole = λ (l : List _). reported.before ++ (l ++ reported.behind) in
    reported.is ∙ (ap whole (rw none at reported.changes).1 ∙ (sym (ap whole none) ∙ sym reported.was))
