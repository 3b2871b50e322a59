use Rattle.bptree_arguments.proofs.group.GroupCount.max_group.Goals as goal

pub returns-in-One-clause-greatest : goal.returns-in-One-clause-greatest
returns-in-One-clause-greatest g c = λ groups summary.
    let only = rw c.in-One.is at summary in
    (only.greatest_bound, only.greatest_size, only.greatest_there)

pub returns-in-Multiple-clause-greatest : goal.returns-in-Multiple-clause-greatest
returns-in-Multiple-clause-greatest g c = λ groups summary.
    let several = rw c.in-Multiple.is at summary in
    (several.0.greatest_bound, several.0.greatest_size, several.0.greatest_there)
