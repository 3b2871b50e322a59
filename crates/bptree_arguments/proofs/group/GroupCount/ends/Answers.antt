use Rattle.bptree_arguments.proofs.group.GroupCount.ends.Goals as goal

pub returns-in-Zero-clause-ends : goal.returns-in-Zero-clause-ends
returns-in-Zero-clause-ends g c = λ groups summary. rw c.in-Zero.is at summary

pub returns-in-One-clause-ends : goal.returns-in-One-clause-ends
returns-in-One-clause-ends g c = λ groups summary. rw c.in-One.is at summary

pub returns-in-Multiple-clause-ends : goal.returns-in-Multiple-clause-ends
returns-in-Multiple-clause-ends g c = λ groups summary.
    let several = rw c.in-Multiple.is at summary in
    several.0
