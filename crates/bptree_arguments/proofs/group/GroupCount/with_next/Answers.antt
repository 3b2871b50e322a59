use Rattle.std.proofs.Common.{sym, ◌∙◌}
use Rattle.bptree_arguments.proofs.GroupEndsLemmas.{next_same, next_second, next_greatest, next_above}
use Rattle.bptree_arguments.proofs.group.GroupCount.with_next.Goals as goal

pub returns-in-Equal : goal.returns-in-Equal
returns-in-Equal g c = λ groups x e summary h fits.
    rw c.saturating_add.ensures
    (next_same g.met.G.Ord.total groups x c.args.next e h fits c.in-One.group c.in-One.size (rw c.in-One.is at summary) (sym c.cmp.ensures ∙ c.in-Equal.is))

pub returns-in_default : goal.returns-in_default
returns-in_default g c = λ groups x e summary h fits.
    next_second g.met.G.Ord.total groups x c.args.next e h fits c.in-One.group c.in-One.size (rw c.in-One.is at summary) (λ q. c.in_default.not-Equal (c.cmp.ensures ∙ q))

pub returns-in-Equal-cmp : goal.returns-in-Equal-cmp
returns-in-Equal-cmp g c = λ groups x e summary h fits.
    rw c.saturating_add-in-Equal-cmp.ensures
    (next_greatest g.met.G.Ord.total groups x c.args.next e h fits c.in-Multiple.min_group c.in-Multiple.max_group c.in-Multiple.group_count (rw c.in-Multiple.is at summary) (sym c.cmp-in-Multiple.ensures ∙ c.in-Equal-cmp.is))

pub returns-in_default-cmp : goal.returns-in_default-cmp
returns-in_default-cmp g c = λ groups x e summary h fits.
    rw c.saturating_add-in_default-cmp.ensures
    (next_above g.met.G.Ord.total groups x c.args.next e h fits c.in-Multiple.min_group c.in-Multiple.max_group c.in-Multiple.group_count (rw c.in-Multiple.is at summary) (λ q. c.in_default-cmp.not-Equal (c.cmp-in-Multiple.ensures ∙ q)))
