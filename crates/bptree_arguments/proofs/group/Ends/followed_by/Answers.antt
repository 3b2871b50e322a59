use Rattle.std.proofs.Common.{sym, ◌∙◌}
use Rattle.bptree_arguments.proofs.GroupEndsLemmas.{joined_shared, joined_apart}
use Rattle.bptree_arguments.proofs.GroupSumLemmas.{unequal}
use Rattle.bptree_arguments.proofs.group.Ends.followed_by.Goals as goal

pub returns-in-Equal-clause-ends : goal.returns-in-Equal-clause-ends
returns-in-Equal-clause-ends g c = λ xs ys a b h fits.
    rw (c.saturating_sub.ensures, c.saturating_add-total.ensures)
    (joined_shared g.met.G.Ord.total xs ys (c.args.self.least.now, c.args.self.least_size) (c.args.self.greatest.now, c.args.self.greatest_size) (c.args.next.least.now, c.args.next.least_size) (c.args.next.greatest.now, c.args.next.greatest_size) c.args.self.group_count c.args.next.group_count a b h fits c.with_share.result c.with_share-in-Equal.result (sym c.cmp.ensures ∙ c.in-Equal.is) c.with_share.ensures.only c.with_share.ensures.of_several c.with_share-in-Equal.ensures.only c.with_share-in-Equal.ensures.of_several)

pub returns-in_default-clause-ends : goal.returns-in_default-clause-ends
returns-in_default-clause-ends g c = λ xs ys a b h fits.
    rw c.saturating_add-total.ensures
    (joined_apart g.met.G.Ord.total xs ys (c.args.self.least.now, c.args.self.least_size) (c.args.self.greatest.now, c.args.self.greatest_size) (c.args.next.least.now, c.args.next.least_size) (c.args.next.greatest.now, c.args.next.greatest_size) c.args.self.group_count c.args.next.group_count a b h fits (λ q. c.in_default.not-Equal (c.cmp.ensures ∙ q)))

pub returns-in-Equal-clause-reported : goal.returns-in-Equal-clause-reported
returns-in-Equal-clause-reported g c =
    rw (c.saturating_sub.ensures, c.saturating_add-total.ensures, c.with_share.ensures.exact, c.with_share-in-Equal.ensures.exact, sym c.cmp.ensures ∙ c.in-Equal.is)

pub returns-in_default-clause-reported : goal.returns-in_default-clause-reported
returns-in_default-clause-reported g c =
    rw (c.saturating_add-total.ensures, unequal (g.G.Ord.cmp c.args.self.greatest.now c.args.next.least.now) (λ e. c.in_default.not-Equal (c.cmp.ensures ∙ e)))
