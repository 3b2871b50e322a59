use Rattle.bptree_arguments.proofs.GroupEndsLemmas.{one_kept, several_kept}
use Rattle.bptree_arguments.proofs.group.Ends.to_summary.Goals as goal

pub returns-then-self-eq1-clause-summary : goal.returns-then-self-eq1-clause-summary
returns-then-self-eq1-clause-summary g c = λ groups a.
    one_kept g.met.G.Ord.total groups (c.args.self.least.now, c.args.self.least_size) (c.args.self.greatest.now, c.args.self.greatest_size) c.args.self.group_count c.in_ok-least.least c.if-self-eq1.true (g.met.G.Key.clone_is_equal _ _ c.in_ok-least.ensures.cases) a

pub returns-in_ok-greatest-clause-summary : goal.returns-in_ok-greatest-clause-summary
returns-in_ok-greatest-clause-summary g c = λ groups a.
    several_kept g.met.G.Ord.total groups (c.args.self.least.now, c.args.self.least_size) (c.args.self.greatest.now, c.args.self.greatest_size) c.args.self.group_count c.in_ok-least.least c.in_ok-greatest.greatest c.if-self-eq1.false (g.met.G.Key.clone_is_equal _ _ c.in_ok-least.ensures.cases) (g.met.G.Key.clone_is_equal _ _ c.in_ok-greatest.ensures.cases) a
