use Rattle.bptree_unit_tests.proofs.GroupItems.{result_within, result_of_group, result_after, result_past, result_item}
use Rattle.bptree_unit_tests.proofs.callers.group_results.finds_a_key_of_the_group.Goals as goal

pub returns : goal.returns
returns g c = record {
  within = result_within g.G.Ord.cmp g.G.FromRef.group_of c.args.group c.args.index c.args.keys.now c.in_ok-found.found (c.in_ok-found.ensures.selected c.requires.ascending);
  of_group = result_of_group g.G.Ord.cmp g.G.FromRef.group_of c.args.group c.args.index c.args.keys.now c.in_ok-found.found (c.in_ok-found.ensures.selected c.requires.ascending);
  before = result_after g.G.Ord.cmp g.G.FromRef.group_of c.args.group c.args.index c.args.keys.now c.in_ok-found.found (c.in_ok-found.ensures.selected c.requires.ascending);
  past = result_past g.G.Ord.cmp g.G.FromRef.group_of c.args.group c.args.index c.args.keys.now c.in_ok-found.found (c.in_ok-found.ensures.selected c.requires.ascending);
  item = result_item g.G.Ord.cmp g.G.FromRef.group_of c.args.group c.args.index c.args.keys.now c.in_ok-found.found (c.in_ok-found.ensures.selected c.requires.ascending);
}
