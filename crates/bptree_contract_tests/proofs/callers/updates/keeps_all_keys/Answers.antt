use Rattle.bptree_nodes.proofs.Updates.{changed_keys}
use Rattle.bptree_contract_tests.proofs.callers.updates.keeps_all_keys.Goals as goal

pub returns : goal.returns
returns g c = changed_keys g.F.FnMut c.args.f c.args.tree.now.contents c.update_each.ensures.0 c.update_each.new.self.contents c.update_each.ensures.1
