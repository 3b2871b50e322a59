use Rattle.std.proofs.Common.{None, Some}
use Rattle.bptree_tree.proofs.UpdateLemmas.{updated_keys}
use Rattle.bptree_contract_tests.proofs.callers.updates.keeps_all_keys_from.Goals as goal

pub returns : goal.returns
returns g c = updated_keys g.F.FnMut c.args.f g.S.K.Ord.cmp (Some c.args.lo.now) None c.args.tree.now.contents c.update_range.new.self.contents c.update_range.ensures
