use Rattle.bptree_contract_tests.proofs.ReplacedLemmas.{never_absent}
use Rattle.bptree_contract_tests.proofs.callers.replacing.replaces_no_key.Goals as goal

pub unreachable-requires : goal.unreachable-requires
unreachable-requires g c = never_absent g.S.K.Ord.cmp c.args.k c.in-Ok.field-0 c.args.tree.now.contents c.replace_key.new.self.contents c.in-Ok.ensures.ok c.requires
