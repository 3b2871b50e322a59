use Rattle.std.proofs.Common.{refl}
use Rattle.bptree_load_plan.specs.Dedup.{last_of_each_run}
use Rattle.bptree_load_plan.proofs.GivenLemmas.{all_given}
use Rattle.bptree_load_plan.proofs.dedup.DedupByExt.dedup_keep_last.Goals as goal

pub returns-clause-items : goal.returns-clause-items
returns-clause-items g c = λ test xs acts given. record { always = all_given g.Self.Iterator.next_gives g.F.FnMut test (last_of_each_run test xs) _ xs (record { source = given.always; calls = acts }) refl }
