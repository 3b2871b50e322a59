use Rattle.std.proofs.Common.{arith}
use Rattle.std.specs.Map.{keys_of}
use Rattle.std.proofs.lemmas.Map.Entries.{length-keys_of}
use Rattle.bptree_contract_tests.proofs.PartLemmas.{part_count}
use Rattle.bptree_contract_tests.proofs.callers.ranges.counts_the_pairs_of_a_part.Goals as goal

pub returns : goal.returns
returns g c = omega (arith, c.count.ensures, part_count (keys_of c.args.tree.now.contents) c.args.from c.args.to _ c.in_ok-part_argument.ensures, length-keys_of c.args.tree.now.contents)
