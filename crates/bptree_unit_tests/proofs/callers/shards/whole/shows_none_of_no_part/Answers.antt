use Rattle.std.proofs.Common.{[]}
use Rattle.bptree_unit_tests.proofs.callers.shards.whole.shows_none_of_no_part.Goals as goal

pub returns : goal.returns
returns g c = λ shards index n are. c.laws_of_parts.ensures.all shards index n [] are
