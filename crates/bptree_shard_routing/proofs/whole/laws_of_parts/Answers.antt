use Rattle.bptree_shard_routing.proofs.LengthLemmas.{rest_of, parts_all, parts_back}
use Rattle.bptree_shard_routing.proofs.whole.laws_of_parts.Goals as goal

pub returns-clause-first : goal.returns-clause-first
returns-clause-first g c = λ shards index n found is. rest_of shards index n found is

pub returns-clause-all : goal.returns-clause-all
returns-clause-all g c = λ shards index n found are. parts_all shards found index n are

pub returns-clause-back : goal.returns-clause-back
returns-clause-back g c = λ shards end n found short are. parts_back shards end n found short are
