use Rattle.bptree_shard_routing.proofs.LengthLemmas.{total, start_is, member_located, first_from, last_whole}
use Rattle.bptree_shard_routing.proofs.whole.laws_of_indexes.Goals as goal

pub returns-clause-len : goal.returns-clause-len
returns-clause-len g c = λ shards. total shards

pub returns-clause-start : goal.returns-clause-start
returns-clause-start g c = λ shards i. start_is shards i

pub returns-clause-at : goal.returns-clause-at
returns-clause-at g c = λ shards index found is. member_located shards index found is

pub returns-clause-first : goal.returns-clause-first
returns-clause-first g c = λ shards found is. first_from shards 0 found is

pub returns-clause-last : goal.returns-clause-last
returns-clause-last g c = λ shards found is. last_whole shards found is
