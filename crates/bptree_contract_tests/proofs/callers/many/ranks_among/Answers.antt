use Rattle.std.specs.Map.{keys_of}
use Rattle.std.proofs.lemmas.Option.{get_or_from_slice_get}
use Rattle.bptree_arguments.specs.CountLaws.{count_below}
use Rattle.bptree_contract_tests.proofs.ReturnsAt.{map_at}
use Rattle.bptree_contract_tests.proofs.callers.many.ranks_among.Goals as goal

pub returns : goal.returns
returns g c = λ k key.
    get_or_from_slice_get c.rank_many.new.ranks c.args.at (count_below g.K.Ord.cmp k (keys_of c.args.map.now)) 0
    (rw c.rank_many.ensures.ranks (map_at (λ k. count_below g.K.Ord.cmp k (keys_of c.args.map.now)) c.args.keys.now c.args.at k key))
