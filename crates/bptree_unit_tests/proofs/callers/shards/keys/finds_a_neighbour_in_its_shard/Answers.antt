use Rattle.std.proofs.Common.{◌≡◌, ◌+◌, ◌∷◌, length, subst, ◌∙◌, arith}
use Rattle.bptree_keys.specs.Contents.{pairs_below}
use Rattle.bptree_keys.specs.Pieces.{flatten, piece_at, start_of}
use Rattle.bptree_unit_tests.proofs.callers.shards.keys.finds_a_neighbour_in_its_shard.Goals as goal

pub returns-clause-rank : goal.returns-clause-rank
returns-clause-rank g c = λ shard bounds shards k are at.
    let cmp = g.K.Ord.cmp in
    let here = subst (λ n. length (pairs_below cmp (flatten (shard ∷ shards)) k) ≡ start_of (shard ∷ shards) n + length (pairs_below cmp (piece_at (shard ∷ shards) n) k)) at (c.laws_of_neighbours.ensures.rank bounds (shard ∷ shards) k are) in
    let own : 0 + length (pairs_below cmp shard k) ≡ length (pairs_below cmp shard k) = omega arith in
    here ∙ own
