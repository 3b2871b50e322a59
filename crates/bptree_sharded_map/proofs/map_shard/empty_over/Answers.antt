use Rattle.std.proofs.Common.{◌≡◌, ◌+◌, [], ◌∷◌, length, map, ap, ◌∙◌, arith, length-append}
use Rattle.std.proofs.lemmas.List.{length-map}
use Rattle.bptree_keys.specs.Pieces.{flatten}
use Rattle.bptree_sharded_map.proofs.EmptyMaps.{empty_more}
use Rattle.bptree_sharded_map.proofs.map_shard.empty_over.Goals as goal

pub loop-preserved : goal.loop-preserved
loop-preserved g c =
    let before = c.loop.maps.items in
    let more = c.in_ok-push-2.ensures.items in
    record {
      count = omega (arith, ap length more, length-append before (c.in_ok-new-2.field-0 ∷ []), c.loop.invariant.count);
      empty = ap (λ items. flatten (map (λ shard. shard) items)) more ∙ empty_more before c.in_ok-new-2.field-0 c.loop.invariant.empty c.in_ok-new-2.ensures;
    }

pub new-requires-2-clause-are : goal.new-requires-2-clause-are
new-requires-2-clause-are g c =
    let shards = map (λ shard. shard) c.loop.maps.items in
    let count : length shards ≡ length c.args.bounds.items + 1 = omega (arith, length-map c.loop.maps.items (λ shard. shard), c.loop.invariant.count) in
    c.law_of_empty_shards.ensures c.args.bounds.items shards count c.loop.invariant.empty
