use Rattle.std.proofs.Common.{◌≡◌, ◌++◌, ◌+◌, ◌-◌, take, min, length, map, sym, ap, ◌∙◌, arith}
use Rattle.std.specs.Map.Iter.{deref_pair}
use Rattle.std.specs.List.{sum}
use Rattle.std.proofs.lemmas.List.{length-map, length-take, map-append}
use Rattle.bptree_keys.specs.Pieces.{flatten}
use Rattle.bptree_keys.specs.Ranges.{part}
use Rattle.bptree_shard_routing.specs.Shards.{shard_of, back_from}
use Rattle.bptree_sharded_map.specs.Shown.{shown}
use Rattle.bptree_sharded_map.specs.Whole.{contents}
use Rattle.bptree_sharded_map.proofs.Asked.{routed_within}
use Rattle.bptree_sharded_map.proofs.Pages.{back_more, map-reverse}
use Rattle.bptree_sharded_map.proofs.whole.Shards.back.Goals as goal

pub overflow_sub-n : goal.overflow_sub-n
overflow_sub-n g c =
    let own = take c.args.n (back_from g.S.K.Ord.cmp (g.S.Shard.pairs c.index.result.now) c.args.k.now) in
    let found : shown c.back.new.found.items ≡ own = c.in_ok-back.ensures ∙ ap (λ l. shown l ++ own) c.new-found.ensures.items in
    omega (arith, c.len.ensures, length-map c.back.new.found.items deref_pair, ap length found, length-take c.args.n (back_from g.S.K.Ord.cmp (g.S.Shard.pairs c.index.result.now) c.args.k.now))

pub returns : goal.returns
returns g c =
    let it = c.self.inside in
    let is = c.route-at.ensures.shard ∙ ap (λ bounds. shard_of g.S.K.Ord.cmp bounds c.args.k.now) c.deref.ensures.value in
    let short = routed_within g.met.S.K.Ord.total g.S.Shard.pairs it.shards.items c.self.invariant c.args.k.now c.route-at.result c.route-at.ensures.shard c.deref.ensures.value in
    let own = take c.args.n (back_from g.S.K.Ord.cmp (g.S.Shard.pairs c.index.result.now) c.args.k.now) in
    let found = shown c.back.new.found.items in
    let found_is : found ≡ own = c.in_ok-back.ensures ∙ ap (λ l. shown l ++ own) c.new-found.ensures.items in
    let end = c.rank_of_whole-end.result in
    let end_is : end ≡ sum (take c.route-at.result it.lengths.items) + 0 = c.rank_of_whole-end.ensures ∙ ap (λ ls. sum (take c.route-at.result ls) + 0) c.deref-2.ensures.value in
    let count = c.min-count.result in
    let count_is : count ≡ min end (c.args.n - length found) = omega (arith, c.min-count.ensures, c.len.ensures, length-map c.back.new.found.items deref_pair) in
    let rest = shown c.in_ok-rest.rest.items in
    let rest_is : rest ≡ part (flatten (map g.S.Shard.pairs it.shards.items)) (end - count) count = c.in_ok-rest.ensures ∙ ap (λ l. part l (end - count) count) (sym (ap contents c.self.view_is)) in
    ap shown c.in_ok-append.ensures.items ∙ map-append deref_pair c.back.new.found.items c.reverse.new.self.items
    ∙ ap (λ l. found ++ shown l) c.reverse.ensures.items ∙ ap (λ l. found ++ l) (map-reverse deref_pair c.in_ok-rest.rest.items)
    ∙ back_more g.S.K.Ord.cmp g.S.Shard.pairs it.bounds.items it.shards.items it.lengths.items c.self.invariant g.met.S.K.Ord.total c.args.k.now c.route-at.result is c.index.result.now short c.index.ensures c.args.n
    found rest end count found_is end_is count_is rest_is
    ∙ ap (λ l. take c.args.n (back_from g.S.K.Ord.cmp l c.args.k.now)) (ap contents c.self.view_is)
