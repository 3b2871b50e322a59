use Rattle.std.proofs.Common.{◌++◌, ◌+◌, ◌-◌, ◌∷◌, [], take, ap, sym, ◌∙◌}
use Rattle.std.specs.Map.Iter.{deref_pair}
use Rattle.std.proofs.lemmas.List.{map-append}
use Rattle.bptree_keys.specs.Ends.{is_back}
use Rattle.bptree_sharded_map.specs.Shown.{shown, turned}
use Rattle.bptree_sharded_map.proofs.Taken.{one-taken, none-left, all-taken}
use Rattle.bptree_sharded_map.proofs.map_shard.put_from.Goals as goal

pub loop-preserved : goal.loop-preserved
loop-preserved g c =
    let found = c.loop.found.items in
    let left = turned (is_back c.args.end) c.take_pair.new.pairs in
    let rest = take (c.args.n - (c.loop.counter + 1)) left in
    ap (λ items. shown items ++ rest) c.in_ok-push-in-Some.ensures.items ∙ ap (λ m. m ++ rest) (map-append deref_pair found (c.in-Some.pair ∷ []))
    ∙ one-taken (shown found) (turned (is_back c.args.end) c.loop.pairs) c.args.n c.loop.counter (deref_pair c.in-Some.pair) left c.loop-test.true c.in-Some.ensures ∙ c.loop.invariant

pub returns-in-None : goal.returns-in-None
returns-in-None g c = sym (none-left (shown c.loop.found.items) (turned (is_back c.args.end) c.loop.pairs) c.args.n c.loop.counter c.in-None.ensures) ∙ c.loop.invariant

pub returns : goal.returns
returns g c = sym (all-taken (shown c.loop.found.items) (turned (is_back c.args.end) c.loop.pairs) c.args.n c.loop.counter c.loop-test.false) ∙ c.loop.invariant
