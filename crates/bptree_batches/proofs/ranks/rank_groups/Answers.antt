use Rattle.std.proofs.Common.{◌≡◌, ◌+◌, ◌-◌, ◌≤◌, length, arith}
use Rattle.std.specs.Map.{keys_of}
use Rattle.bptree_arguments.specs.CountLaws.{count_below}
use Rattle.bptree_invariant.specs.Shape.{pairs_at}
use Rattle.bptree_batches.proofs.EachLemmas.{mapped_group_more, all_returned}
use Rattle.bptree_batches.proofs.ranks.rank_groups.Goals as goal

pub groups-preserved : goal.groups-preserved
groups-preserved g c =
    let cmp = g.S.K.Ord.cmp in
    let pairs = pairs_at (g.S.NodeStore.slots c.args.store.now) c.args.height c.args.root in
    let n = c.groups.at in
    let end = n + c.min.result in
    let keys = c.args.keys.now in
    let within : end ≤ length keys = omega arith in
    let ends : n + (end - n) ≡ end = omega arith in
    let long : length c.groups.ranks ≡ length keys = omega arith in
    record {
      within = within;
      ranks =
          mapped_group_more (λ k. count_below cmp k (keys_of pairs)) keys c.args.ranks.now c.groups.ranks c.rank_group.new.ranks n (end - n) end c.groups.invariant.ranks ends within c.requires.ranks long c.rank_group.ensures;
    }

pub returns : goal.returns
returns g c =
    let cmp = g.S.K.Ord.cmp in
    let pairs = pairs_at (g.S.NodeStore.slots c.args.store.now) c.args.height c.args.root in
    all_returned (λ k. count_below cmp k (keys_of pairs)) c.args.keys.now c.args.ranks.now c.groups.ranks c.groups.at c.groups.invariant.ranks (omega arith) c.requires.ranks
