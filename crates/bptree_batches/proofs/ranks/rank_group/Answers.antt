use Rattle.std.proofs.Common.{◌≡◌, Ok, get_or, sym, ap, subst, ◌∙◌, arith}
use Rattle.std.specs.Map.{keys_of}
use Rattle.bptree_arguments.specs.CountLaws.{count_below}
use Rattle.bptree_keys.specs.declared.node_id.NodeId.TheVariants.{Inner}
use Rattle.bptree_invariant.specs.Shape.{pairs_at}
use Rattle.bptree_batches.specs.RankWays.{IsRankWay}
use Rattle.bptree_batches.specs.Slots.{AreLeavesThere}
use Rattle.bptree_batches.proofs.EachLemmas.{returned_more, all_returned}
use Rattle.bptree_batches.proofs.RankSlotLemmas.{slot_of_way, ways_end}
use Rattle.bptree_batches.proofs.RankWayLemmas.{rank_end}
use Rattle.bptree_batches.proofs.Split.{zip_at, zip_length}
use Rattle.bptree_batches.proofs.ranks.rank_group.Goals as goal

pub locate_group-requires-clause-there : goal.locate_group-requires-clause-there
locate_group-requires-clause-there g c =
    let slots = g.S.NodeStore.slots c.args.store.now in
    subst (AreLeavesThere slots) (sym c.nodes_of.ensures) (ways_end g.met.S.K.Ord.total slots c.args.height c.args.root c.args.keys.now c.descend_ranks.new.ways c.descend_ranks.ensures)

pub rank_in_leaf-requires-clause-slot : goal.rank_in_leaf-requires-clause-slot
rank_in_leaf-requires-clause-slot g c =
    let slots = g.S.NodeStore.slots c.args.store.now in
    let long = zip_length (IsRankWay g.S.K.Ord.cmp slots c.args.height c.args.root 0 0) c.args.keys.now c.descend_ranks.new.ways c.descend_ranks.ensures in
    slot_of_way g.met.S.K.Ord.total slots c.keys.at c.descend_ranks.new.ways c.nodes_of.new.nodes c.args.keys.now c.locate_group.new.slots (Inner record { 0 = 0 }, 0) (Inner record { 0 = 0 }) c.index-keys-at.result (Ok 0)
    (omega (arith, c.keys-test.true, long)) c.keys-test.true c.nodes_of.ensures c.index-keys-at.is c.locate_group.ensures

pub rank_in_leaf-requires-clause-subtree : goal.rank_in_leaf-requires-clause-subtree
rank_in_leaf-requires-clause-subtree g c =
    let slots = g.S.NodeStore.slots c.args.store.now in
    (zip_at (IsRankWay g.S.K.Ord.cmp slots c.args.height c.args.root 0 0) c.keys.at c.args.keys.now c.descend_ranks.new.ways c.index-keys-at.result (Inner record { 0 = 0 }, 0) c.keys-test.true c.descend_ranks.ensures).subtree

pub keys-preserved : goal.keys-preserved
keys-preserved g c =
    let cmp = g.S.K.Ord.cmp in
    let slots = g.S.NodeStore.slots c.args.store.now in
    let i = c.keys.invariant in
    let n = c.keys.at in
    let keys = c.args.keys.now in
    let ways = c.descend_ranks.new.ways in
    let key = c.index-keys-at.result in
    let way = get_or ways n (Inner record { 0 = 0 }, 0) in
    let pairs = pairs_at slots c.args.height c.args.root in
    let inside = c.keys-test.true in
    let there = zip_at (IsRankWay cmp slots c.args.height c.args.root 0 0) n keys ways key (Inner record { 0 = 0 }, 0) inside c.descend_ranks.ensures in
    let rank : c.rank_in_leaf.result ≡ count_below cmp key (keys_of pairs) =
    rank_end g.met.S.K.Ord.total slots c.args.height c.args.root key way c.rank_in_leaf.result c.requires.subtree (subst (λ k. IsRankWay cmp slots c.args.height c.args.root 0 0 k way) (sym c.index-keys-at.is) there) c.rank_in_leaf.ensures in
    let rank_there : c.rank_in_leaf.result ≡ count_below cmp (get_or keys n key) (keys_of pairs) = rank ∙ ap (λ k. count_below cmp k (keys_of pairs)) c.index-keys-at.is in
    record {
      within = omega arith;
      ranks = returned_more (λ k old. count_below cmp k (keys_of pairs)) keys c.args.ranks.now c.keys.ranks n key c.rank_in_leaf.result i.ranks inside c.requires.ranks (λ old. rank_there);
    }

pub returns : goal.returns
returns g c =
    let cmp = g.S.K.Ord.cmp in
    let pairs = pairs_at (g.S.NodeStore.slots c.args.store.now) c.args.height c.args.root in
    all_returned (λ k. count_below cmp k (keys_of pairs)) c.args.keys.now c.args.ranks.now c.keys.ranks c.keys.at c.keys.invariant.ranks (omega arith) c.requires.ranks
