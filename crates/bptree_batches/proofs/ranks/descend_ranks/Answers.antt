use Rattle.std.proofs.Common.{◌≡◌, ◌-◌, get_or, subst, arith}
use Rattle.bptree_keys.specs.declared.node_id.NodeId.TheVariants.{Inner}
use Rattle.bptree_batches.specs.RankWays.{IsRankWay}
use Rattle.bptree_batches.proofs.RankWayLemmas.{rank_on}
use Rattle.bptree_batches.proofs.Split.{split_none, split_all, split_at, split_more, split_set, split_start, zip_weaker}
use Rattle.bptree_batches.proofs.ranks.descend_ranks.Goals as goal

pub starts-init : goal.starts-init
starts-init g c =
    let slots = g.S.NodeStore.slots c.args.store.now in
    record {
      within = omega arith;
      ways = split_start (IsRankWay g.S.K.Ord.cmp slots c.args.height c.args.root 0 c.args.height) c.args.keys.now c.args.ways.now c.requires.ways;
    }

pub starts-preserved : goal.starts-preserved
starts-preserved g c =
    let slots = g.S.NodeStore.slots c.args.store.now in
    record {
      within = omega arith;
      ways =
          split_set (IsRankWay g.S.K.Ord.cmp slots c.args.height c.args.root 0 c.args.height) (λ k way. Unit {0}) c.starts.filled c.args.keys.now c.starts.ways (c.args.root, 0) c.starts-test.true c.starts.invariant.ways
          (λ k. record { subtree = c.requires.subtree; leads = λ n ranked. ranked });
    }

pub levels-init : goal.levels-init
levels-init g c =
    let slots = g.S.NodeStore.slots c.args.store.now in
    split_all (IsRankWay g.S.K.Ord.cmp slots c.args.height c.args.root 0 c.args.height) (λ k way. Unit {0}) c.starts.filled c.args.keys.now c.starts.ways (omega arith) c.starts.invariant.ways

pub keys-init : goal.keys-init
keys-init g c =
    let slots = g.S.NodeStore.slots c.args.store.now in
    record {
      within = omega arith;
      ways =
          split_none (IsRankWay g.S.K.Ord.cmp slots c.args.height c.args.root 0 (c.levels.level - 1)) (IsRankWay g.S.K.Ord.cmp slots c.args.height c.args.root 0 c.levels.level) c.args.keys.now c.levels.ways
          c.levels.invariant;
    }

pub rank_child-requires-clause-subtree : goal.rank_child-requires-clause-subtree
rank_child-requires-clause-subtree g c =
    let slots = g.S.NodeStore.slots c.args.store.now in
    (split_at (IsRankWay g.S.K.Ord.cmp slots c.args.height c.args.root 0 (c.levels.level - 1)) (IsRankWay g.S.K.Ord.cmp slots c.args.height c.args.root 0 c.levels.level) c.keys.at c.args.keys.now c.keys.ways
    c.index-keys-at.result (Inner record { 0 = 0 }, 0) c.keys-test.true c.keys.invariant.ways).subtree

pub keys-preserved : goal.keys-preserved
keys-preserved g c =
    let slots = g.S.NodeStore.slots c.args.store.now in
    let key = c.index-keys-at.result in
    let way = get_or c.keys.ways c.keys.at (Inner record { 0 = 0 }, 0) in
    let P = IsRankWay g.S.K.Ord.cmp slots c.args.height c.args.root 0 (c.levels.level - 1) in
    let Q = IsRankWay g.S.K.Ord.cmp slots c.args.height c.args.root 0 c.levels.level in
    let before = rw (← c.index-keys-at.is) at (split_at P Q c.keys.at c.args.keys.now c.keys.ways key (Inner record { 0 = 0 }, 0) c.keys-test.true c.keys.invariant.ways) in
    let after = rank_on g.met.S.K.Ord.total slots c.args.height c.args.root 0 c.levels.level (c.levels.level - 1) key way c.rank_child.result before c.rank_child.ensures in
    record {
      within = omega arith;
      ways = split_more P Q c.keys.at c.args.keys.now c.keys.ways key c.rank_child.result c.keys-test.true c.keys.invariant.ways (subst (λ k. P k c.rank_child.result) c.index-keys-at.is after);
    }

pub levels-preserved : goal.levels-preserved
levels-preserved g c =
    let slots = g.S.NodeStore.slots c.args.store.now in
    split_all (IsRankWay g.S.K.Ord.cmp slots c.args.height c.args.root 0 (c.levels.level - 1)) (IsRankWay g.S.K.Ord.cmp slots c.args.height c.args.root 0 c.levels.level) c.keys.at c.args.keys.now c.keys.ways
    (omega arith) c.keys.invariant.ways

pub returns : goal.returns
returns g c =
    let slots = g.S.NodeStore.slots c.args.store.now in
    let low : c.levels.level ≡ 0 = omega arith in
    zip_weaker (IsRankWay g.S.K.Ord.cmp slots c.args.height c.args.root 0 c.levels.level) (IsRankWay g.S.K.Ord.cmp slots c.args.height c.args.root 0 0)
    (λ k way there. subst (λ h. IsRankWay g.S.K.Ord.cmp slots c.args.height c.args.root 0 h k way) low there)
    c.args.keys.now c.levels.ways c.levels.invariant
