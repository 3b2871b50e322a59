use Rattle.std.proofs.Common.{◌≡◌, ◌-◌, get_or, refl, subst, arith}
use Rattle.bptree_keys.specs.declared.node_id.NodeId.TheVariants.{Inner}
use Rattle.bptree_batches.specs.SelectWays.{IsSelectWay}
use Rattle.bptree_batches.proofs.SelectLemmas.{select_on}
use Rattle.bptree_batches.proofs.Split.{split_none, split_all, split_at, split_more, split_start, zip_weaker}
use Rattle.bptree_batches.proofs.selects.descend_selects.Goals as goal

pub starts-init : goal.starts-init
starts-init g c =
    let slots = g.S.NodeStore.slots c.args.store.now in
    record {
      within = omega arith;
      ways = split_start (IsSelectWay g.S.K.Ord.cmp slots c.args.height c.args.root c.args.height) c.args.indexes.now c.args.ways.now c.requires.ways;
    }

pub starts-preserved : goal.starts-preserved
starts-preserved g c =
    let slots = g.S.NodeStore.slots c.args.store.now in
    let index = get_or c.args.indexes.now c.starts.filled 0 in
    record {
      within = omega arith;
      ways =
          split_more (IsSelectWay g.S.K.Ord.cmp slots c.args.height c.args.root c.args.height) (λ i way. Unit {0}) c.starts.filled c.args.indexes.now c.starts.ways 0 (c.args.root, index) c.starts-test.true c.starts.invariant.ways
          (record { subtree = c.requires.subtree; leads = refl });
    }

pub levels-init : goal.levels-init
levels-init g c =
    let slots = g.S.NodeStore.slots c.args.store.now in
    split_all (IsSelectWay g.S.K.Ord.cmp slots c.args.height c.args.root c.args.height) (λ i way. Unit {0}) c.starts.filled c.args.indexes.now c.starts.ways (omega arith) c.starts.invariant.ways

pub indexes-init : goal.indexes-init
indexes-init g c =
    let slots = g.S.NodeStore.slots c.args.store.now in
    record {
      within = omega arith;
      ways =
          split_none (IsSelectWay g.S.K.Ord.cmp slots c.args.height c.args.root (c.levels.level - 1)) (IsSelectWay g.S.K.Ord.cmp slots c.args.height c.args.root c.levels.level) c.args.indexes.now c.levels.ways
          c.levels.invariant;
    }

pub select_child-requires-clause-subtree : goal.select_child-requires-clause-subtree
select_child-requires-clause-subtree g c =
    let slots = g.S.NodeStore.slots c.args.store.now in
    (split_at (IsSelectWay g.S.K.Ord.cmp slots c.args.height c.args.root (c.levels.level - 1)) (IsSelectWay g.S.K.Ord.cmp slots c.args.height c.args.root c.levels.level) c.indexes.at c.args.indexes.now c.indexes.ways
    0 (Inner record { 0 = 0 }, 0) c.indexes-test.true c.indexes.invariant.ways).subtree

pub indexes-preserved : goal.indexes-preserved
indexes-preserved g c =
    let slots = g.S.NodeStore.slots c.args.store.now in
    let index = get_or c.args.indexes.now c.indexes.at 0 in
    let way = get_or c.indexes.ways c.indexes.at (Inner record { 0 = 0 }, 0) in
    let P = IsSelectWay g.S.K.Ord.cmp slots c.args.height c.args.root (c.levels.level - 1) in
    let Q = IsSelectWay g.S.K.Ord.cmp slots c.args.height c.args.root c.levels.level in
    let before = split_at P Q c.indexes.at c.args.indexes.now c.indexes.ways 0 (Inner record { 0 = 0 }, 0) c.indexes-test.true c.indexes.invariant.ways in
    let after = select_on g.met.S.K.Ord.total slots c.args.height c.args.root c.levels.level (c.levels.level - 1) index way c.select_child.result before c.select_child.ensures in
    record {
      within = omega arith;
      ways = split_more P Q c.indexes.at c.args.indexes.now c.indexes.ways 0 c.select_child.result c.indexes-test.true c.indexes.invariant.ways after;
    }

pub levels-preserved : goal.levels-preserved
levels-preserved g c =
    let slots = g.S.NodeStore.slots c.args.store.now in
    split_all (IsSelectWay g.S.K.Ord.cmp slots c.args.height c.args.root (c.levels.level - 1)) (IsSelectWay g.S.K.Ord.cmp slots c.args.height c.args.root c.levels.level) c.indexes.at c.args.indexes.now c.indexes.ways
    (omega arith) c.indexes.invariant.ways

pub returns : goal.returns
returns g c =
    let slots = g.S.NodeStore.slots c.args.store.now in
    let low : c.levels.level ≡ 0 = omega arith in
    zip_weaker (IsSelectWay g.S.K.Ord.cmp slots c.args.height c.args.root c.levels.level) (IsSelectWay g.S.K.Ord.cmp slots c.args.height c.args.root 0)
    (λ i way there. subst (λ h. IsSelectWay g.S.K.Ord.cmp slots c.args.height c.args.root h i way) low there)
    c.args.indexes.now c.levels.ways c.levels.invariant
