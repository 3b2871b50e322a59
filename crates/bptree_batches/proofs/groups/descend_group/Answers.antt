use Rattle.std.proofs.Common.{◌≡◌, ◌-◌, get_or, subst, arith}
use Rattle.bptree_keys.specs.declared.node_id.NodeId.TheVariants.{Inner}
use Rattle.bptree_batches.specs.Ways.{IsOnWay, IsLeafNodeFor}
use Rattle.bptree_batches.proofs.Split.{split_none, split_all, split_at, split_more, split_set, split_start, zip_weaker}
use Rattle.bptree_batches.proofs.WayLemmas.{way_on, way_end}
use Rattle.bptree_batches.proofs.groups.descend_group.Goals as goal

pub starts-init : goal.starts-init
starts-init g c =
    let slots = g.S.NodeStore.slots c.args.store.now in
    record {
      within = omega arith;
      ways = split_start (IsOnWay g.S.K.Ord.cmp slots c.args.height c.args.root c.args.height) c.args.keys.now c.args.nodes.now c.requires.nodes;
    }

pub starts-preserved : goal.starts-preserved
starts-preserved g c =
    let slots = g.S.NodeStore.slots c.args.store.now in
    record {
      within = omega arith;
      ways =
          split_set (IsOnWay g.S.K.Ord.cmp slots c.args.height c.args.root c.args.height) (λ k node. Unit {0}) c.starts.filled c.args.keys.now c.starts.nodes c.args.root c.starts-test.true c.starts.invariant.ways
          (λ k. record { stored = c.requires.stored; leads = λ leaf for'. for' });
    }

pub levels-init : goal.levels-init
levels-init g c =
    let slots = g.S.NodeStore.slots c.args.store.now in
    split_all (IsOnWay g.S.K.Ord.cmp slots c.args.height c.args.root c.args.height) (λ k node. Unit {0}) c.starts.filled c.args.keys.now c.starts.nodes (omega arith) c.starts.invariant.ways

pub keys-init : goal.keys-init
keys-init g c =
    let slots = g.S.NodeStore.slots c.args.store.now in
    record {
      within = omega arith;
      ways =
          split_none (IsOnWay g.S.K.Ord.cmp slots c.args.height c.args.root (c.levels.level - 1)) (IsOnWay g.S.K.Ord.cmp slots c.args.height c.args.root c.levels.level) c.args.keys.now c.levels.nodes
          c.levels.invariant;
    }

pub child_for-requires-clause-stored : goal.child_for-requires-clause-stored
child_for-requires-clause-stored g c =
    let slots = g.S.NodeStore.slots c.args.store.now in
    (split_at (IsOnWay g.S.K.Ord.cmp slots c.args.height c.args.root (c.levels.level - 1)) (IsOnWay g.S.K.Ord.cmp slots c.args.height c.args.root c.levels.level) c.keys.at c.args.keys.now c.keys.nodes
    c.index-keys-at.result (Inner record { 0 = 0 }) c.keys-test.true c.keys.invariant.ways).stored

pub keys-preserved : goal.keys-preserved
keys-preserved g c =
    let slots = g.S.NodeStore.slots c.args.store.now in
    let key = c.index-keys-at.result in
    let node = get_or c.keys.nodes c.keys.at (Inner record { 0 = 0 }) in
    let P = IsOnWay g.S.K.Ord.cmp slots c.args.height c.args.root (c.levels.level - 1) in
    let Q = IsOnWay g.S.K.Ord.cmp slots c.args.height c.args.root c.levels.level in
    let before = rw (← c.index-keys-at.is) at (split_at P Q c.keys.at c.args.keys.now c.keys.nodes key (Inner record { 0 = 0 }) c.keys-test.true c.keys.invariant.ways) in
    let after = way_on g.met.S.K.Ord.total slots c.args.height c.args.root c.levels.level (c.levels.level - 1) key node c.child_for.result before c.child_for.ensures in
    record {
      within = omega arith;
      ways = split_more P Q c.keys.at c.args.keys.now c.keys.nodes key c.child_for.result c.keys-test.true c.keys.invariant.ways (subst (λ k. P k c.child_for.result) c.index-keys-at.is after);
    }

pub levels-preserved : goal.levels-preserved
levels-preserved g c =
    let slots = g.S.NodeStore.slots c.args.store.now in
    split_all (IsOnWay g.S.K.Ord.cmp slots c.args.height c.args.root (c.levels.level - 1)) (IsOnWay g.S.K.Ord.cmp slots c.args.height c.args.root c.levels.level) c.keys.at c.args.keys.now c.keys.nodes
    (omega arith) c.keys.invariant.ways

pub returns : goal.returns
returns g c =
    let slots = g.S.NodeStore.slots c.args.store.now in
    let low : c.levels.level ≡ 0 = omega arith in
    zip_weaker (IsOnWay g.S.K.Ord.cmp slots c.args.height c.args.root c.levels.level) (IsLeafNodeFor g.S.K.Ord.cmp slots c.args.height c.args.root)
    (λ k node way. way_end g.met.S.K.Ord.total slots c.args.height c.args.root k node (subst (λ h. IsOnWay g.S.K.Ord.cmp slots c.args.height c.args.root h k node) low way))
    c.args.keys.now c.levels.nodes c.levels.invariant
