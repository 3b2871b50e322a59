use Rattle.std.proofs.Common.{◌≡◌, get_or, slice_get, ◌∙◌, arith}
use Rattle.std.specs.Map.Iter.{deref_pair}
use Rattle.std.specs.Option.{option_map}
use Rattle.bptree_keys.specs.declared.node_id.NodeId.TheVariants.{Inner}
use Rattle.bptree_invariant.specs.Shape.{pairs_at}
use Rattle.bptree_batches.specs.SelectWays.{IsSelectWay}
use Rattle.bptree_batches.proofs.SelectLemmas.{shown_more, all_shown}
use Rattle.bptree_batches.proofs.Split.{zip_at}
use Rattle.bptree_batches.proofs.selects.select_group.Goals as goal

pub select_in_leaf-requires : goal.select_in_leaf-requires
select_in_leaf-requires g c =
    let slots = g.S.NodeStore.slots c.args.store.now in
    (zip_at (IsSelectWay g.S.K.Ord.cmp slots c.args.height c.args.root 0) c.indexes.at c.args.indexes.now c.descend_selects.new.ways 0 (Inner record { 0 = 0 }, 0) c.indexes-test.true c.descend_selects.ensures).subtree

pub indexes-preserved : goal.indexes-preserved
indexes-preserved g c =
    let slots = g.S.NodeStore.slots c.args.store.now in
    let i = c.indexes.invariant in
    let n = c.indexes.at in
    let indexes = c.args.indexes.now in
    let pairs = pairs_at slots c.args.height c.args.root in
    let inside = c.indexes-test.true in
    let way = get_or c.descend_selects.new.ways n (Inner record { 0 = 0 }, 0) in
    let there = zip_at (IsSelectWay g.S.K.Ord.cmp slots c.args.height c.args.root 0) n indexes c.descend_selects.new.ways 0 (Inner record { 0 = 0 }, 0) inside c.descend_selects.ensures in
    let read : option_map deref_pair c.select_in_leaf.result ≡ slice_get pairs (get_or indexes n 0) = ◌∙◌ {b = slice_get (pairs_at slots 0 way.0) way.1} c.select_in_leaf.ensures there.leads in
    record {
      within = omega arith;
      found = shown_more (option_map deref_pair) (slice_get pairs) indexes c.args.found.now c.indexes.found n 0 c.select_in_leaf.result i.found inside c.requires.found read;
    }

pub returns : goal.returns
returns g c =
    let pairs = pairs_at (g.S.NodeStore.slots c.args.store.now) c.args.height c.args.root in
    all_shown (option_map deref_pair) (slice_get pairs) c.args.indexes.now c.args.found.now c.indexes.found c.indexes.at c.indexes.invariant.found (omega arith) c.requires.found
