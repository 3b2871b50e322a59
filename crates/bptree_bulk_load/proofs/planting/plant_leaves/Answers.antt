use Rattle.std.proofs.Common.{◌≡◌, ◌∙◌, ◌+◌, ◌++◌, ◌∷◌, [], None, ap, arith, drop, refl, rules, slice_index_or, subst, sym}
use Rattle.std.specs.Option.{option_to_list}
use Rattle.std.specs.Vec.Iter.{into_iter_items}
use Rattle.bptree_bulk_load.specs.Layer.{with_leaves}
use Rattle.bptree_bulk_load.specs.Rooms.{joined, parts_of, IsPlanting}
use Rattle.bptree_bulk_load.proofs.Planted.{planting_begins}
use Rattle.bptree_bulk_load.proofs.Standing.{counted_on, drop_all, drop_on, first_is, held_there, planted_on, planted_whole, some_leaf, some_next}
use Rattle.bptree_bulk_load.proofs.planting.plant_leaves.Goals as goal

pub leaves-init : goal.leaves-init
leaves-init g c = record {
  within = omega arith;
  counted = search rules;
  inner = refl;
  planting = λ frame. (
    [],
    frame.trees,
    refl,
    subst (λ leaves. IsPlanting g.S.K.Ord.cmp g.S.Argument.Argument.is_summary (with_leaves frame.base (g.S.NodeStore.slots c.args.store.now).leaf) frame.least [] frame.trees c.args.ids.now None (parts_of leaves) (joined (parts_of c.args.leaves.items))) (sym c.into_iter-boxes.ensures.rest)
        (planting_begins g.S.K.Ord.cmp g.S.Argument.Argument.is_summary (g.S.NodeStore.slots c.args.store.now) c.args.ids.now c.args._built.now (parts_of c.args.leaves.items) frame),
  );
}

pub unwrap-leaf-requires : goal.unwrap-leaf-requires
unwrap-leaf-requires g c =
    let frame = c.requires.framed in
    let state = c.leaves.invariant.planting frame in
    let ids = drop_on c.args.ids.now c.leaves.i (record { 0 = 0 }) c.leaves-test.true in
    let counted = counted_on c.leaves.boxes c.next.new.self c.next.result c.next.ensures.items c.leaves.invariant.counted c.next.ensures.len in
    some_next c.leaves.boxes c.next.new.self c.next.result c.next.ensures.cases c.next.ensures.items counted
    (some_leaf g.S.K.Ord.cmp g.S.Argument.Argument.is_summary (with_leaves frame.base (g.S.NodeStore.slots c.leaves.store).leaf) frame.least state.0 c.leaves.prev (joined (parts_of c.args.leaves.items)) (slice_index_or c.args.ids.now c.leaves.i (record { 0 = 0 })) (drop (c.leaves.i + 1) c.args.ids.now) state.1 (into_iter_items c.leaves.boxes) (rw ids at state.3))

pub plant_leaf-requires : goal.plant_leaf-requires
plant_leaf-requires g c =
    let frame = c.requires.framed in
    let state = c.leaves.invariant.planting frame in
    let ids = drop_on c.args.ids.now c.leaves.i (record { 0 = 0 }) c.leaves-test.true in
    let items : into_iter_items c.leaves.boxes ≡ c.unwrap-leaf.result ∷ into_iter_items c.next.new.self = c.next.ensures.items ∙ ap (λ o. option_to_list o ++ into_iter_items c.next.new.self) c.unwrap-leaf.ensures in
    held_there g.met.S.K.Ord.total g.S.Argument.Argument.is_summary frame.base (g.S.NodeStore.slots c.leaves.store) frame.least state.0 state.1 c.leaves.prev c.id_at-next.result (joined (parts_of c.args.leaves.items)) c.unwrap-leaf.result.value.pairs (slice_index_or c.args.ids.now c.leaves.i (record { 0 = 0 })) (drop (c.leaves.i + 1) c.args.ids.now) (parts_of (into_iter_items c.next.new.self)) (rw (ids, items) at state.3) c.requires.ascending

pub leaves-preserved : goal.leaves-preserved
leaves-preserved g c =
    let ids = drop_on c.args.ids.now c.leaves.i (record { 0 = 0 }) c.leaves-test.true in
    let items : into_iter_items c.leaves.boxes ≡ c.unwrap-leaf.result ∷ into_iter_items c.next.new.self = c.next.ensures.items ∙ ap (λ o. option_to_list o ++ into_iter_items c.next.new.self) c.unwrap-leaf.ensures in
    record {
      within = omega (arith, c.leaves-test.true);
      counted = counted_on c.leaves.boxes c.next.new.self c.next.result c.next.ensures.items c.leaves.invariant.counted c.next.ensures.len;
      inner = c.plant_leaf.ensures.inner ∙ c.leaves.invariant.inner;
      planting = λ frame.
          let state = c.leaves.invariant.planting frame in
          let on = planted_on g.met.S.K.Ord.total g.S.Argument.Argument.is_summary frame.base (g.S.NodeStore.slots c.leaves.store) frame.least state.0 state.1 c.leaves.prev c.id_at-next.result (joined (parts_of c.args.leaves.items)) c.unwrap-leaf.result.value.pairs (slice_index_or c.args.ids.now c.leaves.i (record { 0 = 0 })) (drop (c.leaves.i + 1) c.args.ids.now) (parts_of (into_iter_items c.next.new.self)) (rw (ids, items) at state.3) c.requires.ascending
          (g.S.NodeStore.slots c.plant_leaf.new.store) (c.id_at-next.ensures ∙ first_is c.args.ids.now (c.leaves.i + 1)) c.plant_leaf.ensures in
          (on.0, on.1, state.2 ∙ on.2, on.3);
    }

pub returns : goal.returns
returns g c =
    let frame = c.requires.framed in
    let state = c.leaves.invariant.planting frame in
    planted_whole g.S.Argument.Argument.is_summary (g.S.NodeStore.slots c.args.store.now) (g.S.NodeStore.slots c.leaves.store) c.args.ids.now (drop c.leaves.i c.args.ids.now) c.args._built.now (parts_of c.args.leaves.items) (parts_of (into_iter_items c.leaves.boxes)) frame state.0 state.1 c.leaves.prev (drop_all c.args.ids.now c.leaves.i (omega (arith, c.leaves-test.false)))
    state.2 c.leaves.invariant.inner state.3
