use Rattle.std.proofs.Common.{[], ◌∷◌, ◌∙◌, ap, refl, length, arith, rules, add-one, length-append}
use Rattle.std.specs.Vec.Iter.{into_iter_items}
use Rattle.bptree_bulk_load.specs.Layer.{with_leaves}
use Rattle.bptree_bulk_load.proofs.Raised.{begins, raised_with, rises, rises_last, raised_long}
use Rattle.bptree_bulk_load.proofs.inner_layer.raise_layer.Goals as goal

pub nodes-init : goal.nodes-init
nodes-init g c = record {
  has_left = record { are = search rules; counted = search rules };
  several = search rules;
  enough = λ some. absurd (omega (arith, some, ap length c.new-above.ensures.items));
  fewer = omega (arith, ap length c.new-above.ensures.items, c.len-left.ensures);
  leaves = refl;
  rising = λ leaves pairs ascending fits layer.
      rw (c.new-above.ensures.items, c.into_iter-trees.ensures.rest) (begins g.S.K.Ord.cmp g.S.Argument.Argument.is_summary (with_leaves (g.S.NodeStore.slots c.args.store.now) leaves) 16 c.args.height c.args.layer.items pairs c.requires layer);
}

pub nodes-preserved : goal.nodes-preserved
nodes-preserved g c =
    let cut = c.first_of_layer-count.ensures.cut in
    let raised = c.in_ok-tree.ensures.1 in
    let long = raised_long g.S.K.Ord.cmp g.S.Argument.Argument.is_summary (g.S.NodeStore.slots c.nodes.store) (g.S.NodeStore.slots c.build_layer_above.new.store) (into_iter_items c.nodes.trees) c.first_of_layer-count.result c.in_ok-tree.tree (into_iter_items c.build_layer_above.new.trees) raised in
    let rest = cut.rest c.nodes-test.true in
    let enough = cut.enough c.nodes-test.true in
    let more = length-append c.nodes.above.items (c.in_ok-tree.tree ∷ []) in
    record {
      has_left = record { are = omega (arith, long, c.nodes.invariant.has_left.are); counted = c.in_ok-tree.ensures.0 };
      several = omega (arith, rest);
      enough = λ some. omega (arith, rest);
      fewer = omega (arith, ap length c.in_ok-append.ensures, more, rest, enough, c.nodes.invariant.fewer);
      leaves = raised.updates.leaf ∙ c.nodes.invariant.leaves;
      rising = λ leaves pairs ascending fits layer.
          rw c.in_ok-append.ensures (rises g.met.S.K.Ord.total g.S.Argument.Argument.is_summary (with_leaves (g.S.NodeStore.slots c.nodes.store) leaves) (with_leaves (g.S.NodeStore.slots c.build_layer_above.new.store) leaves) 16 c.args.height c.nodes.above.items (into_iter_items c.nodes.trees) c.first_of_layer-count.result c.in_ok-tree.tree (into_iter_items c.build_layer_above.new.trees) pairs
          (c.nodes.invariant.rising leaves pairs ascending fits layer) (raised_with g.S.K.Ord.cmp g.S.Argument.Argument.is_summary (g.S.NodeStore.slots c.nodes.store) (g.S.NodeStore.slots c.build_layer_above.new.store) (into_iter_items c.nodes.trees) c.first_of_layer-count.result c.in_ok-tree.tree (into_iter_items c.build_layer_above.new.trees) raised leaves) ascending fits enough cut.room);
    }

pub returns : goal.returns
returns g c =
    let raised = c.in_ok-tree-2.ensures.1 in
    let long = raised_long g.S.K.Ord.cmp g.S.Argument.Argument.is_summary (g.S.NodeStore.slots c.nodes.store) (g.S.NodeStore.slots c.build_layer_above-2.new.store) (into_iter_items c.nodes.trees) c.nodes.left c.in_ok-tree-2.tree (into_iter_items c.build_layer_above-2.new.trees) raised in
    let more = length-append c.nodes.above.items (c.in_ok-tree-2.tree ∷ []) in (
      omega (arith, ap length c.in_ok-append-2.ensures, more),
      omega (arith, ap length c.in_ok-append-2.ensures, more, c.nodes.invariant.fewer, c.nodes.invariant.several),
      raised.updates.leaf ∙ c.nodes.invariant.leaves,
      λ leaves pairs ascending fits layer.
          rw (c.in_ok-append-2.ensures, add-one) (rises_last g.met.S.K.Ord.total g.S.Argument.Argument.is_summary (with_leaves (g.S.NodeStore.slots c.nodes.store) leaves) (with_leaves (g.S.NodeStore.slots c.build_layer_above-2.new.store) leaves) c.args.height (into_iter_items c.nodes.trees) c.nodes.left c.in_ok-tree-2.tree (into_iter_items c.build_layer_above-2.new.trees) pairs
          (raised_with g.S.K.Ord.cmp g.S.Argument.Argument.is_summary (g.S.NodeStore.slots c.nodes.store) (g.S.NodeStore.slots c.build_layer_above-2.new.store) (into_iter_items c.nodes.trees) c.nodes.left c.in_ok-tree-2.tree (into_iter_items c.build_layer_above-2.new.trees) raised leaves) ascending fits (omega (arith, long, c.nodes.invariant.has_left.are)) (omega (arith, c.nodes-test.false)) c.nodes.above.items c.nodes.invariant.several c.nodes.invariant.enough (c.nodes.invariant.rising leaves pairs ascending fits layer)),
    )
