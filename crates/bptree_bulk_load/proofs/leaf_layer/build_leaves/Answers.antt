use Rattle.std.proofs.Common.{sym, ap, ◌∙◌, length, arith}
use Rattle.std.specs.Vec.Iter.{into_iter_items}
use Rattle.bptree_bulk_load.proofs.Counts.{no_length, some_are, less, leaf_cut}
use Rattle.bptree_bulk_load.proofs.Lists.{not_empty}
use Rattle.bptree_bulk_load.proofs.Spread.{leaf_ends, spreading_none}
use Rattle.bptree_bulk_load.proofs.leaf_layer.build_leaves.Goals as goal

pub leaves-init : goal.leaves-init
leaves-init g c =
    let rest = ap length (sym c.into_iter-items.ensures.rest) in
    record {
      has_left = record { are = c.len-left.ensures ∙ (c.args.pairs.ok.0 ∙ rest); counted = c.into_iter-items.ensures.len ∙ (c.args.pairs.ok.0 ∙ rest) };
      some = some_are (c.len-left.ensures ∙ c.args.pairs.ok.0) c.requires.some;
      enough = λ some. absurd (no_length c.new-layer.ensures.items some);
      spreading = rw (c.new-layer.ensures.items, c.into_iter-items.ensures.rest)
          (spreading_none g.S.K.Ord.cmp g.S.Argument.Argument.is_summary (g.S.NodeStore.slots c.args.store.now) (g.S.NodeStore.slots c.reserve_leaf.new.self) c.in_ok-id.id c.args.pairs.items c.requires.empty c.in_ok-id.ensures.updates);
    }

pub add_leaf-requires-clause-count : goal.add_leaf-requires-clause-count
add_leaf-requires-clause-count g c = let cut = leaf_cut c.first_of_layer-count.ensures.cut c.leaves-test.true in (cut.0, cut.1)

pub leaves-preserved : goal.leaves-preserved
leaves-preserved g c =
    let cut = leaf_cut c.first_of_layer-count.ensures.cut c.leaves-test.true in
    let added = c.in_ok-next.ensures in
    record {
      has_left = record { are = less _ _ _ _ c.leaves.invariant.has_left.are added.0; counted = added.1 };
      some = cut.2;
      enough = λ _. cut.3;
      spreading = added.3 c.args.pairs.items c.requires.ascending c.leaves.invariant.spreading;
    }

pub returns : goal.returns
returns g c =
    let filled = c.in_ok-filled.filled in
    rw c.in_ok-store_leaf.ensures.appended (
      not_empty c.leaves.layer.items _,
      leaf_ends g.met.S.K.Ord.total g.S.Argument.Argument.is_summary (g.S.NodeStore.slots c.leaves.store) c.leaves.left c.leaves.layer.items c.leaves.id c.leaves.prev (into_iter_items c.leaves.items) (into_iter_items c.fill.new.items) c.args.pairs.items filled.first filled.summary filled.leaf.value c.in_ok-filled.ensures.1
          (g.S.NodeStore.slots c.store_leaf.new.store) c.store_leaf.ensures.stored (sym c.leaves.invariant.has_left.are) (omega (arith, c.leaves-test.false)) (λ some. omega (arith, c.leaves.invariant.enough some)) c.requires.ascending c.leaves.invariant.spreading,
    )
