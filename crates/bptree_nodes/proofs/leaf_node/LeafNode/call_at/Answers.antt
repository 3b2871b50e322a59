use Rattle.std.proofs.Common.{◌≡◌, ◌<◌, arith, length, refl}
use Rattle.bptree_nodes.proofs.Pairs.{length_pairs, pair_at, set_value_pairs}
use Rattle.bptree_nodes.proofs.leaf_node.LeafNode.call_at.Goals as goal

pub returns-clause-called : goal.returns-clause-called
returns-clause-called g c =
    let keys = c.self.inside.keys.items in
    let values = c.self.inside.values.items in
    let k = c.index.result.now in
    let v = c.index_mut.result.now in
    let w = c.f-stays.new.arg3 in
    let same : length values ≡ length keys = omega (arith, c.self.invariant.0) in
    let within : c.args.slot < length keys = omega (arith, rw (← c.self.view_is) at c.requires.within, length_pairs keys values same) in
    rw (← c.self.view_is) (
      (k, v),
      w,
      pair_at keys values c.args.slot k v same within c.index.ensures c.index_mut.ensures.value,
      (refl, record { key = _; value = _; shows = (refl, refl); left = _; called = c.f-stays.ensures; leaves = refl }),
      rw (set_value_pairs keys values c.args.slot w) refl,
    )
