use Rattle.std.proofs.Common.{ap, ◌∙◌, Some}
use Rattle.std.specs.Vec.Iter.{into_iter_items}
use Rattle.bptree_nodes.specs.Leaf.{Leaf}
use Rattle.bptree_bulk_load.proofs.Spread.{next_held, rest_long, leaf_spreads}
use Rattle.bptree_bulk_load.proofs.leaf_layer.add_leaf.Goals as goal

pub returns : goal.returns
returns g c =
    let fill = c.in_ok-filled.ensures.1 in
    let old = g.S.NodeStore.slots c.args.store.now in
    let mid = g.S.NodeStore.slots c.reserve_leaf.new.self in
    let new = g.S.NodeStore.slots c.store_leaf.new.store in (
      rest_long g.met.S.K.Ord.total g.S.Argument.Argument.is_summary old c.args.count c.args.layer.now.items c.args.id c.args.prev (into_iter_items c.args.items.now) (into_iter_items c.fill.new.items) (into_iter_items c.args.items.now) c.in_ok-filled.filled.first c.in_ok-filled.filled.summary c.in_ok-filled.filled.leaf.value fill,
      c.in_ok-filled.ensures.0,
      next_held old mid new c.args.id c.in_ok-next.next c.set_next.new.self c.requires.held c.in_ok-next.ensures.was_free c.in_ok-next.ensures.updates c.store_leaf.ensures.stored,
      λ pairs ascending spreading.
          rw c.in_ok-store_leaf.ensures.appended
          (leaf_spreads g.met.S.K.Ord.total g.S.Argument.Argument.is_summary old c.args.count c.args.layer.now.items c.args.id c.args.prev (into_iter_items c.args.items.now) (into_iter_items c.fill.new.items) pairs c.in_ok-filled.filled.first c.in_ok-filled.filled.summary c.in_ok-filled.filled.leaf.value fill
          mid new c.in_ok-next.next c.set_next.new.self (c.set_next.ensures ∙ ap (λ (l : Leaf _ _). record l { next = Some c.in_ok-next.next }) c.deref_mut.ensures.value) c.in_ok-next.ensures.was_free c.in_ok-next.ensures.updates c.store_leaf.ensures.stored c.requires.count.0 c.requires.count.1 ascending spreading),
    )
