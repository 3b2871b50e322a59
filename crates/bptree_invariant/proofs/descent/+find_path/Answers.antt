use Rattle.std.proofs.Common.{◌≡◌, ◌-◌, ◌∷◌, [], suc, length, length-append, arith, subst, ap}
use Rattle.bptree_keys.specs.declared.node_id.NodeId.TheVariants.{Inner}
use Rattle.bptree_invariant.specs.Leaves.{IsStored}
use Rattle.bptree_invariant.specs.Path.{Way}
use Rattle.bptree_invariant.proofs.Down.{inner_present, node_leads, child_is_stored, leaf_for_node, leaf_for_leaf}
use Rattle.bptree_invariant.proofs.Ways.{way_more}
use Rattle.bptree_invariant.proofs.descent.+find_path.Goals as goal

pub find_path-requires : goal.find_path-requires
find_path-requires g t c κs within =
    let total = g.met.S.K.Ord.total in
    let slots = g.S.NodeStore.slots c.args.store.now in
    let s : IsStored g.S.K.Ord.cmp slots c.args.height (Inner c.in-Inner.inner) = rw c.in-Inner.is at c.requires.stored in
    let at = c.locate_child-index.ensures in
    let p = (inner_present total slots c.args.height c.in-Inner.inner s).1 in
    let more = ap length c.push.ensures in
    let long = length-append c.args.path.now ((c.in-Inner.inner, c.locate_child-index.result.0, c.locate_child-index.result.1) ∷ []) in (
      omega arith,
      (
        within.0,
        (
          within.1.0,
          (
            within.1.1.0,
            (
              within.1.1.1,
              (
                child_is_stored total slots c.args.height c.in-Inner.inner c.get_inner.result.now s c.get_inner.ensures c.locate_child-index.result.0 c.locate_child-index.result.1 at.in_range at.child,
                omega (arith, p, more, long, c.requires.room),
              ),
            ),
          ),
        ),
      ),
    )

pub returns-in-Leaf-clause-leaf : goal.returns-in-Leaf-clause-leaf
returns-in-Leaf-clause-leaf g t c =
    rw c.in-Leaf.is (leaf_for_leaf g.met.S.K.Ord.total (g.S.NodeStore.slots c.args.store.now) c.args.height c.in-Leaf.leaf c.args.key.now (rw c.in-Leaf.is at c.requires.stored))

pub returns-in-Inner-clause-leaf : goal.returns-in-Inner-clause-leaf
returns-in-Inner-clause-leaf g t c =
    let total = g.met.S.K.Ord.total in
    let slots = g.S.NodeStore.slots c.args.store.now in
    let node = c.get_inner.result.now in
    let s : IsStored g.S.K.Ord.cmp slots c.args.height (Inner c.in-Inner.inner) = rw c.in-Inner.is at c.requires.stored in
    let at = c.locate_child-index.ensures in
    let leads = node_leads total slots c.args.height c.in-Inner.inner node s c.get_inner.ensures c.args.key.now c.locate_child-index.result.0 at.leads in
    rw c.in-Inner.is
    (leaf_for_node total slots c.args.height c.in-Inner.inner node c.args.key.now c.locate_child-index.result.0 c.locate_child-index.result.1 c.find_path.result s c.get_inner.ensures
    leads at.in_range at.child c.find_path.ensures.leaf)

pub returns-in-Inner-clause-way : goal.returns-in-Inner-clause-way
returns-in-Inner-clause-way g t c top root way =
    let total = g.met.S.K.Ord.total in
    let cmp = g.S.K.Ord.cmp in
    let slots = g.S.NodeStore.slots c.args.store.now in
    let node = c.get_inner.result.now in
    let s : IsStored cmp slots c.args.height (Inner c.in-Inner.inner) = rw c.in-Inner.is at c.requires.stored in
    let at = c.locate_child-index.ensures in
    let leads = node_leads total slots c.args.height c.in-Inner.inner node s c.get_inner.ensures c.args.key.now c.locate_child-index.result.0 at.leads in
    let p = (inner_present total slots c.args.height c.in-Inner.inner s).1 in
    let up : c.args.height ≡ suc (c.args.height - 1) = omega (arith, p) in
    let here : Way cmp slots c.args.key.now top root c.args.path.now c.args.height (Inner c.in-Inner.inner) = rw c.in-Inner.is at way in
    let above = subst (λ n. Way cmp slots c.args.key.now top root c.args.path.now n (Inner c.in-Inner.inner)) up here in
    c.find_path.ensures.way top root
    (rw c.push.ensures (way_more cmp slots c.args.key.now c.args.path.now c.in-Inner.inner c.locate_child-index.result.0 c.locate_child-index.result.1 top root (c.args.height - 1) node above c.get_inner.ensures leads at.child))
