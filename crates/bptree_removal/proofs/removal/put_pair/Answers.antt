use Rattle.bptree_removal.proofs.Removals.{leaf_again}
use Rattle.bptree_removal.proofs.removal.put_pair.Goals as goal

pub returns : goal.returns
returns g c was node here read taken =
    let now = c.args.store.now in
    let leaf = c.get_mut_leaf in
    let back = c.insert_at.new.self in
    leaf_again was (g.S.NodeStore.slots now) (g.S.NodeStore.slots (g.S.NodeStore.with_leaf now c.args.id.0 back)) c.args.id c.args.slot node leaf.result.now back c.args.pair here read taken leaf.ensures.value c.insert_at.ensures.after
    (g.met.S.NodeStore.with_leaf_updates now c.args.id.0 back (rw leaf.ensures.value tt))
