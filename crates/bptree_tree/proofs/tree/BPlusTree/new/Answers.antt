use Rattle.std.proofs.Common.{refl}
use Rattle.bptree_tree.proofs.Started.{started}
use Rattle.bptree_tree.proofs.tree.BPlusTree.new.Goals as goal

-- one empty leaf is well shaped, and the default is a summary of its keys
pub invariant_of-nodes : goal.invariant_of-nodes
invariant_of-nodes g c =
    let added = c.in_ok-leaf.ensures.updates in (
      started g.S.K.Ord.cmp g.S.Argument.Argument.is_summary (g.S.NodeStore.slots c.args.store) (g.S.NodeStore.slots c.new_empty_leaf.new.store) c.in_ok-leaf.leaf c.requires added,
      rw added.leaf.changed refl,
      rw added.leaf.changed (g.met.S.Argument.Argument.default_is_summary c.default.result c.default.ensures),
    )

pub returns-clause-whole : goal.returns-clause-whole
returns-clause-whole g c =
    let added = c.in_ok-leaf.ensures.updates in
    rw c.of_nodes.ensures (record {
      shape = started g.S.K.Ord.cmp g.S.Argument.Argument.is_summary (g.S.NodeStore.slots c.args.store) (g.S.NodeStore.slots c.new_empty_leaf.new.store) c.in_ok-leaf.leaf c.requires added;
      contents = refl;
      summary = rw added.leaf.changed (g.met.S.Argument.Argument.default_is_summary c.default.result c.default.ensures);
    })
