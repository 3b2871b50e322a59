use Rattle.std.proofs.Common.{refl, rules}
use Rattle.bptree_nodes.proofs.Pairs.{all_zip_pairs, length_pairs}
use Rattle.bptree_nodes.proofs.leaf_node.LeafNodeClone.clone.Goals as goal

pub returns : goal.returns
returns g c =
    record {
      cases = rw (← c.self.view_is) (record {
        pairs = all_zip_pairs g.K.Clone.is_clone g.V.Clone.is_clone c.self.inside.keys.items _ c.self.inside.values.items _ c.in_ok-clone_reserved.ensures.clones c.in_ok-clone_reserved-2.ensures.clones;
        len = search (rules, length_pairs);
        links = (refl, refl);
      });
    }
