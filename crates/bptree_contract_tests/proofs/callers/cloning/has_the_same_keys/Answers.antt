use Rattle.bptree_tree.proofs.Cloned.{has_alike}
use Rattle.bptree_contract_tests.proofs.CloneSizes.{same_leaf_size}
use Rattle.bptree_contract_tests.proofs.callers.cloning.has_the_same_keys.Goals as goal

pub returns-clause-keys : goal.returns-clause-keys
returns-clause-keys g c = has_alike g.met.S.K.Ord.total g.S.V.Clone.is_clone c.args.tree.now.contents c.in_ok-copy.copy.contents c.in_ok-copy.ensures.contents

pub returns-clause-leaves : goal.returns-clause-leaves
returns-clause-leaves g c = λ number.
    let old = g.S.NodeStore.slots c.args.tree.now.store in
    let new = g.S.NodeStore.slots c.in_ok-copy.copy.store in
    same_leaf_size g.S.K.Clone.is_clone g.S.V.Clone.is_clone (old.leaf number) (new.leaf number) (c.in_ok-copy.ensures.nodes.leaf number)
