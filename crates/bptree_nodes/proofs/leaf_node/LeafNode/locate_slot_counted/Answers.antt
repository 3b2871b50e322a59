use Rattle.std.proofs.Common.{◌≡◌, arith, ap, length}
use Rattle.std.specs.Map.{keys_of}
use Rattle.std.proofs.lemmas.Slice.Zip.{firsts-zip}
use Rattle.bptree_nodes.proofs.Pairs.{length_pairs}
use Rattle.bptree_nodes.proofs.LeafContents.{found_pair, index_of_locate}
use Rattle.bptree_nodes.proofs.leaf_node.LeafNode.locate_slot_counted.Goals as goal

pub returns-clause-found : goal.returns-clause-found
returns-clause-found g c =
    let keys = c.deref.ensures.value in
    rw (← c.self.view_is) (found_pair g.K.Ord.cmp c.args.key.now c.self.inside.keys.items c.self.inside.values.items c.locate_hinted_counted.result (omega arith) (rw keys at c.locate_hinted_counted.ensures.in_range) (rw keys at c.locate_hinted_counted.ensures.found))

pub returns-clause-index : goal.returns-clause-index
returns-clause-index g c = λ ascending.
    let keys : keys_of c.args.self.now.pairs ≡ c.deref.result.now = rw (← c.self.view_is, c.deref.ensures.value) (firsts-zip c.self.inside.keys.items c.self.inside.values.items (omega arith)) in
    rw (c.locate_hinted_counted.ensures.ascending (rw keys at ascending), ← keys) (index_of_locate g.K.Ord.cmp g.met.K.Ord.total c.args.key.now c.args.self.now.pairs ascending)

pub returns-clause-in_range : goal.returns-clause-in_range
returns-clause-in_range g c =
    rw (← c.self.view_is, length_pairs c.self.inside.keys.items c.self.inside.values.items (omega arith)) (rw c.deref.ensures.value at c.locate_hinted_counted.ensures.in_range)

pub returns-clause-ascending : goal.returns-clause-ascending
returns-clause-ascending g c = λ ascending.
    let keys : keys_of c.args.self.now.pairs ≡ c.deref.result.now = rw (← c.self.view_is, c.deref.ensures.value) (firsts-zip c.self.inside.keys.items c.self.inside.values.items (omega arith)) in
    rw keys (c.locate_hinted_counted.ensures.ascending (rw keys at ascending))

pub returns-clause-fits : goal.returns-clause-fits
returns-clause-fits g c =
    let whole = ap (λ leaf. length leaf.pairs) c.self.view_is in
    omega (arith, whole, length_pairs c.self.inside.keys.items c.self.inside.values.items (omega arith))
