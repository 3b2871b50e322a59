use Rattle.std.proofs.Common.{◌≡◌, ◌-◌, length, refl, arith}
use Rattle.std.proofs.lemmas.Option.{slice_get_read}
use Rattle.std.proofs.lemmas.Slice.Zip.{firsts-zip}
use Rattle.bptree_nodes.proofs.Pairs.{length_pairs}
use Rattle.bptree_nodes.proofs.leaf_node.LeafNode.key_range.Goals as goal

pub returns-clause-first : goal.returns-clause-first
returns-clause-first g c =
    let some = rw (← c.self.view_is) at c.requires in
    rw (← c.self.view_is, firsts-zip c.self.inside.keys.items c.self.inside.values.items (omega arith), slice_get_read c.self.inside.keys.items _ 0 _ refl (omega (arith, some, length_pairs c.self.inside.keys.items c.self.inside.values.items (omega arith))) c.index.ensures) c.in_ok-first.ensures

pub returns-clause-last : goal.returns-clause-last
returns-clause-last g c =
    let some = rw (← c.self.view_is) at c.requires in
    let long = length_pairs c.self.inside.keys.items c.self.inside.values.items (omega arith) in
    let last : length c.self.inside.keys.items ≡ c.len.result = omega arith in
    rw (← c.self.view_is, firsts-zip c.self.inside.keys.items c.self.inside.values.items (omega arith), long, last, slice_get_read c.self.inside.keys.items _ (c.len.result - 1) _ refl (omega (arith, some, long, c.len.ensures)) c.index-2.ensures) c.in_ok-last.ensures
