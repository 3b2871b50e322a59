use Rattle.std.proofs.Common.{◌∙◌, None, Some, ap}
use Rattle.std.specs.Map.{keys_of}
use Rattle.bptree_map.proofs.KeyLemmas.{keys_between-is}
use Rattle.bptree_set.proofs.set.BPlusTreeSet.split_off.Goals as goal

pub returns-clause-ok : goal.returns-clause-ok
returns-clause-ok g c =
    let cmp = g.K.Ord.cmp in
    let old = c.self.inside.map in
    let k = c.args.k.now in
    let parts = c.in_ok-map.ensures.ok in
    rw (← c.self.view_is) (ap keys_of parts.0 ∙ keys_between-is cmp old None (Some k), ap keys_of parts.1 ∙ keys_between-is cmp old (Some k) None)
