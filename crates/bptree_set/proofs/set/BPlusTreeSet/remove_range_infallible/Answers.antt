use Rattle.std.proofs.Common.{◌∙◌, ap, length, sym}
use Rattle.std.proofs.lemmas.Map.Entries.{length-keys_of}
use Rattle.std.specs.Map.{keys_of}
use Rattle.std.specs.Option.{option_copied}
use Rattle.bptree_keys.specs.Ranges.{between}
use Rattle.bptree_map.proofs.KeyLemmas.{keys_between-is, keys_outside-is}
use Rattle.bptree_set.proofs.set.BPlusTreeSet.remove_range_infallible.Goals as goal

pub returns-clause-rest : goal.returns-clause-rest
returns-clause-rest g c = rw (← c.self.view_is) (ap keys_of c.remove_range_infallible.ensures.rest ∙ keys_outside-is g.K.Ord.cmp c.self.inside.map (option_copied c.args.lo) (option_copied c.args.hi))

pub returns-clause-count : goal.returns-clause-count
returns-clause-count g c =
    let old = c.self.inside.map in
    let lo = option_copied c.args.lo in
    let hi = option_copied c.args.hi in
    rw (← c.self.view_is) (c.remove_range_infallible.ensures.count ∙ sym (length-keys_of (between g.K.Ord.cmp old lo hi)) ∙ ap length (keys_between-is g.K.Ord.cmp old lo hi))
