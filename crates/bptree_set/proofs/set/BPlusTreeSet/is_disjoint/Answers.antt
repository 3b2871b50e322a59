use Rattle.std.proofs.Common.{◌∙◌, ap, sym}
use Rattle.std.specs.Map.Iter.{deref}
use Rattle.bptree_map.specs.Keys.{keys_within}
use Rattle.bptree_set.proofs.MemberLemmas.{disjoint_where_none, none_given, none_where_disjoint}
use Rattle.bptree_set.proofs.set.BPlusTreeSet.is_disjoint.Goals as goal

pub returns : goal.returns
returns g c =
    let given = none_given deref _ _ c.next.result c.is_none.result c.next.ensures.steps c.is_none.ensures in (
      λ none. disjoint_where_none g.K.Ord.cmp g.met.K.Ord.total c.args.other.now c.args.self.now (sym (ap (λ both. keys_within g.K.Ord.cmp both.0 both.1) c.intersection.ensures.rest) ∙ given.0 none),
      λ disjoint. given.1 (ap (λ both. keys_within g.K.Ord.cmp both.0 both.1) c.intersection.ensures.rest ∙ none_where_disjoint g.K.Ord.cmp g.met.K.Ord.total c.args.other.now c.args.self.now disjoint),
    )
