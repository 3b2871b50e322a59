use Rattle.std.proofs.Common.{◌∙◌, ap, arith, sym}
use mathlib.Core.Bool.{true≢false}
use Rattle.std.specs.Map.Iter.{deref}
use Rattle.bptree_map.specs.Keys.{keys_without}
use Rattle.bptree_set.proofs.MemberLemmas.{none_given, none_where_subset, subset_fits, subset_where_none}
use Rattle.bptree_set.proofs.set.BPlusTreeSet.is_subset.Goals as goal

pub returns : goal.returns
returns g c =
    let given = none_given deref _ _ c.next.result c.is_none.result c.next.ensures.steps c.is_none.ensures in (
      λ none. subset_where_none g.K.Ord.cmp g.met.K.Ord.total c.args.other.now c.args.self.now (sym (ap (λ both. keys_without g.K.Ord.cmp both.0 both.1) c.difference.ensures.rest) ∙ given.0 none),
      λ subset. given.1 (ap (λ both. keys_without g.K.Ord.cmp both.0 both.1) c.difference.ensures.rest ∙ none_where_subset g.K.Ord.cmp g.met.K.Ord.total c.args.other.now c.args.self.now subset),
    )

pub returns-then-len : goal.returns-then-len
returns-then-len g c = (
  λ e. absurd (true≢false (sym e)),
  λ subset. absurd (omega (arith, c.if-len.true, c.len.ensures.value, c.len-2.ensures.value, subset_fits g.K.Ord.cmp g.met.K.Ord.total c.args.self.now c.args.other.now c.len-2.ensures.ascending c.len.ensures.ascending subset)),
)
