use Rattle.std.proofs.Common.{◌∙◌, ap, length, sym}
use Rattle.std.proofs.lemmas.Map.Entries.{length-keys_of}
use Rattle.std.proofs.lemmas.Result.{IfOk-weaker, on_err_weaker}
use Rattle.std.specs.Map.{keys_of}
use Rattle.std.specs.Option.{option_copied}
use Rattle.bptree_keys.specs.Ranges.{between}
use Rattle.bptree_map.proofs.KeyLemmas.{empty_keys, keys_between-is, keys_outside-is}
use Rattle.bptree_set.proofs.set.BPlusTreeSet.remove_range.Goals as goal

pub returns-clause-rest : goal.returns-clause-rest
returns-clause-rest g c = rw (← c.self.view_is) (IfOk-weaker c.remove_range.result _ _ (λ n is. ap keys_of is ∙ keys_outside-is g.K.Ord.cmp c.self.inside.map (option_copied c.args.lo) (option_copied c.args.hi)) c.remove_range.ensures.rest)

pub returns-clause-count : goal.returns-clause-count
returns-clause-count g c =
    let old = c.self.inside.map in
    let lo = option_copied c.args.lo in
    let hi = option_copied c.args.hi in
    rw (← c.self.view_is) (IfOk-weaker c.remove_range.result _ _ (λ n is. is ∙ sym (length-keys_of (between g.K.Ord.cmp old lo hi)) ∙ ap length (keys_between-is g.K.Ord.cmp old lo hi)) c.remove_range.ensures.count)

pub returns-clause-unchanged : goal.returns-clause-unchanged
returns-clause-unchanged g c = rw (← c.self.view_is) (on_err_weaker c.remove_range.result (ap keys_of) c.remove_range.ensures.unchanged)

pub returns-clause-empty : goal.returns-clause-empty
returns-clause-empty g c =
    let old = c.self.inside.map in
    rw (← c.self.view_is) (λ none.
    let kept = c.remove_range.ensures.empty (empty_keys _ (keys_between-is g.K.Ord.cmp old (option_copied c.args.lo) (option_copied c.args.hi) ∙ none)) in
    (kept.0, ap keys_of kept.1))
