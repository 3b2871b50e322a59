use Rattle.std.proofs.Common.{◌≡◌, length, Some, subst, arith}
use Rattle.std.proofs.lemmas.List.Sums.{length-filter, count_by-le-length}
use Rattle.std.proofs.lemmas.Map.Entries.{length-keys_of}
use Rattle.std.proofs.lemmas.Result.{IfOk-weaker}
use Rattle.std.specs.List.{filter}
use Rattle.std.specs.Map.{keys_of}
use Rattle.std.specs.Ordering.{is_eq, nat_cmp}
use Rattle.bptree_contract_tests.proofs.Sizes.{size_reported}
use Rattle.bptree_contract_tests.proofs.callers.visits.sizes_a_group.Goals as goal

pub returns-clause-counted : goal.returns-clause-counted
returns-clause-counted g c =
    let keys = keys_of c.args.tree.now.contents in
    let v = c.new.result.group in
    IfOk-weaker c.descend_visit.result _ _
    (λ outcome e. subst (λ h. outcome ≡ Some (length (filter (λ k. is_eq (nat_cmp k.0 h.0)) keys))) c.new.ensures.group
    (size_reported outcome _ _ _ e c.new.ensures.counted (c.laws_of_groups.ensures.size v keys)
    (omega (arith, length-filter (λ k. is_eq (nat_cmp k.0 v.0)) keys, count_by-le-length (λ k. is_eq (nat_cmp k.0 v.0)) keys, length-keys_of c.args.tree.now.contents, c.recall.ensures.fits))))
    c.descend_visit.ensures.outcome
