use Rattle.std.proofs.Common.{◌≡◌, ◌++◌, Some, None, take, ap, ◌∙◌}
use Rattle.std.specs.Map.Iter.{deref_pair}
use Rattle.std.proofs.lemmas.List.{map-append}
use Rattle.bptree_keys.specs.Ranges.{between}
use Rattle.bptree_sharded_map.specs.Shown.{shown}
use Rattle.bptree_sharded_map.proofs.Moved.{cut_at_key}
use Rattle.bptree_sharded_map.specs.Whole.{contents}
use Rattle.sweep_bptree_contract_tests.proofs.Cuts.{all_between}
use Rattle.sweep_bptree_contract_tests.proofs.sharded.two_ranges.Goals as goal

pub returns : goal.returns
returns g c =
    let cmp = g.S.K.Ord.cmp in
    let l = contents c.args.whole.now in
    let k = c.args.k.now in
    let low : shown c.in_ok-found.found.items ≡ between cmp l None (Some k) = c.in_ok-found.ensures ∙ ap (λ n. take n (between cmp l None (Some k))) c.len.ensures.value ∙ all_between cmp l None (Some k) in
    let high : shown c.in_ok-rest.rest.items ≡ between cmp l (Some k) None = c.in_ok-rest.ensures ∙ ap (λ n. take n (between cmp l (Some k) None)) c.len-2.ensures.value ∙ all_between cmp l (Some k) None in
    ap shown c.in_ok-append.ensures.items ∙ map-append deref_pair c.in_ok-found.found.items c.in_ok-rest.rest.items
    ∙ ap (λ m. m ++ shown c.in_ok-rest.rest.items) low ∙ ap (λ m. between cmp l None (Some k) ++ m) high ∙ cut_at_key cmp g.met.S.K.Ord.total k l c.len.ensures.ascending
