use Rattle.std.proofs.Common.{rules, arith, ◌==◌}
use Rattle.std.proofs.lemmas.Iterator.{items_from_collect}
use Rattle.std.proofs.lemmas.Iterator.Adapters.{YieldsList-from_vec}
use Rattle.bptree_load_plan.proofs.GivenLemmas.{GivesAll-from_chain, chain_from_GivesAll}
use Rattle.bptree_unit_tests.proofs.callers.dedup.collects_the_last_numbers.Goals as goal

pub returns : goal.returns
returns c =
    let source = GivesAll-from_chain (YieldsList-from_vec c.args.numbers.items c.into_iter.ensures.rest (omega (arith, c.into_iter.ensures.len))) in
    let given = c.dedup_keep_last.ensures.items (λ x y. x == y) c.args.numbers.items (λ x y r f called. search rules) source in
    items_from_collect c.collect.result c.collect.ensures.ran (chain_from_GivesAll given)
