use Rattle.std.proofs.Common.{◌<◌, ◌^◌, [], ◌++◌, length, arith, append-nil}
use Rattle.std.specs.List.Sorted.{IsStrictlySortedBy}
use Rattle.bptree_arguments.proofs.RankLemmas.{IsSlotOf-in}
use Rattle.bptree_unit_tests.proofs.GroupItems.{rank_present, rank_absent}
use Rattle.bptree_unit_tests.proofs.callers.group_results.ranks_in_a_leaf.Goals as goal

pub fold_leaf-requires-clause-slot : goal.fold_leaf-requires-clause-slot
fold_leaf-requires-clause-slot g c = IsSlotOf-in g.K.Ord.cmp c.args.k.now c.args.keys.now c.args.slot c.requires.placed

pub returns : goal.returns
returns g c =
    let k = c.args.k.now in
    let keys = c.args.keys.now in
    let sorted : IsStrictlySortedBy g.K.Ord.cmp (keys ++ []) = rw (append-nil keys) c.requires.ascending in
    let fits : length (keys ++ []) < 2 ^ 64 = rw (append-nil keys) (omega (arith, c.requires.few)) in
    let ranked = rw (append-nil keys) at (c.in_ok-outcome.ensures.ranked c.requires.placed [] [] sorted tt tt fits (c.initial_value-start.ensures.stored k)) in
    record {
      present = rank_present g.K.Ord.cmp g.G.Ord.cmp g.G.FromRef.group_of k keys c.args.slot c.in_ok-outcome.outcome c.in_ok-outcome.ensures.variant ranked;
      absent = rank_absent g.K.Ord.cmp g.G.Ord.cmp g.G.FromRef.group_of k keys c.args.slot c.in_ok-outcome.outcome c.in_ok-outcome.ensures.variant ranked;
    }
