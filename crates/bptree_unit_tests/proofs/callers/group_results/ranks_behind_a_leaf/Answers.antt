use Rattle.std.proofs.Common.{◌<◌, ◌^◌, [], ◌∷◌, ◌++◌, length, arith, append-nil, length-append}
use Rattle.std.specs.List.Sorted.{IsStrictlySortedBy}
use Rattle.bptree_keys.proofs.PieceLemmas.{sorted_left}
use Rattle.bptree_arguments.specs.Ranks.{AllBelow}
use Rattle.bptree_arguments.proofs.RankLemmas.{IsSlotOf-in}
use Rattle.bptree_unit_tests.proofs.GroupItems.{either_in_words}
use Rattle.bptree_unit_tests.proofs.callers.group_results.ranks_behind_a_leaf.Goals as goal

pub fold_leaf-requires-clause-slot : goal.fold_leaf-requires-clause-slot
fold_leaf-requires-clause-slot g c = IsSlotOf-in g.K.Ord.cmp c.args.k.now c.args.keys.now c.args.slot c.requires.placed

pub returns : goal.returns
returns g c =
    let k = c.args.k.now in
    let before = c.args.before.now in
    let keys = c.args.keys.now in
    let sorted : IsStrictlySortedBy g.K.Ord.cmp (before ++ []) = rw (append-nil before) (sorted_left g.K.Ord.cmp before keys c.requires.ascending) in
    let below : AllBelow g.K.Ord.cmp k (before ++ []) = rw (append-nil before) c.requires.below in
    let few : length (before ++ []) < 2 ^ 64 = rw (append-nil before) (omega (arith, length-append before keys, c.requires.fits)) in
    let stored = rw (append-nil before) at (c.in_ok-rank.ensures.carries [] (before ∷ []) (c.requires.nonempty, tt) c.requires.summaries sorted below few (c.initial_value-start.ensures.stored k)) in
    let all_sorted : IsStrictlySortedBy g.K.Ord.cmp (before ++ (keys ++ [])) = rw (append-nil keys) c.requires.ascending in
    let all_fit : length (before ++ (keys ++ [])) < 2 ^ 64 = rw (append-nil keys) c.requires.fits in
    either_in_words g.K.Ord.cmp g.G.Ord.cmp g.G.FromRef.group_of k (before ++ keys) c.in_ok-outcome.outcome (rw (append-nil keys) at (c.in_ok-outcome.ensures.ranked c.requires.placed before [] all_sorted c.requires.below tt all_fit stored))
