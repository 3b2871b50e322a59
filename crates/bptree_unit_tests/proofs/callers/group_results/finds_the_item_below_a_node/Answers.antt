use Rattle.std.proofs.Common.{◌<◌, [], ◌∷◌, ◌++◌, length, arith}
use Rattle.bptree_keys.proofs.PieceLemmas.{sorted_left, sorted_right}
use Rattle.bptree_unit_tests.proofs.GroupItems.{none_below, item_in_first, item_in_second}
use Rattle.bptree_unit_tests.proofs.callers.group_results.finds_the_item_below_a_node.Goals as goal

pub returns-in-None : goal.returns-in-None
returns-in-None g c =
    let leads = rw c.in-None.is at (c.in_ok-locate_in_inner.ensures.leads (c.args.left.now ∷ c.args.right.now ∷ []) c.requires.pieces c.requires.summaries) in
    none_below g.G.Ord.cmp g.G.FromRef.group_of c.args.group c.args.index c.args.left.now c.args.right.now leads

pub returns-then-child-eq0 : goal.returns-then-child-eq0
returns-then-child-eq0 g c =
    let leads = rw c.in-Some.is at (c.in_ok-locate_in_inner.ensures.leads (c.args.left.now ∷ c.args.right.now ∷ []) c.requires.pieces c.requires.summaries) in
    let sorted = sorted_left g.K.Ord.cmp c.args.left.now (c.args.right.now ++ []) c.requires.pieces.ascending in
    item_in_first g.G.Ord.cmp g.G.FromRef.group_of c.args.group c.args.index c.args.left.now c.args.right.now c.in-Some.child c.in-Some.rest leads c.in_ok-found-in-Some.found c.if-child-eq0.true c.in_ok-found-in-Some.ensures.in_range (c.in_ok-found-in-Some.ensures.selected sorted)

pub returns-in-None-2 : goal.returns-in-None-2
returns-in-None-2 g c =
    let leads = rw c.in-Some.is at (c.in_ok-locate_in_inner.ensures.leads (c.args.left.now ∷ c.args.right.now ∷ []) c.requires.pieces c.requires.summaries) in
    let sorted = sorted_left g.K.Ord.cmp c.args.right.now [] (sorted_right g.K.Ord.cmp c.args.left.now (c.args.right.now ++ []) c.requires.pieces.ascending) in
    let from = c.in_ok-locate_in_leaf-in-Some in
    rw c.in-None-2.is at (item_in_second g.G.Ord.cmp g.G.FromRef.group_of c.args.group c.args.index c.args.left.now c.args.right.now c.in-Some.child c.in-Some.rest leads from.field-0 c.if-child-eq0.false from.ensures.in_range (from.ensures.selected sorted))

pub returns-in-Some-2 : goal.returns-in-Some-2
returns-in-Some-2 g c =
    let leads = rw c.in-Some.is at (c.in_ok-locate_in_inner.ensures.leads (c.args.left.now ∷ c.args.right.now ∷ []) c.requires.pieces c.requires.summaries) in
    let sorted = sorted_left g.K.Ord.cmp c.args.right.now [] (sorted_right g.K.Ord.cmp c.args.left.now (c.args.right.now ++ []) c.requires.pieces.ascending) in
    let from = c.in_ok-locate_in_leaf-in-Some in
    rw c.in-Some-2.is at (item_in_second g.G.Ord.cmp g.G.FromRef.group_of c.args.group c.args.index c.args.left.now c.args.right.now c.in-Some.child c.in-Some.rest leads from.field-0 c.if-child-eq0.false from.ensures.in_range (from.ensures.selected sorted))

pub overflow_add-result : goal.overflow_add-result
overflow_add-result g c =
    let inside : c.in-Some-2.i < length c.args.right.now = rw c.in-Some-2.is at c.in_ok-locate_in_leaf-in-Some.ensures.in_range in
    omega (arith, inside, c.requires.few, c.requires.few_too)
