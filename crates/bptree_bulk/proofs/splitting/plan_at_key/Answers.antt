use Rattle.std.proofs.Common.{◌≡◌, ◌∙◌, ◌<◌, None, Some, ap, arith, length, sym}
use Rattle.std.proofs.lemmas.List.{length-drop}
use Rattle.bptree_bulk.specs.Positions.{index_of_position}
use Rattle.bptree_bulk.proofs.KeyCuts.{all_below, none_below, some_below}
use Rattle.bptree_keys.specs.Ranges.{between}
use Rattle.bptree_ranges.proofs.Ranged.{reached}
use Rattle.bptree_invariant.specs.Shape.{leaf_pairs, pairs_at}
use Rattle.bptree_bulk.proofs.splitting.plan_at_key.Given.{Over}
use Rattle.bptree_bulk.proofs.splitting.plan_at_key.Goals.{After-len, After-settled-at}
use Rattle.bptree_bulk.proofs.splitting.plan_at_key.Goals as goal

-- as many pairs are before the position as have a key below the given one
below : (g : Over) (c : After-settled-at g) → index_of_position g.S.NodeStore.slots c.args.tree.now c.settled-at.result ≡ length (between g.S.K.Ord.cmp c.args.tree.now.contents None (Some c.args.k.now))
below g c = c.settled-at.ensures.same ∙ (c.index_of_bound.ensures.before ∙ ap (λ l. length (between g.S.K.Ord.cmp l None (Some c.args.k.now))) (sym c.recall.ensures.whole.contents))

-- the number of pairs in the position's leaf
here : (g : Over) (c : After-len g) → c.len.result ≡ length (leaf_pairs ((g.S.NodeStore.slots c.args.tree.now.store).leaf c.settled-at.result.leaf.0))
here g c =
    let same : c.tree.inside.store ≡ c.args.tree.now.store = ap (λ t. t.store) c.tree.view_is in
    c.len.ensures.value ∙ ap (λ l. length (leaf_pairs l)) (sym (rw same at c.get_leaf.ensures))

-- a pair is at the position if its leaf has a pair there
inside : (g : Over) (c : After-len g) → (c.len.result ≡ c.settled-at.result.slot → ⊥) → index_of_position g.S.NodeStore.slots c.args.tree.now c.settled-at.result < length c.args.tree.now.contents
inside g c more =
    let tree = c.args.tree.now in
    let ends = reached g.S.Argument.Argument.is_summary (g.S.NodeStore.slots tree.store) tree.height tree.root c.recall.ensures.whole.shape c.settled-at.result.leaf c.settled-at.ensures.on.stored in
    omega (arith, ends, here g c, more, c.settled-at.ensures.on.within, ap length c.recall.ensures.whole.contents)

pub returns-then-at-len : goal.returns-then-at-len
returns-then-at-len g c =
    let at = goal.at.returns-then-at-len g c in
    let tree = c.args.tree.now in
    let past : index_of_position g.S.NodeStore.slots tree c.settled-at.result < length (pairs_at (g.S.NodeStore.slots tree.store) tree.height tree.root) → ⊥ = λ less. omega (arith, c.settled-at.ensures.pair (omega (arith, less, c.settled-at.ensures.same)), here g at.After-len, c.if-at-len.true) in
    all_below g.met.S.K.Ord.total c.args.k.now tree.contents c.recall.ensures.ascending (omega (arith, past, below g at.After-settled-at, ap length c.recall.ensures.whole.contents))

pub returns-then-is_start : goal.returns-then-is_start
returns-then-is_start g c = none_below g.met.S.K.Ord.total c.args.k.now c.args.tree.now.contents c.recall.ensures.ascending (sym (below g (goal.at.returns-then-is_start g c).After-settled-at) ∙ c.is_start.ensures.0 c.if-is_start.true)

pub plan_split-requires-clause-last : goal.plan_split-requires-clause-last
plan_split-requires-clause-last g c = inside g (goal.at.plan_split-requires-clause-last g c).After-len (λ last. c.if-at-len.false (sym last))

pub returns : goal.returns
returns g c =
    let n = index_of_position g.S.NodeStore.slots c.args.tree.now c.settled-at.result in
    (n, c.in_ok-split.ensures, some_below g.met.S.K.Ord.total c.args.k.now c.args.tree.now.contents c.recall.ensures.ascending n (below g (goal.at.returns g c).After-settled-at))

pub plan_tail-requires-clause-some : goal.plan_tail-requires-clause-some
plan_tail-requires-clause-some g c = omega (arith, c.in-Some.ensures.count, inside g (goal.at.plan_tail-requires-clause-some g c).After-len (λ last. c.if-at-len.false (sym last)))

pub returns-in-Some : goal.returns-in-Some
returns-in-Some g c =
    let all = c.args.tree.now.contents in
    let n = index_of_position g.S.NodeStore.slots c.args.tree.now c.settled-at.result in
    let tail = c.in_ok-tail.ensures in (
      n,
      record {
        sum = omega (arith, tail.tail.count, length-drop n all, c.in-Some.ensures.count);
        moves = tail.tail;
        room = tail.room;
        infallible = c.in-Some.ensures.infallible;
      },
      some_below g.met.S.K.Ord.total c.args.k.now all c.recall.ensures.ascending n (below g (goal.at.returns-in-Some g c).After-settled-at),
    )
