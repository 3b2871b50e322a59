use Rattle.std.proofs.Common.{◌∙◌, rules, sym}
use Rattle.std.specs.Map.Iter.{deref}
use Rattle.bptree_set.proofs.WalkLemmas.{some_not_none, still_sides, walk_ends, walk_gives, walk_passes, walk_shortens, walk_skips}
use Rattle.bptree_set.proofs.set.sifted.walk.Goals as goal

pub returns-then-is_kept-clause-sides : goal.returns-then-is_kept-clause-sides
returns-then-is_kept-clause-sides g c = still_sides g.K.Ord.cmp g.W.SetOp.keeps g.met.K.Ord.total deref c.loop-key.sides c.nexts.new.self c.loop-key.invariant.0 _ _ (c.nexts.ensures.order g.K.Ord.cmp (λ x y o h. search rules))

pub returns-then-is_kept-clause-takes : goal.returns-then-is_kept-clause-takes
returns-then-is_kept-clause-takes g c = walk_gives g.K.Ord.cmp g.W.SetOp.keeps g.met.K.Ord.total deref c.loop-key.sides c.nexts.new.self c.loop-key.invariant.0 _ _ (c.nexts.ensures.order g.K.Ord.cmp (λ x y o h. search rules)) _ c.loop-key.invariant.1 c.in-Some-default.key _ c.in-Some-default.is-0 c.is_some.ensures (sym c.if-is_kept.true ∙ c.is_kept.ensures)

pub loop-key-smaller-else-is_kept : goal.loop-key-smaller-else-is_kept
loop-key-smaller-else-is_kept g c = walk_shortens g.K.Ord.cmp g.W.SetOp.keeps g.met.K.Ord.total deref c.loop-key.sides c.nexts.new.self c.loop-key.invariant.0 _ _ (c.nexts.ensures.order g.K.Ord.cmp (λ x y o h. search rules)) (λ none _. some_not_none _ _ c.in-Some-default.is-0 none)

pub loop-key-preserved-else-is_kept : goal.loop-key-preserved-else-is_kept
loop-key-preserved-else-is_kept g c = walk_passes g.K.Ord.cmp g.W.SetOp.keeps g.met.K.Ord.total deref c.loop-key.sides c.nexts.new.self c.loop-key.invariant.0 _ _ (c.nexts.ensures.order g.K.Ord.cmp (λ x y o h. search rules)) _ c.loop-key.invariant.1 c.in-Some-default.key _ c.in-Some-default.is-0 c.is_some.ensures (sym c.if-is_kept.false ∙ c.is_kept.ensures)

pub loop-key-smaller : goal.loop-key-smaller
loop-key-smaller g c = walk_shortens g.K.Ord.cmp g.W.SetOp.keeps g.met.K.Ord.total deref c.loop-key.sides c.nexts.new.self c.loop-key.invariant.0 _ _ (c.nexts.ensures.order g.K.Ord.cmp (λ x y o h. search rules)) (λ _ none. some_not_none _ _ c.in-None-Some.is-1 none)

pub loop-key-preserved : goal.loop-key-preserved
loop-key-preserved g c = walk_skips g.K.Ord.cmp g.W.SetOp.keeps g.met.K.Ord.total deref c.loop-key.sides c.nexts.new.self c.loop-key.invariant.0 _ _ (c.nexts.ensures.order g.K.Ord.cmp (λ x y o h. search rules)) _ c.loop-key.invariant.1 c.in-None-Some.field-0-1 c.in-None-Some.is-0 c.in-None-Some.is-1

pub returns-in-None-None-clause-sides : goal.returns-in-None-None-clause-sides
returns-in-None-None-clause-sides g c = still_sides g.K.Ord.cmp g.W.SetOp.keeps g.met.K.Ord.total deref c.loop-key.sides c.nexts.new.self c.loop-key.invariant.0 _ _ (c.nexts.ensures.order g.K.Ord.cmp (λ x y o h. search rules))

pub returns-in-None-None-clause-takes : goal.returns-in-None-None-clause-takes
returns-in-None-None-clause-takes g c = walk_ends g.K.Ord.cmp g.W.SetOp.keeps g.met.K.Ord.total deref c.loop-key.sides c.nexts.new.self c.loop-key.invariant.0 _ _ (c.nexts.ensures.order g.K.Ord.cmp (λ x y o h. search rules)) _ c.loop-key.invariant.1 c.in-None-None.is-0 c.in-None-None.is-1
