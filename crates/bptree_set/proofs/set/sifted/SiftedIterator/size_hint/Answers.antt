use Rattle.std.proofs.Common.{◌≡◌, arith, length}
use Rattle.bptree_set.proofs.SiftLemmas.{sifted_bounds, walked_bounds}
use Rattle.bptree_set.proofs.set.sifted.SiftedIterator.size_hint.Goals as goal

pub returns-in-Seek-clause-lower : goal.returns-in-Seek-clause-lower
returns-in-Seek-clause-lower g c = rw (← c.self.view_is, c.in-Seek.is) (sifted_bounds g.K.Ord.cmp g.W.SetOp.keeps g.met.K.Ord.total c.in-Seek.keys c.self.inside.other.now (rw c.in-Seek.is at c.self.invariant) c.len-in-Seek.ensures.ascending _ _ _ c.len.ensures.value c.len-in-Seek.ensures.value c.hint.ensures.bounds).0

pub returns-in-Seek-clause-upper : goal.returns-in-Seek-clause-upper
returns-in-Seek-clause-upper g c = rw (← c.self.view_is, c.in-Seek.is) (sifted_bounds g.K.Ord.cmp g.W.SetOp.keeps g.met.K.Ord.total c.in-Seek.keys c.self.inside.other.now (rw c.in-Seek.is at c.self.invariant) c.len-in-Seek.ensures.ascending _ _ _ c.len.ensures.value c.len-in-Seek.ensures.value c.hint.ensures.bounds).1

pub returns-in-Seek-clause-exact : goal.returns-in-Seek-clause-exact
returns-in-Seek-clause-exact g c = rw (← c.self.view_is, c.in-Seek.is, ← c.len.ensures.value, ← c.len-in-Seek.ensures.value) c.hint.ensures.exact

pub returns-in-Fetch-clause-lower : goal.returns-in-Fetch-clause-lower
returns-in-Fetch-clause-lower g c =
    let sound = rw c.in-Fetch.is at c.self.invariant in
    rw (← c.self.view_is, c.in-Fetch.is) (sifted_bounds g.K.Ord.cmp g.W.SetOp.keeps g.met.K.Ord.total c.self.inside.other.now c.in-Fetch.keys sound.1 sound.0 _ _ _ c.len-in-Fetch.ensures.value c.len-in-Fetch-2.ensures.value c.hint-in-Fetch.ensures.bounds).0

pub returns-in-Fetch-clause-upper : goal.returns-in-Fetch-clause-upper
returns-in-Fetch-clause-upper g c =
    let sound = rw c.in-Fetch.is at c.self.invariant in
    rw (← c.self.view_is, c.in-Fetch.is) (sifted_bounds g.K.Ord.cmp g.W.SetOp.keeps g.met.K.Ord.total c.self.inside.other.now c.in-Fetch.keys sound.1 sound.0 _ _ _ c.len-in-Fetch.ensures.value c.len-in-Fetch-2.ensures.value c.hint-in-Fetch.ensures.bounds).1

pub returns-in-Fetch-clause-exact : goal.returns-in-Fetch-clause-exact
returns-in-Fetch-clause-exact g c = rw (← c.self.view_is, c.in-Fetch.is, ← c.len-in-Fetch.ensures.value, ← c.len-in-Fetch-2.ensures.value) c.hint-in-Fetch.ensures.exact

pub returns-in-Walk-clause-lower : goal.returns-in-Walk-clause-lower
returns-in-Walk-clause-lower g c = rw (← c.self.view_is, c.in-Walk.is) (walked_bounds g.K.Ord.cmp g.W.SetOp.keeps g.met.K.Ord.total c.in-Walk.sides (rw c.in-Walk.is at c.self.invariant) _ _ _ c.lens.ensures.first c.lens.ensures.second c.hint-in-Walk.ensures.bounds).0

pub returns-in-Walk-clause-upper : goal.returns-in-Walk-clause-upper
returns-in-Walk-clause-upper g c = rw (← c.self.view_is, c.in-Walk.is) (walked_bounds g.K.Ord.cmp g.W.SetOp.keeps g.met.K.Ord.total c.in-Walk.sides (rw c.in-Walk.is at c.self.invariant) _ _ _ c.lens.ensures.first c.lens.ensures.second c.hint-in-Walk.ensures.bounds).1

pub returns-in-Walk-clause-exact : goal.returns-in-Walk-clause-exact
returns-in-Walk-clause-exact g c =
    let sides = rw c.in-Walk.is at c.self.invariant in
    let first : length c.in-Walk.sides.0 ≡ c.lens.result.0 = omega (arith, sides.2, c.lens.ensures.first) in
    let second : length c.in-Walk.sides.1 ≡ c.lens.result.1 = omega (arith, sides.3, c.lens.ensures.second) in
    rw (← c.self.view_is, c.in-Walk.is, first, second) c.hint-in-Walk.ensures.exact
