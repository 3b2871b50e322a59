use Rattle.bptree_set.proofs.SiftLemmas.{fetched_takes, sifted_goes}
use Rattle.bptree_set.proofs.set.sifted.SiftedIterator.next.Goals as goal
use Rattle.bptree_set.proofs.set.sifted.SiftedIterator.next.Goals.{in-Seek, in-Fetch, in-Walk}

pub returns-clause-steps : goal.returns-clause-steps
returns-clause-steps g c =
    elim c.match-self.branch [
      | in-Seek w ↦ rw (w.result-is, w.self-inside-is, ← c.self.view_is, w.in-Seek.is) w.seek.ensures.takes
      | in-Fetch w ↦ (
          let sound = rw w.in-Fetch.is at c.self.invariant in
          rw (w.result-is, w.self-inside-is, ← c.self.view_is, w.in-Fetch.is) (fetched_takes g.K.Ord.cmp g.W.SetOp.keeps g.met.K.Ord.total sound.2 _ _ _ _ sound.1 sound.0 w.fetch.ensures.ascending w.fetch.ensures.takes)
          )
      | in-Walk w ↦ rw (w.result-is, w.self-inside-is, ← c.self.view_is, w.in-Walk.is) w.walk.ensures.takes
    ]

pub returns-clause-goes : goal.returns-clause-goes
returns-clause-goes g c = sifted_goes g.K.Ord.cmp g.W.SetOp.keeps _ _ _ (returns-clause-steps g c)
