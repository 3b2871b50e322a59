use Rattle.std.proofs.Common.{refl}
use Rattle.std.proofs.lemmas.Result.{IfOk-weaker}
use Rattle.std.specs.Map.{keys_of}
use Rattle.bptree_map.specs.Moving.{PutsAll}
use Rattle.bptree_set.proofs.ExtendingLemmas.{keys_put_gathered, too_many_cloned, too_many_keys}
use Rattle.bptree_set.proofs.set.BPlusTreeSet.extend_from_slice.Goals as goal

-- the clones are the keys of the pairs
pub returns-clause-ok : goal.returns-clause-ok
returns-clause-ok g c =
    let cmp = g.K.Ord.cmp in
    let l = c.self.inside.map in
    let pairs = c.in-Ok.pairs.items in
    IfOk-weaker c.extend_from_vec.result (λ _. PutsAll cmp pairs l c.extend_from_vec.new.self) _
    (λ _ put. rw (← c.self.view_is) (keys_of pairs, c.in-Ok.ensures, keys_put_gathered cmp pairs l (keys_of pairs) refl c.extend_from_vec.new.self put)) c.extend_from_vec.ensures.ok

pub returns-clause-full : goal.returns-clause-full
returns-clause-full g c = λ is.
    let pairs = c.in-Ok.pairs.items in
    let l = c.self.inside.map in
    let many = too_many_keys g.K.Ord.cmp pairs l (keys_of pairs) refl _ (c.extend_from_vec.ensures.full is) in
    rw (← c.self.view_is) (too_many_cloned g.met.K.Ord.total g.K.Clone.is_clone g.met.K.Key.clone_is_equal c.args.keys.now (keys_of pairs) (keys_of l) c.in-Ok.ensures _ many)
