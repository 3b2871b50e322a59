use Rattle.std.proofs.lemmas.Result.{IfOk-weaker}
use Rattle.bptree_map.specs.Moving.{PutsAll}
use Rattle.bptree_set.proofs.ExtendingLemmas.{keys_put_gathered, too_many_keys}
use Rattle.bptree_set.proofs.set.BPlusTreeSet.extend_from_vec.Goals as goal

pub returns-clause-ok : goal.returns-clause-ok
returns-clause-ok g c =
    let cmp = g.K.Ord.cmp in
    let l = c.self.inside.map in
    let pairs = c.in-Ok.pairs.items in
    IfOk-weaker c.extend_from_vec.result (λ _. PutsAll cmp pairs l c.extend_from_vec.new.self) _
    (λ _ put. rw (← c.self.view_is) (keys_put_gathered cmp pairs l c.args.keys.items c.in-Ok.ensures c.extend_from_vec.new.self put)) c.extend_from_vec.ensures.ok

pub returns-clause-full : goal.returns-clause-full
returns-clause-full g c = λ is.
    rw (← c.self.view_is) (too_many_keys g.K.Ord.cmp c.in-Ok.pairs.items c.self.inside.map c.args.keys.items c.in-Ok.ensures _ (c.extend_from_vec.ensures.full is))
