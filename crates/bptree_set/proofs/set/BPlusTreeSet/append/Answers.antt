use Rattle.std.proofs.Common.{◌∙◌, ap}
use Rattle.std.proofs.lemmas.Result.{IfOk-weaker}
use Rattle.std.specs.Map.{keys_of}
use Rattle.bptree_bulk.specs.Weave.{put_pair}
use Rattle.bptree_map.specs.Moving.{AllMove}
use Rattle.bptree_map.proofs.MovingLemmas.{keys_put_all}
use Rattle.bptree_set.proofs.set.BPlusTreeSet.append.Goals as goal

pub returns-clause-ok : goal.returns-clause-ok
returns-clause-ok g c =
    let cmp = g.K.Ord.cmp in
    let l = c.self.inside.map in
    let m = c.other.inside.map in
    IfOk-weaker c.append.result (λ _. AllMove (put_pair cmp) l m c.append.new.self c.append.new.other) _
    (λ _ ok. rw (← c.self.view_is, ← c.other.view_is) (ap keys_of ok.0 ∙ keys_put_all cmp l m, ap keys_of ok.1)) c.append.ensures.ok
