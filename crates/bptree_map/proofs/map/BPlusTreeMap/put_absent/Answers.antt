use Rattle.std.proofs.Common.{◌∙◌, sym}
use Rattle.std.proofs.lemmas.Cmp.{tied_itself}
use Rattle.bptree_map.proofs.AddingLemmas.{put_if_absent, put_if_there}
use Rattle.bptree_map.proofs.map.BPlusTreeMap.put_absent.Goals as goal

pub returns-then-contains_key-clause-equal : goal.returns-then-contains_key-clause-equal
returns-then-contains_key-clause-equal g c = tied_itself g.met.K.Ord.total c.args.k

pub returns-then-contains_key-clause-ok : goal.returns-then-contains_key-clause-ok
returns-then-contains_key-clause-ok g c =
    (put_if_there (goal.F-post g c.args.f) g.K.Ord.cmp c.args.self.now c.args.k (sym c.contains_key.ensures ∙ c.if-contains_key.true))

pub returns-clause-equal : goal.returns-clause-equal
returns-clause-equal g c = g.met.K.Key.clone_is_equal _ _ c.in-Ok.ensures.cases

pub returns-clause-ok : goal.returns-clause-ok
returns-clause-ok g c =
    (put_if_absent (goal.F-post g c.args.f) g.K.Ord.cmp c.args.self.now c.args.k (sym c.contains_key.ensures ∙ c.if-contains_key.false) c.f-2.result c.f-2.ensures c.insert.new.self c.in_ok-insert.ensures.ok.1)
