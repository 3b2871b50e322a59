use Rattle.bptree_set.proofs.ReplaceLemmas.{replaces_absent, replaces_one}
use Rattle.bptree_set.proofs.set.BPlusTreeSet.replace.Goals as goal

pub returns-in-Ok-clause-ok : goal.returns-in-Ok-clause-ok
returns-in-Ok-clause-ok g c = rw (← c.self.view_is) (replaces_one g.K.Ord.cmp c.args.k c.in-Ok.old c.self.inside.map c.replace_key.new.self c.in-Ok.ensures.ok)

pub returns-in-Ok-insert-clause-ok : goal.returns-in-Ok-insert-clause-ok
returns-in-Ok-insert-clause-ok g c =
    rw (← c.self.view_is)
    (replaces_absent g.K.Ord.cmp c.args.k c.in-Err-Absent.k c.self.inside.map c.replace_key.new.self c.in-Err-Absent.field-0 c.in-Err-Absent.field-0-is c.in-Err-Absent.ensures.err c.in-Err-Absent.ensures.kind c.insert.new.self c.in-Ok-insert.ensures.ok.1)
