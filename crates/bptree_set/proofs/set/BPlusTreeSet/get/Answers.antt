use Rattle.std.proofs.Common.{◌∙◌, ap}
use Rattle.bptree_set.proofs.EntryKeys.{key_of, entry_key}
use Rattle.bptree_set.proofs.set.BPlusTreeSet.get.Goals as goal

pub returns-in-Some : goal.returns-in-Some
returns-in-Some g c = rw (← c.self.view_is) (ap key_of c.in-Some.ensures ∙ entry_key g.K.Ord.cmp c.self.inside.map c.args.k.now)

pub returns-in-None : goal.returns-in-None
returns-in-None g c = rw (← c.self.view_is) (ap key_of c.in-None.ensures ∙ entry_key g.K.Ord.cmp c.self.inside.map c.args.k.now)
