use Rattle.std.proofs.Common.{sym}
use Rattle.bptree_set.proofs.EntryKeys.{no_pairs}
use Rattle.bptree_map.proofs.KeyLemmas.{ok_not_err}
use Rattle.bptree_set.proofs.set.BPlusTreeSet.pop_last.Goals as goal

pub returns-in_err-key-clause-empty : goal.returns-in_err-key-clause-empty
returns-in_err-key-clause-empty g c = rw (← c.self.view_is) (λ none. absurd (ok_not_err _ _ (sym (c.in_err-key.ensures.empty (no_pairs c.self.inside.map none)))))
