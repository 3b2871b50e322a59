use Rattle.std.proofs.lemmas.Map.Entries.{length-keys_of}
use Rattle.bptree_rebalancing.proofs.rotate_merge.resummarize_leaf.Goals as goal

pub returns-in-Ok-clause-merges : goal.returns-in-Ok-clause-merges
returns-in-Ok-clause-merges g c =
    record { both = c.in_ok-both.both; is = c.in-Ok.ensures.after; summary = c.in-Ok.ensures.old; reported_both = rw length-keys_of at (rw c.keys.ensures.value at c.in_ok-both.ensures.summary) }
