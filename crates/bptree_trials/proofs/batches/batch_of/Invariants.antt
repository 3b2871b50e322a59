use Rattle.std.proofs.Common.{vec_len, ◌-◌, ◌≤◌}
use Rattle.bptree_trials.proofs.batches.batch_of.Given as goal

abbrev pub invariant-keys : goal.invariant-keys
invariant-keys g l = record { within : vec_len l.keys ≤ l.many }

abbrev pub decreases-keys : goal.decreases-keys
decreases-keys g l = l.many - vec_len l.keys
