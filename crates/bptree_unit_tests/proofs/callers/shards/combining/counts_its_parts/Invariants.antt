use Rattle.std.proofs.Common.{◌≡◌, take}
use Rattle.std.specs.List.{sum_by}
use Rattle.bptree_shard_routing.specs.declared.combining.Part.{Part}
use Rattle.bptree_unit_tests.proofs.callers.shards.combining.counts_its_parts.Given as goal

abbrev pub invariant-loop-part : goal.invariant-loop-part
invariant-loop-part l = l.count ≡ sum_by (λ (p : Part). p.count) (take l.part-index l.part-items)
