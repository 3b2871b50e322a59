use Rattle.std.proofs.Common.{◌≡◌, ◌++◌, length}
use Rattle.bptree_c_maps.specs.DictPages.{dict_pairs_of}
use Rattle.bptree_c_maps.proofs.dict_load.copies.Given as goal

abbrev pub invariant-loop-record : goal.invariant-loop-record
invariant-loop-record l = dict_pairs_of l.fn.bytes l.fn.given ≡ l.copied.items ++ dict_pairs_of l.left l.rest

abbrev pub decreases-loop-record : goal.decreases-loop-record
decreases-loop-record l = length l.rest
