use Rattle.std.proofs.Common.{ap}
use Rattle.std.specs.Map.{keys_of}
use Rattle.bptree_map.proofs.KeyLemmas.{empty_keys}
use Rattle.bptree_set.proofs.set.BPlusTreeSet.is_empty.Goals as goal

pub returns : goal.returns
returns g c = rw (← c.self.view_is) (λ empty. ap keys_of (c.is_empty.ensures.0 empty), λ none. c.is_empty.ensures.1 (empty_keys _ none))
