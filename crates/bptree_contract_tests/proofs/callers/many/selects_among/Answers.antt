use Rattle.std.proofs.Common.{◌∙◌, ap, slice_get}
use Rattle.std.specs.Map.Iter.{deref_pair}
use Rattle.std.specs.Option.{option_map}
use Rattle.bptree_contract_tests.proofs.ReturnsAt.{same_as}
use Rattle.bptree_contract_tests.proofs.callers.many.selects_among.Goals as goal

pub returns : goal.returns
returns g c = λ i index.
    ap (option_map deref_pair) c.index-found-at.is ∙ same_as (option_map deref_pair) (slice_get c.args.map.now) c.get_index_many.new.found c.args.indexes.now c.args.at c.index-found-at.result i c.get_index_many.ensures index c.requires.at
