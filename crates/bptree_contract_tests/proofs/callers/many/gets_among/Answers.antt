use Rattle.std.proofs.Common.{◌∙◌, ap}
use Rattle.std.specs.Option.{option_copied}
use Rattle.bptree_keys.specs.Contents.{value}
use Rattle.bptree_contract_tests.proofs.ReturnsAt.{same_as}
use Rattle.bptree_contract_tests.proofs.callers.many.gets_among.Goals as goal

pub returns : goal.returns
returns g c = λ k key.
    ap option_copied c.index-found-at.is ∙ same_as option_copied (value g.K.Ord.cmp c.args.map.now) c.get_many.new.found c.args.keys.now c.args.at c.index-found-at.result k c.get_many.ensures key c.requires.at
