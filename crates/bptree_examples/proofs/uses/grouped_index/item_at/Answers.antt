use Rattle.std.proofs.Common.{ap}
use Rattle.std.specs.Option.{option_map}
use Rattle.bptree_examples.proofs.GroupItems.{item_reported}
use Rattle.bptree_examples.proofs.uses.grouped_index.item_at.Goals as goal

pub returns-in-Some : goal.returns-in-Some
returns-in-Some c = ap (option_map (λ item. item.number)) (item_reported (record { 0 = c.args.group }) c.args.index c.args.items.now _ (rw c.in-Some.is at c.in_ok-item.ensures.selected))

pub returns-in-None : goal.returns-in-None
returns-in-None c = ap (option_map (λ item. item.number)) (item_reported (record { 0 = c.args.group }) c.args.index c.args.items.now _ (rw c.in-None.is at c.in_ok-item.ensures.selected))
