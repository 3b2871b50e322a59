use Rattle.std.proofs.Common.{refl, sym, Ok, Err}
use Rattle.bptree_keys.proofs.Found.{gap_at}
use Rattle.bptree_nodes.proofs.LeafContents.{shown_at, value_of_pair, index_is_below}
use Rattle.bptree_keys.proofs.Parted.{value_gap}
use Rattle.bptree_nodes.proofs.leaf_node.LeafNode.locate_slot_with_value_counted.Goals as goal

pub returns-in-Ok-clause-contents : goal.returns-in-Ok-clause-contents
returns-in-Ok-clause-contents g c = λ ascending.
    let cmp = g.K.Ord.cmp in
    let total = g.met.K.Ord.total in
    let l = c.args.self.now.pairs in
    let k = c.args.key.now in
    let found = c.in-Ok.ensures.found in
    (index_is_below cmp total l ascending k c.in-Ok.slot found, sym (value_of_pair cmp total l ascending k c.in-Ok.slot _ found c.data_at.ensures.value))

pub returns-in-Err-clause-contents : goal.returns-in-Err-clause-contents
returns-in-Err-clause-contents g c = λ ascending.
    let l = c.args.self.now.pairs in
    let index = c.in-Err.ensures.index ascending in
    let gap = gap_at g.K.Ord.cmp g.met.K.Ord.total l ascending c.args.key.now c.in-Err.slot index.0 index.1 in
    (index.1, sym (value_gap g.K.Ord.cmp l _ _ c.args.key.now gap.1))

pub returns-in-Ok-clause-index : goal.returns-in-Ok-clause-index
returns-in-Ok-clause-index g c =
    let shown = shown_at c.args.self.now.pairs c.in-Ok.slot _ _ c.data_at.ensures.value c.in-Ok.ensures.in_range in
    (Ok c.in-Ok.slot, c.in-Ok.ensures.found, (refl, shown.0, shown.1))

pub returns-in-Ok-clause-ascending : goal.returns-in-Ok-clause-ascending
returns-in-Ok-clause-ascending g c = λ ascending.
    let shown = shown_at c.args.self.now.pairs c.in-Ok.slot _ _ c.data_at.ensures.value c.in-Ok.ensures.in_range in
    rw (← c.in-Ok.ensures.ascending ascending) (refl, shown.0, shown.1)

pub returns-in-Err-clause-index : goal.returns-in-Err-clause-index
returns-in-Err-clause-index g c = (Err c.in-Err.slot, c.in-Err.ensures.in_range, (refl, refl))

pub returns-in-Err-clause-ascending : goal.returns-in-Err-clause-ascending
returns-in-Err-clause-ascending g c = λ ascending. rw (← c.in-Err.ensures.ascending ascending) (refl, refl)

pub data_at-requires : goal.data_at-requires
data_at-requires g c = c.in-Ok.ensures.in_range
