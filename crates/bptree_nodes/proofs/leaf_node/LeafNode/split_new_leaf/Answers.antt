use Rattle.std.proofs.Common.{refl, ap}
use Rattle.std.proofs.lemmas.List.{take-append-drop}
use Rattle.bptree_nodes.proofs.leaf_node.LeafNode.split_new_leaf.Goals as goal

pub insert_and_split-right-requires-clause-full : goal.insert_and_split-right-requires-clause-full
insert_and_split-right-requires-clause-full g c = c.requires.full

pub insert_and_split-right-requires-clause-within : goal.insert_and_split-right-requires-clause-within
insert_and_split-right-requires-clause-within g c = c.requires.within

pub insert_and_split-right-requires-clause-empty : goal.insert_and_split-right-requires-clause-empty
insert_and_split-right-requires-clause-empty g c = c.requires.empty

pub returns-clause-left : goal.returns-clause-left
returns-clause-left g c = rw (c.set_next-2.ensures, c.insert_and_split-right.ensures.left) refl

pub returns-clause-right : goal.returns-clause-right
returns-clause-right g c =
    rw (c.set_next.ensures, c.deref_mut-2.ensures.value, c.set_prev.ensures, c.deref_mut.ensures.value, c.insert_and_split-right.ensures.right, c.next-next.ensures) refl

pub returns-clause-parts : goal.returns-clause-parts
returns-clause-parts g c =
    rw (ap (λ leaf. leaf.pairs) (returns-clause-left g c), ap (λ leaf. leaf.pairs) (returns-clause-right g c)) (take-append-drop _ _)

pub returns-clause-left_len : goal.returns-clause-left_len
returns-clause-left_len g c = rw c.set_next-2.ensures c.insert_and_split-right.ensures.left_len

pub returns-clause-right_len : goal.returns-clause-right_len
returns-clause-right_len g c =
    rw (c.set_next.ensures, c.deref_mut-2.ensures.value, c.set_prev.ensures, c.deref_mut.ensures.value) c.insert_and_split-right.ensures.right_len
