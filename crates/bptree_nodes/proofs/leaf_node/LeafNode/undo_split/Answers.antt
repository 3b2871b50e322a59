use Rattle.std.proofs.Common.{◌-◌, ◌∙◌, refl, arith, ap, length}
use Rattle.std.proofs.lemmas.List.Edits.{length-remove, remove-append_left}
use Rattle.bptree_nodes.proofs.Inverses.{slice_get-append_left, slice_get-append_right, remove_in_right, taken_from_left, taken_from_right}
use Rattle.bptree_nodes.proofs.leaf_node.LeafNode.undo_split.Goals as goal

pub returns-then-slot-kept-clause-undoes : goal.returns-then-slot-kept-clause-undoes
returns-then-slot-kept-clause-undoes g c = λ was item made h.
    rw (c.merge_right.ensures.after, c.delete_at-taken.ensures.after) (taken_from_left was c.args.self.now.pairs c.args.right.value.pairs c.args.slot item _ (omega arith) c.delete_at-taken.ensures.pair made h)

pub returns-clause-pair : goal.returns-clause-pair
returns-clause-pair g c =
    slice_get-append_right c.args.self.now.pairs c.args.right.value.pairs c.args.slot (c.args.slot - c.len-kept.result) (omega (arith, c.len-kept.ensures.value)) ∙ c.merge_right_delete_first.ensures.pair

pub returns-clause-after : goal.returns-clause-after
returns-clause-after g c =
    rw (← remove_in_right c.args.self.now.pairs c.args.right.value.pairs c.args.slot (c.args.slot - c.len-kept.result) (omega (arith, c.len-kept.ensures.value))) c.merge_right_delete_first.ensures.after

pub returns-clause-undoes : goal.returns-clause-undoes
returns-clause-undoes g c = λ was item made h.
    rw c.merge_right_delete_first.ensures.after (taken_from_right was c.args.self.now.pairs c.args.right.value.pairs c.args.slot (c.args.slot - c.len-kept.result) item _ (omega (arith, c.len-kept.ensures.value)) c.merge_right_delete_first.ensures.pair made h)

pub delete_at-taken-requires : goal.delete_at-taken-requires
delete_at-taken-requires g c = omega (arith, c.len-kept.ensures.value)

pub merge_right-requires : goal.merge_right-requires
merge_right-requires g c =
    let left = ap (λ leaf. length leaf.pairs) c.delete_at-taken.ensures.after in
    omega (arith, left, length-remove c.args.self.now.pairs c.args.slot (omega (arith, c.len-kept.ensures.value)), c.requires.most)

pub returns-then-slot-kept-clause-pair : goal.returns-then-slot-kept-clause-pair
returns-then-slot-kept-clause-pair g c =
    slice_get-append_left c.args.self.now.pairs c.args.right.value.pairs c.args.slot (omega (arith, c.len-kept.ensures.value)) ∙ c.delete_at-taken.ensures.pair

pub returns-then-slot-kept-clause-after : goal.returns-then-slot-kept-clause-after
returns-then-slot-kept-clause-after g c =
    rw (c.merge_right.ensures.after, c.delete_at-taken.ensures.after, remove-append_left c.args.self.now.pairs c.args.right.value.pairs c.args.slot (omega (arith, c.len-kept.ensures.value))) refl

pub returns-then-slot-kept-clause-fits : goal.returns-then-slot-kept-clause-fits
returns-then-slot-kept-clause-fits g c = c.merge_right.ensures.fits

pub returns-then-slot-kept-clause-prev : goal.returns-then-slot-kept-clause-prev
returns-then-slot-kept-clause-prev g c = ap (λ leaf. leaf.prev) c.merge_right.ensures.after ∙ ap (λ leaf. leaf.prev) c.delete_at-taken.ensures.after

pub returns-then-slot-kept-clause-next : goal.returns-then-slot-kept-clause-next
returns-then-slot-kept-clause-next g c = ap (λ leaf. leaf.next) c.merge_right.ensures.after

pub merge_right_delete_first-requires-clause-within : goal.merge_right_delete_first-requires-clause-within
merge_right_delete_first-requires-clause-within g c = omega (arith, c.requires.slot, c.len-kept.ensures.value)

pub merge_right_delete_first-requires-clause-room : goal.merge_right_delete_first-requires-clause-room
merge_right_delete_first-requires-clause-room g c = c.requires.most

pub returns-clause-fits : goal.returns-clause-fits
returns-clause-fits g c = c.merge_right_delete_first.ensures.fits

pub returns-clause-prev : goal.returns-clause-prev
returns-clause-prev g c = ap (λ leaf. leaf.prev) c.merge_right_delete_first.ensures.after

pub returns-clause-next : goal.returns-clause-next
returns-clause-next g c = ap (λ leaf. leaf.next) c.merge_right_delete_first.ensures.after
