use Rattle.std.proofs.Common.{◌≡◌, ℕ, ◌<◌, ◌≤◌, refl, arith, ap, length}
use Rattle.std.proofs.lemmas.Bool.Decides.{nat_tests}
use Rattle.bptree_nodes.specs.Leaf.{split_index}
use Rattle.bptree_nodes.proofs.Pairs.{take_inserted_before, drop_inserted_before, take_inserted_behind, drop_inserted_behind}
use Rattle.bptree_nodes.proofs.leaf_node.LeafNode.insert_and_split.Goals as goal

-- the split point of a full leaf
cut_behind : (slot : ℕ) → slot < 32 → split_index slot ≡ 33
cut_behind slot h = grind (arith, nat_tests)

cut_before : (slot : ℕ) → 32 ≤ slot → split_index slot ≡ 32
cut_before slot h = grind (arith, nat_tests)

pub split_off-right-requires-clause-within : goal.split_off-right-requires-clause-within
split_off-right-requires-clause-within g c = omega (arith, c.requires.full)

pub insert_at-requires-clause-within : goal.insert_at-requires-clause-within
insert_at-requires-clause-within g c = omega (arith, c.split_off-right.ensures.left_len)

pub insert_at-requires-clause-room : goal.insert_at-requires-clause-room
insert_at-requires-clause-room g c = omega (arith, c.split_off-right.ensures.left_len)

pub returns-then-slot-clause-left : goal.returns-then-slot-clause-left
returns-then-slot-clause-left g c =
    let index = cut_behind c.args.slot c.if-slot.true in
    rw (index, c.insert_at.ensures.after, c.split_off-right.ensures.left, take_inserted_before c.args.self.now.pairs c.args.slot 33 c.args.item (omega arith) (omega (arith, c.requires.full))) refl

pub returns-then-slot-clause-right : goal.returns-then-slot-clause-right
returns-then-slot-clause-right g c =
    let index = cut_behind c.args.slot c.if-slot.true in
    rw (index, c.split_off-right.ensures.right, drop_inserted_before c.args.self.now.pairs c.args.slot 33 c.args.item (omega arith) (omega (arith, c.requires.full))) refl

pub returns-then-slot-clause-left_len : goal.returns-then-slot-clause-left_len
returns-then-slot-clause-left_len g c =
    let index = cut_behind c.args.slot c.if-slot.true in
    omega (arith, index, c.insert_at.ensures.len, c.split_off-right.ensures.left_len)

pub returns-then-slot-clause-right_len : goal.returns-then-slot-clause-right_len
returns-then-slot-clause-right_len g c =
    let index = cut_behind c.args.slot c.if-slot.true in
    omega (arith, index, c.split_off-right.ensures.right_len, c.requires.full)

pub insert_at-requires-2-clause-within : goal.insert_at-requires-2-clause-within
insert_at-requires-2-clause-within g c =
    let held = ap (λ leaf. length leaf.pairs) c.deref_mut.ensures.value in
    omega (arith, held, c.split_off-right.ensures.right_len, c.requires.full, c.requires.within)

pub insert_at-requires-2-clause-room : goal.insert_at-requires-2-clause-room
insert_at-requires-2-clause-room g c =
    let held = ap (λ leaf. length leaf.pairs) c.deref_mut.ensures.value in
    omega (arith, held, c.split_off-right.ensures.right_len, c.requires.full)

pub returns-clause-left : goal.returns-clause-left
returns-clause-left g c =
    let index = cut_before c.args.slot c.if-slot.false in
    rw (index, c.split_off-right.ensures.left, take_inserted_behind c.args.self.now.pairs c.args.slot 32 c.args.item c.if-slot.false (omega (arith, c.requires.full))) refl

pub returns-clause-right : goal.returns-clause-right
returns-clause-right g c =
    let index = cut_before c.args.slot c.if-slot.false in
    rw (index, c.insert_at-2.ensures.after, c.deref_mut.ensures.value, c.split_off-right.ensures.right, drop_inserted_behind c.args.self.now.pairs c.args.slot 32 c.args.item c.if-slot.false (omega (arith, c.requires.full))) refl

pub returns-clause-left_len : goal.returns-clause-left_len
returns-clause-left_len g c =
    let index = cut_before c.args.slot c.if-slot.false in
    omega (arith, index, c.split_off-right.ensures.left_len)

pub returns-clause-right_len : goal.returns-clause-right_len
returns-clause-right_len g c =
    let index = cut_before c.args.slot c.if-slot.false in
    let held = ap (λ leaf. length leaf.pairs) c.deref_mut.ensures.value in
    omega (arith, index, held, c.insert_at-2.ensures.len, c.split_off-right.ensures.right_len, c.requires.full)
