use Rattle.std.proofs.Common.{◌-◌, ◌+◌, arith, ap, length}
use Rattle.std.proofs.lemmas.List.Edits.{length-remove}
use Rattle.bptree_nodes.proofs.Inverses.{entry_taken_back, takes_from_left, takes_between, takes_from_right}
use Rattle.bptree_nodes.proofs.inner_node.InnerNode.undo_split.Goals as goal

pub returns-then-slot-kept-clause-takes : goal.returns-then-slot-kept-clause-takes
returns-then-slot-kept-clause-takes g c =
    let fits = c.len-kept.ensures.fits in
    let taken = c.remove_at-taken.ensures in
    rw (c.merge_next.ensures, taken.after) (takes_from_left c.args.slot c.args.self.now c.args.right.value c.args.up _ _ _ (omega arith) (omega (arith, fits.children)) (omega (arith, fits.children, fits.arguments)) taken.key taken.child taken.argument)

pub returns-then-slot-kept-clause-undoes : goal.returns-then-slot-kept-clause-undoes
returns-then-slot-kept-clause-undoes g c = λ was key child argument keys children arguments h i j.
    entry_taken_back c.args.slot _ _ _ _ _ (returns-then-slot-kept-clause-takes g c) was key child argument keys children arguments (omega arith) (omega arith) (omega arith)

pub returns-then-slot-kept-2-clause-takes : goal.returns-then-slot-kept-2-clause-takes
returns-then-slot-kept-2-clause-takes g c =
    let fits = c.len-kept.ensures.fits in
    let held = c.deref_mut.ensures.value in
    let taken = c.pop_front-key.ensures in
    rw c.merge_next-then-slot-kept-2.ensures (takes_between c.args.slot c.args.self.now c.args.right.value _ c.args.up _ _ _ (omega arith) (omega (arith, fits.children)) (omega (arith, fits.children, fits.arguments)) (rw held at taken.key) (rw held at taken.child) (rw held at taken.argument))

pub returns-then-slot-kept-2-clause-undoes : goal.returns-then-slot-kept-2-clause-undoes
returns-then-slot-kept-2-clause-undoes g c = λ was key child argument keys children arguments h i j.
    entry_taken_back c.args.slot _ _ _ _ _ (returns-then-slot-kept-2-clause-takes g c) was key child argument keys children arguments (omega arith) (omega arith) (omega arith)

pub returns-clause-takes : goal.returns-clause-takes
returns-clause-takes g c =
    let fits = c.len-kept.ensures.fits in
    let held = c.deref_mut-2.ensures.value in
    let taken = c.remove_at-taken-2.ensures in
    rw (c.merge_next-2.ensures, taken.after, held) (takes_from_right c.args.slot (c.args.slot - c.len-kept.result - 1) c.args.self.now c.args.right.value c.args.up _ _ _ (omega arith) (omega (arith, fits.children)) (omega (arith, fits.children, fits.arguments)) (rw held at taken.key) (rw held at taken.child) (rw held at taken.argument))

pub returns-clause-undoes : goal.returns-clause-undoes
returns-clause-undoes g c = λ was key child argument keys children arguments h i j.
    entry_taken_back c.args.slot _ _ _ _ _ (returns-clause-takes g c) was key child argument keys children arguments (omega arith) (omega arith) (omega arith)

pub remove_at-taken-requires : goal.remove_at-taken-requires
remove_at-taken-requires g c = omega arith

pub merge_next-requires-clause-node : goal.merge_next-requires-clause-node
merge_next-requires-clause-node g c =
    let fits = c.len-kept.ensures.fits in
    let children = ap (λ node. length node.children) c.remove_at-taken.ensures.after in
    omega (arith, fits.children, children, length-remove c.args.self.now.children (c.args.slot + 1) (omega (arith, fits.children)))

pub merge_next-requires-clause-right : goal.merge_next-requires-clause-right
merge_next-requires-clause-right g c =
    let fits = c.recall.ensures in
    omega (arith, rw c.deref.ensures at fits.children, c.requires.right)

pub merge_next-requires-clause-fits : goal.merge_next-requires-clause-fits
merge_next-requires-clause-fits g c =
    let keys = ap (λ node. length node.keys) c.remove_at-taken.ensures.after in
    omega (arith, keys, length-remove c.args.self.now.keys c.args.slot (omega arith), c.requires.most)

pub pop_front-key-requires : goal.pop_front-key-requires
pop_front-key-requires g c = rw c.deref_mut.ensures.value c.requires.right

pub merge_next-requires-then-slot-kept-2-clause-node : goal.merge_next-requires-then-slot-kept-2-clause-node
merge_next-requires-then-slot-kept-2-clause-node g c =
    let fits = c.len-kept.ensures.fits in
    omega (arith, fits.children, c.requires.left)

pub merge_next-requires-then-slot-kept-2-clause-right : goal.merge_next-requires-then-slot-kept-2-clause-right
merge_next-requires-then-slot-kept-2-clause-right g c =
    let fits = c.recall.ensures in
    omega (arith, rw c.deref.ensures at fits.children, c.requires.right, ap length (rw c.deref_mut.ensures.value at c.pop_front-key.ensures.child))

pub merge_next-requires-then-slot-kept-2-clause-fits : goal.merge_next-requires-then-slot-kept-2-clause-fits
merge_next-requires-then-slot-kept-2-clause-fits g c = omega (arith, ap length (rw c.deref_mut.ensures.value at c.pop_front-key.ensures.key), c.requires.most)

pub remove_at-taken-requires-2 : goal.remove_at-taken-requires-2
remove_at-taken-requires-2 g c = rw c.deref_mut-2.ensures.value (omega (arith, c.requires.slot))

pub merge_next-requires-2-clause-node : goal.merge_next-requires-2-clause-node
merge_next-requires-2-clause-node g c =
    let fits = c.len-kept.ensures.fits in
    omega (arith, fits.children, c.requires.left)

pub merge_next-requires-2-clause-right : goal.merge_next-requires-2-clause-right
merge_next-requires-2-clause-right g c =
    let after = rw c.deref_mut-2.ensures.value at c.remove_at-taken-2.ensures.after in
    let fits = rw c.deref.ensures at c.recall.ensures.children in
    let index = c.args.slot - c.len-kept.result - 1 in
    omega (arith, fits, c.requires.slot, ap (λ node. length node.children) after, length-remove c.args.right.value.children (index + 1) (omega (arith, fits, c.requires.slot)))

pub merge_next-requires-2-clause-fits : goal.merge_next-requires-2-clause-fits
merge_next-requires-2-clause-fits g c =
    let after = rw c.deref_mut-2.ensures.value at c.remove_at-taken-2.ensures.after in
    let index = c.args.slot - c.len-kept.result - 1 in
    omega (arith, c.requires.slot, c.requires.most, ap (λ node. length node.keys) after, length-remove c.args.right.value.keys index (omega (arith, c.requires.slot)))
