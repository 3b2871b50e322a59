use Rattle.std.proofs.Common.{◌∷◌, [], append-nil, arith, ap, length, length-append, subst, sym}
use Rattle.bptree_tree.proofs.LastTaken.{one_taken, AreTaken}
use Rattle.bptree_tree.proofs.tree.merging.move_back.Goals as goal

pub pairs-init : goal.pairs-init
pairs-init g c = record {
  taken = [];
  are = record { all = sym (append-nil c.args.rest); sum = omega arith; moved = sym (append-nil c.args.pairs.now.items) };
  len = omega arith;
  capacity = omega arith;
}

pub pairs-preserved : goal.pairs-preserved
pairs-preserved g c =
    let inv = c.pairs.invariant in
    let pair = c.in-Some.pair in
    let one = c.in-Some.ensures.steps in
    let count = length c.args.rest in
    record {
      taken = pair ∷ inv.taken;
      are = subst (AreTaken c.args.rest c.next_back.new.self (pair ∷ inv.taken) count (length c.next_back.new.self) c.args.pairs.now.items) (sym c.push_reserved.ensures.items)
          (one_taken c.args.rest c.pairs.rest inv.taken count (length c.pairs.rest) c.args.pairs.now.items c.pairs.pairs.items c.next_back.new.self pair (length c.next_back.new.self) inv.are one (omega (arith, ap length one, length-append c.next_back.new.self (pair ∷ []))));
      len = omega (arith, inv.len, c.push_reserved.ensures.len, ap length one, length-append c.next_back.new.self (pair ∷ []));
      capacity = omega (arith, inv.capacity, c.push_reserved.ensures.capacity);
    }
