use Rattle.std.proofs.Common.{◌≡◌, ◌+◌, suc, arith, ap}
use Rattle.bptree_unit_tests.proofs.callers.inner.takes_an_insertion_back.Goals as goal

pub returns : goal.returns
returns g c =
    let behind : c.args.slot + 1 ≡ suc c.args.slot = omega arith in
    let made = rw behind at c.insert_at.ensures in
    let fits = c.recall.ensures in
    let undone = c.remove_at.ensures.undoes c.args.node.now c.args.key c.args.child c.args.argument (ap (λ n. n.keys) made) (ap (λ n. n.children) made) (ap (λ n. n.arguments) made) c.requires.within (omega (arith, c.requires.node, c.requires.within, fits.children, fits.arguments)) (omega (arith, c.requires.node, c.requires.within, fits.children, fits.arguments)) in
    record {
      entry = undone.1;
      keys = ap (λ n. n.keys) undone.0;
      children = ap (λ n. n.children) undone.0;
      arguments = ap (λ n. n.arguments) undone.0;
    }
