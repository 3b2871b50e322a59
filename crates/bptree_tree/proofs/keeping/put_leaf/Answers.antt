use Rattle.std.proofs.Common.{ap, arith, length, length-append}
use Rattle.bptree_tree.proofs.keeping.put_leaf.Goals as goal

pub returns-clause-count : goal.returns-clause-count
returns-clause-count g c =
    let one = c.as_mut-2.result.now.pairs in
    let other = c.as_mut-3.result.now.pairs in
    omega (arith, ap length c.share.ensures.pairs, length-append c.share.new.left.pairs c.share.new.right.pairs, length-append one other, ap (λ l. length l.pairs) c.as_mut-2.ensures.value, ap (λ l. length l.pairs) c.as_mut-3.ensures.value, c.share.ensures.left, c.push_reserved.ensures.len)
