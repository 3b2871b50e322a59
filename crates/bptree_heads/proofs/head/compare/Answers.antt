use Rattle.bptree_heads.specs.Heads.{heads_decide, heads_decide_back}
use Rattle.std.proofs.Common.{sym, ◌≡◌, arith}
use Rattle.bptree_heads.proofs.head.compare.Goals as goal

pub returns-then-head-other_head : goal.returns-then-head-other_head
returns-then-head-other_head c = sym (heads_decide c.args.bytes.now c.args.other.now c.args.head c.args.other_head c.requires.head c.requires.other_head c.if-head-other_head.true)

pub returns-then-head-other_head-2 : goal.returns-then-head-other_head-2
returns-then-head-other_head-2 c = sym (heads_decide_back c.args.bytes.now c.args.other.now c.args.head c.args.other_head c.requires.head c.requires.other_head c.if-head-other_head-2.true)

pub compare_rests-requires : goal.compare_rests-requires
compare_rests-requires c =
    let same : c.args.other_head ≡ c.args.head = omega (arith, c.if-head-other_head.false, c.if-head-other_head-2.false) in
    (c.args.head, c.requires.head, rw same at c.requires.other_head)
