use Rattle.std.proofs.Common.{◌≤◌, ap, arith, length}
use Rattle.bptree_tree.proofs.weaving.next_pair.Goals as goal

pub returns-in-First-clause-room : goal.returns-in-First-clause-room
returns-in-First-clause-room g c = λ more some enough.
    let other = length c.args.second.now.front.value.pairs in
    let small : other ≤ 64 = omega (arith, c.recall-2.ensures, ap (λ l. length l.pairs) c.deref-2.ensures) in
    omega (arith, c.take.ensures.room other small more some (omega (arith, enough)))

pub returns-in-Second-clause-room : goal.returns-in-Second-clause-room
returns-in-Second-clause-room g c = λ more some enough.
    let other = length c.args.first.now.front.value.pairs in
    let small : other ≤ 64 = omega (arith, c.recall.ensures, ap (λ l. length l.pairs) c.deref.ensures) in
    omega (arith, c.take-in-Second.ensures.room other small more some (omega (arith, enough)))

pub returns-in-Both-clause-room : goal.returns-in-Both-clause-room
returns-in-Both-clause-room g c = λ more some enough.
    let second = length c.args.second.now.front.value.pairs in
    let small : second ≤ 64 = omega (arith, c.recall-2.ensures, ap (λ l. length l.pairs) c.deref-2.ensures) in
    let first = length c.take-k.new.feed.front.value.pairs in
    let small' : first ≤ 64 = omega (arith, c.recall-in-Both.ensures, ap (λ l. length l.pairs) c.deref-in-Both.ensures) in
    let one = c.take-k.ensures.room second small more some (omega (arith, enough)) in
    omega (arith, c.take-v.ensures.room first small' more some (omega (arith, one)))
