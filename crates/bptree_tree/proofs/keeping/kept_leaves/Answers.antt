use Rattle.std.proofs.Common.{ap, arith, length, subst, sym}
use Rattle.bptree_bulk_load.specs.Rooms.{joined, parts_of}
use Rattle.bptree_keys.specs.Contents.{IsAscending}
use Rattle.bptree_tree.specs.Keeping.{pairs_to_last}
use Rattle.bptree_tree.proofs.KeptLemmas.{all_kept, joined_with, kept_ascends, kept_fewer}
use Rattle.bptree_tree.proofs.keeping.kept_leaves.Goals as goal

pub returns-clause-leaves : goal.returns-clause-leaves
returns-clause-leaves g c =
    let cmp = g.S.K.Ord.cmp in
    let leaves = c.keep_in-last.new.leaves.items in
    let last = c.keep_in-last.result in
    let all = c.of-chain.ensures.all in
    let chain = c.of-chain.result in
    let retained = c.keep_in-last.ensures.retained in
    let ascends = kept_ascends g.F.FnMut cmp c.args.f chain (pairs_to_last leaves last) retained (subst (IsAscending cmp) (sym all) c.of-chain.ensures.ascending) in
    let few = kept_fewer g.F.FnMut c.args.f chain (pairs_to_last leaves last) retained in
    λ some. all_kept g.met.S.K.Ord.total leaves c.push_reserved.new.self.items last c.keep_in-last.ensures.opened (omega (arith, c.if-len-eq0.false, c.len.ensures.value, ap (λ l. length l.pairs) c.deref.ensures)) ascends (omega (arith, few, ap length all, c.of-chain.ensures.fits)) c.push_reserved.ensures.items

pub returns-clause-fewer : goal.returns-clause-fewer
returns-clause-fewer g c =
    let leaves = c.keep_in-last.new.leaves.items in
    let last = c.keep_in-last.result in
    let few = kept_fewer g.F.FnMut c.args.f c.of-chain.result (pairs_to_last leaves last) c.keep_in-last.ensures.retained in
    omega (arith, few, ap length c.of-chain.ensures.all, ap (λ l. length (joined (parts_of l))) c.push_reserved.ensures.items, ap length (joined_with leaves last))
