use Rattle.std.proofs.Common.{ap, arith, drop, length, length-append, subst, sym, take}
use Rattle.std.proofs.lemmas.List.{take-append-drop}
use Rattle.bptree_keys.specs.Contents.{IsAscending}
use Rattle.bptree_invariant.proofs.Ordered.{ascending_after}
use Rattle.bptree_invariant.proofs.Spot.{ascending_before}
use Rattle.bptree_bulk.proofs.splitting.cut_in_two.Goals as goal

pub assemble-requires : goal.assemble-requires
assemble-requires g c =
    let n = c.requires.0 in
    let all = c.args.tree.contents in
    let parts = sym (take-append-drop n all) in (
      take n all,
      c.deal-lower.ensures.lower n c.requires.1,
      ascending_before g.S.K.Ord.cmp (take n all) (drop n all) (subst (IsAscending g.S.K.Ord.cmp) parts c.recall.ensures.ascending),
      omega (arith, c.recall.ensures.fits, ap length parts, length-append (take n all) (drop n all)),
    )

pub assemble-requires-2 : goal.assemble-requires-2
assemble-requires-2 g c =
    let n = c.requires.0 in
    let all = c.args.tree.contents in
    let parts = sym (take-append-drop n all) in (
      drop n all,
      c.deal-lower.ensures.upper n c.requires.1,
      ascending_after g.met.S.K.Ord.total (take n all) (drop n all) (subst (IsAscending g.S.K.Ord.cmp) parts c.recall.ensures.ascending),
      omega (arith, c.recall.ensures.fits, ap length parts, length-append (take n all) (drop n all)),
    )

pub returns-clause-lower : goal.returns-clause-lower
returns-clause-lower g c n split = c.assemble.ensures.contents (take n c.args.tree.contents) (c.deal-lower.ensures.lower n split)

pub returns-clause-upper : goal.returns-clause-upper
returns-clause-upper g c n split = c.assemble-2.ensures.contents (drop n c.args.tree.contents) (c.deal-lower.ensures.upper n split)
