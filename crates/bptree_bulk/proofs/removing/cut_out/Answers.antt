use Rattle.std.proofs.Common.{◌≤◌, arith}
use Rattle.bptree_bulk.specs.Gap.{without_part}
use Rattle.bptree_bulk.proofs.Removals.{without_ascends, without_shorter}
use Rattle.bptree_bulk.proofs.removing.cut_out.Goals as goal

pub assemble-requires : goal.assemble-requires
assemble-requires g c =
    let from = c.requires.0 in
    let to = c.requires.1 in
    let is = c.requires.2 in
    let all = c.args.tree.contents in
    let order : from ≤ to = omega (arith, is.gap.rises, is.begins, is.ends) in (
      without_part from to all,
      c.deal_around.ensures from to is,
      without_ascends g.met.S.K.Ord.total from to all order c.recall.ensures.ascending,
      omega (arith, c.recall.ensures.fits, without_shorter from to all order),
    )

pub returns-clause-contents : goal.returns-clause-contents
returns-clause-contents g c from to is = c.assemble.ensures.contents (without_part from to c.args.tree.contents) (c.deal_around.ensures from to is)
