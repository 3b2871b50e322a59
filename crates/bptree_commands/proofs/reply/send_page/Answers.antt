use Rattle.std.proofs.Common.{rules}
use Rattle.bptree_tree.proofs.PageLemmas.{page_is}
use Rattle.bptree_commands.proofs.PairLemmas.{page_text-is}
use Rattle.bptree_commands.proofs.reply.send_page.Goals as goal

pub returns : goal.returns
returns g c =
    let pairs = c.args.tree.now.contents in
    let shown = page_is pairs c.args.p c.args.s _ c.in-Ok.pairs c.saturating_mul.ensures c.recall.ensures.fits c.in-Ok.ensures.rest in
    let text = page_text-is pairs c.in-Ok.pairs c.args.p c.args.s c.if-s-eq0.false shown in
    rw text (search rules)
