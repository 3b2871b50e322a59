use Rattle.std.proofs.Common.{◌∙◌, arith}
use Rattle.bptree_removal.proofs.ShrunkRoot.{shrunk_root_at}
use Rattle.bptree_removal.proofs.removal.shrink_root.Goals as goal

pub returns : goal.returns
returns g c =
    let slots = g.S.NodeStore.slots in
    let shrunk =
    shrunk_root_at (slots c.args.store.now) (slots c.release_inner.new.self) c.in-Inner.id c.get_inner-node.result.now c.child_id-child.result c.get_inner-node.ensures (omega (arith, c.len.ensures.value, c.if-len-gt0.false)) c.child_id-child.ensures
    c.release_inner.ensures.inner.changed (λ n far. c.release_inner.ensures.inner.others n far ∙ c.take_inner.ensures.updates.inner.others n far) (c.release_inner.ensures.leaf ∙ c.take_inner.ensures.updates.leaf) c.args.height c.args.root c.in-Inner.is c.requires in
    record { shape = shrunk.0; pairs = shrunk.1 }
