use Rattle.std.proofs.Common.{◌≡◌, arith, take, length-take, ap, ◌∙◌, ◌++◌}
use Rattle.std.specs.Prelude.{IsOk}
use Rattle.bptree_commands.proofs.FeedLemmas.{kept_bytes, fact_at_ok}
use Rattle.bptree_commands.specs.declared.lines.TheConstants.{KEPT}
use Rattle.bptree_commands.proofs.lines.keep_bytes.Goals as goal

-- The line takes as many bytes as there is room for.
pub returns : goal.returns
returns c =
    let room = c.remaining_capacity.ensures in
    let ok : IsOk c.try_extend_from_slice.result = c.try_extend_from_slice.ensures.variant.1 (omega (arith, length-take c.min-n.result c.args.bytes.now)) in
    let items : c.try_extend_from_slice.new.self.items ≡ c.args.line.now.items ++ take c.min-n.result c.args.bytes.now = fact_at_ok _ _ ok c.try_extend_from_slice.ensures.ok in
    items ∙ ap (λ n. c.args.line.now.items ++ take n c.args.bytes.now) c.min-n.ensures ∙ kept_bytes KEPT c.remaining_capacity.result c.args.line.now.items c.args.bytes.now room
