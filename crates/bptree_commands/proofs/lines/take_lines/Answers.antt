use Rattle.std.proofs.Common.{◌∙◌, sym, ap, [], ◌∷◌, ◌++◌, take, append_assoc}
use Rattle.std.proofs.lemmas.Result.{err_from_is_err_and}
use Rattle.bptree_commands.specs.ReplyLists.{pairs_after_command, pairs_after_all}
use Rattle.bptree_commands.specs.Clipped.{clipped_after}
use Rattle.bptree_commands.specs.declared.lines.TheConstants.{KEPT}
use Rattle.bptree_commands.proofs.FeedLemmas.{length-clipped_rest, found_feed, no_feed_at_all, no_feed_before, cut_at_feed, stops_in_line, sent_end, pairs_end, rest_ends, after_last, rest_last}
use Rattle.bptree_commands.proofs.lines.take_lines.Goals as goal

-- Replying to the line that a line feed ends failed.
pub returns-in_err-serve_line-clause-replies : goal.returns-in_err-serve_line-clause-replies
returns-in_err-serve_line-clause-replies g c =
    let p = err_from_is_err_and c.from_residual.result c.from_residual.ensures.1 in
    let inv = c.loop-at.invariant in
    let few = length-clipped_rest c.args.line.now.items inv.0 c.requires in
    let at = found_feed c.loop-at.rest.now c.in-Some.at (sym c.in-Some.ensures) in
    rw (p.1, p.2) (stops_in_line _ _ c.loop-at.out _ c.args.tree.now.contents c.args.line.now.items c.args.bytes.now inv.0 (take c.in-Some.at c.loop-at.rest.now) _
    (inv.1 ∙ ap (λ r. inv.0 ++ r) (cut_at_feed c.loop-at.rest.now c.in-Some.at at.0 at.1)) few (no_feed_before c.loop-at.rest.now c.in-Some.at at.2) inv.2
    (rw (c.ended_line.ensures, inv.3, inv.4) at c.in_err-serve_line.ensures.replies))

-- The reply to one more line was sent.
pub loop-at-preserved : goal.loop-at-preserved
loop-at-preserved g c =
    let inv = c.loop-at.invariant in
    let few = length-clipped_rest c.args.line.now.items inv.0 c.requires in
    let at = found_feed c.loop-at.rest.now c.in-Some.at (sym c.in-Some.ensures) in
    let piece = take c.in-Some.at c.loop-at.rest.now in
    let none = no_feed_before c.loop-at.rest.now c.in-Some.at at.2 in (
      inv.0 ++ (piece ++ 10 ∷ []),
      inv.1 ∙ ap (λ r. inv.0 ++ r) (cut_at_feed c.loop-at.rest.now c.in-Some.at at.0 at.1) ∙ sym (append_assoc inv.0 (piece ++ 10 ∷ []) _),
      sent_end _ c.loop-at.out _ c.args.tree.now.contents c.args.line.now.items inv.0 piece few none inv.2 (rw (c.ended_line.ensures, inv.3, inv.4) at c.in_ok-serve_line.ensures.replies),
      c.in_ok-serve_line.ensures.pairs ∙ ap (pairs_after_command c.loop-at.tree.contents) c.ended_line.ensures ∙ ap (λ ps. pairs_after_command ps (take KEPT (c.loop-at.line.items ++ piece))) inv.3
          ∙ ap (λ l. pairs_after_command (pairs_after_all c.args.tree.now.contents (clipped_after c.args.line.now.items inv.0)) (take KEPT (l ++ piece))) inv.4
          ∙ sym (pairs_end c.args.tree.now.contents c.args.line.now.items inv.0 piece few none),
      c.clear.ensures ∙ sym (rest_ends c.args.line.now.items inv.0 piece),
    )

-- No line feed is left.
pub returns-clause-replies : goal.returns-clause-replies
returns-clause-replies g c =
    let inv = c.loop-at.invariant in
    rw (after_last c.args.line.now.items c.args.bytes.now inv.0 c.loop-at.rest.now inv.1 (no_feed_at_all c.loop-at.rest.now (sym c.in_default.ensures))) inv.2

pub returns-clause-pairs : goal.returns-clause-pairs
returns-clause-pairs g c =
    let inv = c.loop-at.invariant in
    inv.3 ∙ ap (pairs_after_all c.args.tree.now.contents) (sym (after_last c.args.line.now.items c.args.bytes.now inv.0 c.loop-at.rest.now inv.1 (no_feed_at_all c.loop-at.rest.now (sym c.in_default.ensures))))

pub returns-clause-line : goal.returns-clause-line
returns-clause-line g c =
    let inv = c.loop-at.invariant in
    let few = length-clipped_rest c.args.line.now.items inv.0 c.requires in
    c.keep_bytes.ensures ∙ ap (λ l. take KEPT (l ++ c.loop-at.rest.now)) inv.4
    ∙ sym (rest_last c.args.line.now.items c.args.bytes.now inv.0 c.loop-at.rest.now inv.1 few (no_feed_at_all c.loop-at.rest.now (sym c.in_default.ensures)))
