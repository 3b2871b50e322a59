use Rattle.std.proofs.Common.{rules, [], ◌++◌, refl, ap, ◌∙◌, take, arith, length-append, length-take}
use Rattle.std.proofs.lemmas.Result.{err_from_is_err_and}
use Rattle.std.proofs.KnownBytes.{Consumes-trans}
use Rattle.bptree_commands.specs.ReplyLists.{pairs_after_all}
use Rattle.bptree_commands.specs.Clipped.{clipped_after}
use Rattle.bptree_commands.proofs.FeedLemmas.{length-clipped_rest}
use Rattle.bptree_commands.proofs.SessionLemmas.{stopped_at_start, stopped_by_reader, stopped_with_no_end, stopped_by_piece, stopped_by_last, returned_last, returned_more, pairs_then, rest_then}
use Rattle.bptree_commands.proofs.session.serve_pieces.Goals as goal

pub returns-in_default-clause-serves : goal.returns-in_default-clause-serves
returns-in_default-clause-serves g c = stopped_at_start _ _

pub returns-clause-serves : goal.returns-clause-serves
returns-clause-serves g c =
    let inv = c.turns.invariant.2 in
    stopped_with_no_end _ _ _ _ inv.0 inv.1 (omega (arith, inv.5)) inv.2

pub returns-in_default-read-clause-serves : goal.returns-in_default-read-clause-serves
returns-in_default-read-clause-serves g c =
    let inv = c.turns.invariant.2 in
    stopped_by_reader _ _ _ _ _ inv.0 inv.1 c.in_default-read.ensures.bytes inv.2

pub returns-then-n-eq0-clause-serves : goal.returns-then-n-eq0-clause-serves
returns-then-n-eq0-clause-serves g c =
    let inv = c.turns.invariant.2 in
    let got = rw c.if-n-eq0.true at c.in-Ok-read.ensures.bytes in
    let last = rw (c.as_slice.ensures.value, inv.4, inv.3) at c.in_ok-reply_last.ensures.1 in
    returned_last _ _ _ _ _ _ inv.0 inv.1 got.0 (got.1 refl (search rules)) inv.2 last

pub returns-in_err-reply_last-clause-serves : goal.returns-in_err-reply_last-clause-serves
returns-in_err-reply_last-clause-serves g c =
    let inv = c.turns.invariant.2 in
    let got = rw c.if-n-eq0.true at c.in-Ok-read.ensures.bytes in
    let p = err_from_is_err_and c.from_residual.result c.from_residual.ensures.1 in
    let last = rw (c.as_slice.ensures.value, inv.4, inv.3) at c.in_err-reply_last.ensures.1 in
    rw (p.1, p.2) (stopped_by_last _ _ _ _ _ _ _ inv.0 inv.1 got.0 (got.1 refl (search rules)) inv.2 last)

pub returns-in_err-reply_piece-clause-serves : goal.returns-in_err-reply_piece-clause-serves
returns-in_err-reply_piece-clause-serves g c =
    let inv = c.turns.invariant.2 in
    let p = err_from_is_err_and c.from_residual-in_err-reply_piece.result c.from_residual-in_err-reply_piece.ensures.1 in
    let piece = rw (inv.4, inv.3) at c.in_err-reply_piece.ensures.outcomes.1 in
    rw (p.1, p.2) (stopped_by_piece _ _ _ _ _ _ _ inv.0 _ inv.1 c.in-Ok-read.ensures.bytes.0 inv.2 piece)

pub turns-preserved : goal.turns-preserved
turns-preserved g c =
    let inv = c.turns.invariant.2 in
    let chunk = take c.in-Ok-read.n c.read.new.buf in
    let piece = rw (inv.4, inv.3) at c.in_ok-reply_piece.ensures.outcomes.1 in (
      c.in_ok-reply_piece.ensures.empty,
      c.in_ok-reply_piece.ensures.outcomes.0 ∙ c.turns.invariant.1,
      (
        inv.0 ++ chunk,
        Consumes-trans _ _ _ inv.0 chunk inv.1 c.in-Ok-read.ensures.bytes.0,
        returned_more _ _ _ inv.0 chunk inv.2 piece,
        pairs_then _ inv.0 chunk c.turns.line.items inv.4 (c.in_ok-reply_piece.ensures.pairs ∙ ap (λ ps. pairs_after_all ps (clipped_after c.turns.line.items chunk)) inv.3),
        rest_then _ _ inv.0 chunk inv.4 c.in_ok-reply_piece.ensures.line,
        omega (arith, length-append inv.0 chunk, length-take c.in-Ok-read.n c.read.new.buf, c.in-Ok-read.ensures.bound, inv.5),
      ),
    )

pub reply_piece-requires-clause-kept : goal.reply_piece-requires-clause-kept
reply_piece-requires-clause-kept g c =
    let inv = c.turns.invariant.2 in
    rw inv.4 (length-clipped_rest [] inv.0 (omega arith))
