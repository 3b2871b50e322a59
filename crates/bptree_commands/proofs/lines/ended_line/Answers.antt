use Rattle.std.proofs.Common.{◌≡◌, ap, take, length, arith, ◌∙◌}
use Rattle.std.proofs.lemmas.Bool.Decides.{nat_tests}
use Rattle.std.proofs.lemmas.List.{nil_from_length, take_min}
use Rattle.bptree_commands.specs.declared.lines.TheConstants.{KEPT}
use Rattle.bptree_commands.proofs.lines.ended_line.Goals as goal

-- Nothing was kept of the line, so the piece is the whole line.
pub returns-then-is_empty : goal.returns-then-is_empty
returns-then-is_empty c =
    let none : length c.args.line.now.items ≡ 0 = grind (arith, nat_tests) in
    rw (nil_from_length c.args.line.now.items none) (ap (λ n. take n c.args.piece.now) c.min.ensures ∙ take_min KEPT c.args.piece.now)
