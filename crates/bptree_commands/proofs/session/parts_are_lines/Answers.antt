use Rattle.bptree_commands.proofs.LineLemmas.{parts_are_lines_lem}
use Rattle.bptree_commands.proofs.session.parts_are_lines.Goals as goal

pub returns : goal.returns
returns c = parts_are_lines_lem
