use Rattle.std.proofs.Common.{rules}
use Rattle.bptree_commands.proofs.walk.walk_range.Goals as goal

pub returns : goal.returns
returns g c =
    let walked = rw (c.range-pairs.ensures.rest, c.as_ref.ensures.value, c.as_ref-2.ensures.value) at c.walk.ensures in
    search rules
