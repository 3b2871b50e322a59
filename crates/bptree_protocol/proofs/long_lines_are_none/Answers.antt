use Rattle.bptree_protocol.proofs.Law.{request_of-long}
use Rattle.bptree_protocol.proofs.long_lines_are_none.Goals as goal

pub returns : goal.returns
returns c = request_of-long
