use Rattle.std.proofs.Common.{ap, ◌∙◌}
use Rattle.bptree_protocol.specs.Request.{request_of}
use Rattle.bptree_protocol.proofs.Law.{request_of-line, request_of-some}
use Rattle.bptree_protocol.proofs.one_writing.Goals as goal

pub returns : goal.returns
returns c = λ line r. (request_of-some line r, λ d. ap request_of d.0 ∙ request_of-line r d.1)
