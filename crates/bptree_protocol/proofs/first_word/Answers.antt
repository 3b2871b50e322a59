use Rattle.std.proofs.Common.{rules, arith}
use Rattle.bptree_protocol.proofs.WordLemmas.{first_word_split, one_word}
use Rattle.bptree_protocol.proofs.first_word.Goals as goal

pub returns-then-byte-eq32 : goal.returns-then-byte-eq32
returns-then-byte-eq32 c = first_word_split c.args.line.now c.loop-i.i (search rules) c.if-byte-eq32.true c.loop-i.invariant

pub returns : goal.returns
returns c = one_word c.args.line.now (λ k below is. c.loop-i.invariant k (omega arith) is)
