use Rattle.std.proofs.Common.{rules, arith}
use Rattle.bptree_heads.specs.Heads.{IsHeadOf}
use Rattle.bptree_heads.proofs.DigitLemmas.{eight_digits, eight_bytes}
use Rattle.bptree_heads.proofs.head.word_of.Goals as goal

pub returns : goal.returns
unfolding IsHeadOf
returns c = (
  eight_bytes c.args.bytes.now (search rules) (search rules) (search rules) (search rules) (search rules) (search rules) (search rules) (search rules),
  grind (arith, eight_digits c.args.bytes.now, c.byte.ensures.digit, c.byte-2.ensures.digit, c.byte-3.ensures.digit, c.byte-4.ensures.digit, c.byte-5.ensures.digit, c.byte-6.ensures.digit, c.byte-7.ensures.digit, c.byte-8.ensures.digit),
)
