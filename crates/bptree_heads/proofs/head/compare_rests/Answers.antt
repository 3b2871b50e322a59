use Rattle.std.proofs.Common.{◌∙◌, arith}
use Rattle.bptree_heads.proofs.Rests.{alike_at_first, words_decide, words_alike, lengths_decide}
use Rattle.bptree_heads.proofs.head.compare_rests.Goals as goal

pub words-init : goal.words-init
words-init c = (c.if-both-lt8.false, alike_at_first c.args.bytes.now c.args.other.now c.requires (omega (arith, c.if-both-lt8.false, c.min-both.ensures)) (omega (arith, c.if-both-lt8.false, c.min-both.ensures)))

pub returns-then-word-other_word : goal.returns-then-word-other_word
returns-then-word-other_word c =
    c.cmp-then-word-other_word.ensures
    ∙ words_decide c.words.at c.min-from.result c.args.bytes.now c.args.other.now (omega (arith, c.min-from.ensures)) c.words.invariant.1
    c.word_of-word.result c.word_of-other_word.result c.word_of-word.ensures c.word_of-other_word.ensures c.if-word-other_word.true

pub words-preserved : goal.words-preserved
words-preserved c = (
  omega (arith, c.min-from.ensures, c.if-both-lt8.false),
  words_alike c.words.at c.min-from.result c.args.bytes.now c.args.other.now (omega (arith, c.min-from.ensures)) c.words.invariant.1
      c.word_of-word.result c.word_of-other_word.result c.word_of-word.ensures c.word_of-other_word.ensures
      (omega (arith, c.min-from.ensures, c.min-both.ensures, c.if-both-lt8.false)) (omega (arith, c.min-from.ensures, c.min-both.ensures, c.if-both-lt8.false)) c.if-word-other_word.false,
)

pub returns : goal.returns
returns c =
    c.cmp-2.ensures
    ∙ lengths_decide c.words.at c.args.bytes.now c.args.other.now (omega (arith, c.words.invariant.0, c.words-test.false, c.min-both.ensures)) c.words.invariant.1
