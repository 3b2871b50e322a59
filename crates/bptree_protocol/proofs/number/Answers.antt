use Rattle.std.proofs.Common.{rules, get_or, arith, sym, ◌∙◌}
use Rattle.std.proofs.lemmas.Int.Digits.{digits_value_more}
use Rattle.bptree_protocol.proofs.NumberLemmas.{not_all_digits, all_digits_more, front_too_large, digit_is, number_of_large, number_of_no_digits}
use Rattle.bptree_protocol.proofs.number.Goals as goal

pub returns-then-not-is_ascii_digit : goal.returns-then-not-is_ascii_digit
returns-then-not-is_ascii_digit c =
    number_of_no_digits c.args.word.now (not_all_digits c.args.word.now c.loop-byte.byte-index (search rules) (sym c.is_ascii_digit.ensures.value ∙ c.if-not-is_ascii_digit.true))

pub returns-then-value-digit : goal.returns-then-value-digit
returns-then-value-digit c =
    let d = digit_is (get_or c.args.word.now c.loop-byte.byte-index 0) (sym c.is_ascii_digit.ensures.value ∙ c.if-not-is_ascii_digit.false) in
    number_of_large c.args.word.now (front_too_large c.args.word.now c.loop-byte.byte-index (search rules) (omega (arith, c.loop-byte.invariant.value)))

pub loop-byte-preserved : goal.loop-byte-preserved
loop-byte-preserved c =
    let d = digit_is (get_or c.args.word.now c.loop-byte.byte-index 0) (sym c.is_ascii_digit.ensures.value ∙ c.if-not-is_ascii_digit.false) in
    let e = digits_value_more 10 c.args.word.now c.loop-byte.byte-index (search rules) in
    record {
      digits = all_digits_more c.args.word.now c.loop-byte.byte-index (search rules) c.loop-byte.invariant.digits (omega arith);
      value = omega arith;
    }

pub returns-then-value : goal.returns-then-value
returns-then-value c =
    let d = digit_is (get_or c.args.word.now c.loop-byte.byte-index 0) (sym c.is_ascii_digit.ensures.value ∙ c.if-not-is_ascii_digit.false) in
    number_of_large c.args.word.now (front_too_large c.args.word.now c.loop-byte.byte-index (search rules) (omega (arith, c.loop-byte.invariant.value)))
