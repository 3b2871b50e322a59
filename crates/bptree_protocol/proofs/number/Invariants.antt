use Rattle.std.proofs.Common.{◌≡◌, take, true}
use Rattle.std.specs.Str.{all_ascii_digits}
use Rattle.std.specs.Str.Parse.{digits_value}
use Rattle.bptree_protocol.proofs.number.Given as goal

-- The bytes read so far are digits, and `value` is the number that they write.
abbrev pub invariant-loop-byte : goal.invariant-loop-byte
invariant-loop-byte l = record {
  digits : all_ascii_digits (take l.byte-index l.word) ≡ true;
  value : l.value ≡ digits_value 10 (take l.byte-index l.word);
}
