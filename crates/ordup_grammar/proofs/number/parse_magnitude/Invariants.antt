use Rattle.std.proofs.Common.{◌≡◌, ◌+◌, ◌^◌, ◌≤◌, drop}
use Rattle.std.specs.Str.{all_ascii_digits}
use Rattle.std.specs.Str.Parse.{digits_value_after}
use Rattle.ordup_grammar.proofs.number.parse_magnitude.Given as goal

abbrev pub invariant-loop-digit : goal.invariant-loop-digit
invariant-loop-digit l = record {
  value : digits_value_after 10 l.magnitude (drop l.digit-index l.digits) ≡ digits_value_after 10 0 l.digits;
  digits : all_ascii_digits (drop l.digit-index l.digits) ≡ all_ascii_digits l.digits;
  bound : l.magnitude + 1 ≤ 10 ^ l.digit-index;
}
