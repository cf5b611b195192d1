use Rattle.std.proofs.Common.{sym, refl}
use Rattle.std.proofs.Common.{arith}
use Rattle.std.proofs.lemmas.Fmt.{decimal_digit}
use Rattle.ordup_text.proofs.DigitLemmas.{length-decimal}
use Rattle.ordup_text.proofs.text_buffer.digit_count.Goals as goal

pub returns-in-Some : goal.returns-in-Some
returns-in-Some c =
    let some = c.in-Some in
    sym (length-decimal c.args.number some.power c.ranges.number.fits some.ensures.power_le some.ensures.next_power_gt)

pub returns-in-None : goal.returns-in-None
returns-in-None c = rw (c.in-None.ensures.none, decimal_digit 0 (omega arith)) refl
