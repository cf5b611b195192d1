-- A number has no more digits than the spare capacity takes. Written up to their end, they begin where the text ended.
use Rattle.std.proofs.Common.{arith, ◌≡◌}
use Rattle.std.proofs.lemmas.Grind.{common_steps}
use Rattle.std.proofs.lemmas.Fmt.{length-decimal-le}
use Rattle.ordup_text.proofs.DigitLemmas.{take-placed}
use Rattle.ordup_text.proofs.text_buffer.TextBuffer.put_number.Goals as goal

pub overflow_add-end : goal.overflow_add-end
overflow_add-end g c =
    let few = length-decimal-le 20 c.args.number (omega arith) (omega arith) (omega arith) in
    grind (arith, common_steps)

pub write_digits-requires : goal.write_digits-requires
write_digits-requires g c =
    let few = length-decimal-le 20 c.args.number (omega arith) (omega arith) (omega arith) in
    (grind (arith, common_steps), grind (arith, common_steps))

pub returns-clause-text : goal.returns-clause-text
returns-clause-text g c =
    let written = c.write_digits.ensures in
    let start : c.write_digits.result ≡ c.self.inside.len = omega (arith, written.start, c.digit_count.ensures) in
    grind (arith, common_steps, take-placed)

pub returns-clause-spare : goal.returns-clause-spare
returns-clause-spare g c =
    let few = length-decimal-le 20 c.args.number (omega arith) (omega arith) (omega arith) in
    grind (arith, common_steps)
