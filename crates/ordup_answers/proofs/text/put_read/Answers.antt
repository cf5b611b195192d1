-- The pieces come in the order of the text. A value fits into 64 bits, so its digits are those of the number that was read.
use Rattle.std.proofs.Common.{rules, w64}
use Rattle.std.proofs.lemmas.Int.{to_z-of_z}
use Rattle.ordup_answers.proofs.TextLemmas.{read_parts}
use Rattle.ordup_answers.proofs.text.put_read.Goals as goal

pub returns : goal.returns
returns g c =
    rw (
      c.put_array-6.ensures.text,
      c.put_number-2.ensures.text,
      c.put_array-5.ensures.text,
      c.put_number.ensures.text,
      c.put_array-4.ensures.text,
      c.put_value.ensures.text,
      c.put_array-3.ensures.text,
      c.put_name-2.ensures.text,
      c.put_array-2.ensures.text,
      c.put_name.ensures.text,
      c.put_array.ensures.text,
      to_z-of_z w64 c.args.answer.value (search rules),
    )
    (read_parts c.args.out.now.text c.args.query.now c.args.object.now c.args.answer)
