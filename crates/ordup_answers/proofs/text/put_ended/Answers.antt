use Rattle.std.proofs.Common.{rules, w64}
use Rattle.std.proofs.lemmas.Int.{to_z-of_z}
use Rattle.ordup_answers.proofs.TextLemmas.{ended_parts}
use Rattle.ordup_answers.proofs.text.put_ended.Goals as goal

pub returns : goal.returns
returns g c =
    rw (
      c.put_array-2.ensures.text,
      c.put_with_number-3.ensures.text,
      c.put_with_number-2.ensures.text,
      c.put_with_value.ensures.text,
      c.put_with_number.ensures.text,
      c.put_name.ensures.text,
      c.put_array.ensures.text,
      to_z-of_z w64 c.args.answer.sum (search rules),
    )
    (ended_parts c.args.out.now.text c.args.query.now c.args.answer)
