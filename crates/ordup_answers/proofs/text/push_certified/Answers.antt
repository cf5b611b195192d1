-- The pieces join to the text of the answer. No list has as many bytes as a saturated sum, so what was reserved is what all
-- pieces need, and each leaves enough for those behind it.
use Rattle.std.proofs.Common.{arith}
use Rattle.ordup_answers.proofs.TextLemmas.{certified_parts}
use Rattle.ordup_answers.proofs.text.push_certified.Goals as goal

pub returns-clause-text : goal.returns-clause-text
returns-clause-text g c =
    rw (
      c.put_array-3.ensures.text,
      c.put_windows.ensures.text,
      c.put_number.ensures.text,
      c.put_array-2.ensures.text,
      c.put_name.ensures.text,
      c.put_array.ensures.text,
      c.in_ok-reserve_answer.ensures.text,
    )
    (certified_parts c.args.out.now.text c.args.site.now c.args.rounds c.args.windows.now)

pub put_windows-requires : goal.put_windows-requires
put_windows-requires g c =
    omega (
      arith,
      c.saturating_mul.ensures,
      c.saturating_add.ensures,
      c.in_ok-reserve_answer.ensures.spare,
      c.in_ok-reserve_answer.ensures.most,
      c.put_array.ensures.spare,
      c.put_name.ensures.spare,
      c.put_array-2.ensures.spare,
      c.put_number.ensures.spare,
    )

pub put_array-requires-3 : goal.put_array-requires-3
put_array-requires-3 g c =
    omega (
      arith,
      c.saturating_mul.ensures,
      c.saturating_add.ensures,
      c.in_ok-reserve_answer.ensures.spare,
      c.in_ok-reserve_answer.ensures.most,
      c.put_array.ensures.spare,
      c.put_name.ensures.spare,
      c.put_array-2.ensures.spare,
      c.put_number.ensures.spare,
      c.put_windows.ensures.spare,
    )
