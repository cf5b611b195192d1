use Rattle.ordup_answers.proofs.TextLemmas.{shown_parts}
use Rattle.ordup_answers.proofs.text.put_shown.Goals as goal

pub returns : goal.returns
returns g c =
    let n = c.args.numbers in
    rw (
      c.put_array-2.ensures.text,
      c.put_values.ensures.text,
      c.put_with_number-4.ensures.text,
      c.put_with_number-3.ensures.text,
      c.put_with_number-2.ensures.text,
      c.put_with_number.ensures.text,
      c.put_name.ensures.text,
      c.put_array.ensures.text,
    )
    (shown_parts c.args.out.now.text c.args.site.now
    (record { sent = n.sent; applied = n.applied; reported = n.reported; rounds = n.rounds }) c.args.objects.now
    c.args.values.now)
