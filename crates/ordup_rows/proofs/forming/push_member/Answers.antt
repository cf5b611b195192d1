use Rattle.ordup_rows.proofs.FormLemmas.{name_at-is}
use Rattle.ordup_rows.proofs.forming.push_member.Goals as goal

pub returns-clause-text : goal.returns-clause-text
returns-clause-text g c =
    rw (name_at-is c.args.objects.now c.args.object c.name.result.now c.name.ensures)
    (rw (c.as_bytes.ensures.value, c.format-counter.ensures.text, c.as_bytes-2.ensures.bytes, c.as_bytes-3.ensures.bytes)
    at c.push_row.ensures.text)
