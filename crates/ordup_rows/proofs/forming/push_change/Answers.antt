use Rattle.std.proofs.Common.{◌≡◌, ◌∙◌, ap, sym}
use Rattle.ordup_rows.specs.Rows.{change_text, operation_text}
use Rattle.ordup_rows.proofs.FormLemmas.{name_at-is}
use Rattle.ordup_rows.proofs.forming.push_change.Goals as goal

pub returns-clause-text : goal.returns-clause-text
returns-clause-text g c =
    let objects = c.args.objects.now in
    let name = name_at-is objects c.args.change.object c.name-object.result.now c.name-object.ensures in
    let word : c.put_change.new.column.items ≡ change_text objects c.args.change =
    c.in_ok-put_change.ensures ∙ ap (λ x. operation_text objects x c.args.change.op) (c.as_bytes.ensures.bytes ∙ sym name) in
    rw (
      c.as_bytes-2.ensures.value,
      c.format-number.ensures.text,
      c.as_bytes-3.ensures.value,
      c.format-position.ensures.text,
      c.as_slice.ensures.value,
      word,
    ) at c.push_row.ensures.text
