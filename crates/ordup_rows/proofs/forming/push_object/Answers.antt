-- The columns are formed from what the table has of the object: one more than its index, its name and its initial value.
use Rattle.ordup_audit.proofs.Common.{◌∙◌, get_or-map, List, pos, rules, to_z-of_z, w64, ℕ, ℤ}
use Rattle.ordup_objects.proofs.SameLemmas.{first-at}
use Rattle.ordup_rows.proofs.forming.push_object.Goals as goal

pub returns-clause-text : goal.returns-clause-text
returns-clause-text g c = λ d.
    let objects = c.args.objects.now in
    let name = first-at objects c.args.object d c.name.result.now c.requires.known c.name.ensures in
    let value = c.initial.ensures ∙ get_or-map (λ (e : List ℕ × ℤ). e.1) objects c.args.object d (pos 0) c.requires.known in
    let same = to_z-of_z w64 c.initial.result (search rules) in
    rw (
      c.as_bytes.ensures.value,
      c.format-counter.ensures.text,
      c.index.ensures,
      c.as_bytes-2.ensures.bytes,
      name,
      c.as_bytes-3.ensures.value,
      c.format-value.ensures.text,
      same,
      value,
    ) at c.push_row.ensures.text
