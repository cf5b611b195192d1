use Rattle.ordup_audit.proofs.Common.{◌∙◌, ◌≡◌, ap, length}
use Rattle.ordup_rows.specs.Forming.{text_so_far}
use Rattle.ordup_rows.specs.Rows.{counted, first_row, limit_row, member_rows, object_row}
use Rattle.ordup_rows.specs.Versions.{version_for}
use Rattle.ordup_rows.proofs.FormLemmas.{first_written}
use Rattle.ordup_rows.proofs.forming.push_first_rows.Goals as goal

pub returns-clause-text : goal.returns-clause-text
returns-clause-text g c =
    let r = c.args.audited.now in
    let version = version_for r.limits in
    let is : c.of-version.result ≡ version = c.of-version.ensures ∙ ap version_for (c.entries-entries.ensures ∙ c.limits.ensures) in
    first_written (first_row version r.site (length r.sets)) (counted object_row 1 r.objects) (member_rows r.objects 1 r.groups)
    (counted (limit_row version r.objects r.groups) 1 r.limits) (text_so_far c.args.rows.now) _ _ _ _
    (rw (is, c.as_bytes.ensures.bytes, c.site.ensures, c.decided.ensures) at c.in_ok-push_head.ensures.text)
    (rw c.objects.ensures at c.in_ok-push_objects.ensures.text)
    (rw (c.objects-2.ensures, c.groups.ensures) at c.in_ok-push_groups.ensures.text)
    (rw (is, c.objects-3.ensures, c.groups-2.ensures, c.entries-entries.ensures, c.limits.ensures) at c.in_ok-push_limits.ensures.text)
