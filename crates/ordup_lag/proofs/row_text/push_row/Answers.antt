-- What came before is few, and a record tells no more than there are updates. So the sums fit, and the cells are those of the row.
use Rattle.std.proofs.Common.{◌∙◌, ap, arith, length, refl, sym}
use Rattle.std.specs.Prelude.{◌==◌, min}
use Rattle.std.specs.List.{list_any}
use Rattle.ordup_limits.specs.Entries.{latest}
use Rattle.ordup_audit.specs.Records.{history_of}
use Rattle.ordup_lag.proofs.LagLemmas.{report_at-few, row_written}
use Rattle.ordup_lag.proofs.row_text.push_row.Goals as goal

pub push_uses-requires-clause-cells : goal.push_uses-requires-clause-cells
push_uses-requires-clause-cells g c =
    let scopes = c.len.ensures.len ∙ ap (λ entries. length (latest entries)) c.limits.ensures in
    omega (arith, scopes, c.requires.limits)

pub overflow_add-before-2 : goal.overflow_add-before-2
overflow_add-before-2 g c =
    let few = report_at-few c.args.audited.now.reports c.args.place c.keeps.ensures.reports.reported in
    omega (arith, few, c.reported_at.ensures, c.requires.before.places)

pub returns-clause-text : goal.returns-clause-text
returns-clause-text g c =
    let r = c.args.audited.now in
    let k = c.args.place in
    let at = c.requires.stands in
    let scopes = c.len.ensures.len ∙ ap (λ entries. length (latest entries)) c.limits.ensures in
    let uses = rw (at.same, at.from, at.to, scopes) at (c.in_ok-push_uses.ensures.text (history_of r) r.groups at.stands) in
    row_written _ c.args.before r k (length (latest r.limits)) _ _ _ _ _ _ _ _ _ _ _ (ap (λ n. min n k) (sym c.reported_at.ensures))
    c.reported_at.ensures refl
    (c.has_round.ensures ∙ ap (λ rounds. list_any (λ p. p == k) rounds) c.rounds.ensures)
    c.window_number.ensures
    c.in_ok-push_number.ensures c.in_ok-push_with_number.ensures uses c.in_ok-push_round.ensures
    c.push_window.ensures
