use Rattle.std.proofs.Common.{arith, length, ◌≤◌}
use Rattle.ordup_objects.specs.Sizes.{most_updates}
use Rattle.ordup_audit.proofs.AscendingLemmas.{reports-few, rounds-few}
use Rattle.ordup_audit.proofs.rows.rows_before_windows.Goals as goal

pub returns-clause-few : goal.returns-clause-few
returns-clause-few g c =
    let r = c.args.audited.now in
    let few : length r.sets ≤ most_updates = c.decided.ensures.sound.few in
    let reports : length c.reports.result.now ≤ length r.sets =
    rw c.reports.ensures (reports-few (length r.sets) r.reports c.decided.ensures.sound.reports) in
    let rounds : length c.rounds.result.now ≤ length r.sets =
    rw c.rounds.ensures (rounds-few (length r.sets) r.rounds c.decided.ensures.sound.rounds) in
    omega (arith, c.rows_before_changes.ensures.few, c.change_count-changes.ensures.few)
