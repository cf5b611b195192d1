-- The changes rise by place, and all before this place are passed. So only the next change can be at the place.
use Rattle.std.proofs.Common.{arith, ◌-◌, ◌+◌, ◌≡◌}
use Rattle.ordup_audit.proofs.CursorLemmas.{reports-more, reports-same}
use Rattle.ordup_audit.proofs.cursors.pass_reports.Goals as goal
use Rattle.ordup_audit.proofs.cursors.pass_reports.Goals.{else-passed-changes-via-then-passed-changes+else-changes-passed}
use Rattle.ordup_audit.proofs.cursors.pass_reports.Goals.{else-passed-changes-via-else-passed-changes}

pub returns-then-changes-passed : goal.returns-then-changes-passed
returns-then-changes-passed c =
    let now : (c.args.place - 1) + 1 ≡ c.args.place = omega arith in
    reports-more c.args.changes.now (c.args.place - 1) c.args.passed c.args.place _ c.requires.ascending
    (c.requires.before (c.args.place - 1) now) c.if-passed-changes.true c.if-changes-passed.true now

pub returns : goal.returns
returns c =
    let now : (c.args.place - 1) + 1 ≡ c.args.place = omega arith in
    reports-same c.args.changes.now (c.args.place - 1) c.args.passed c.args.place (record { place = 0; reported = 0 })
    c.requires.ascending (c.requires.before (c.args.place - 1) now)
    (λ there here. elim c.else-passed-changes.branch [
      | else-passed-changes-via-then-passed-changes+else-changes-passed w ↦ w.if-changes-passed.false here
      | else-passed-changes-via-else-passed-changes w ↦ absurd (omega arith)
    ]) now
