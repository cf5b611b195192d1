use Rattle.ordup_verdicts.proofs.Outcomes.{judged, verdict_printed}
use Rattle.ordup_verdicts.proofs.check.check_record.Goals as goal

pub returns-in-Ok : goal.returns-in-Ok
returns-in-Ok g c = verdict_printed _ _ _ _ (
  c.in-Ok.audited,
  c.check-verdict.result,
  c.in-Ok.ensures.limited,
  c.in-Ok.ensures.read,
  judged _ _ c.check-verdict.ensures.verdict c.check-verdict.ensures.fewest c.check-verdict.ensures.valid,
  c.print_verdict.ensures,
)
