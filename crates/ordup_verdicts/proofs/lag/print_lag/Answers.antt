use Rattle.ordup_verdicts.proofs.Outcomes.{called_valid, judged, lag_printed}
use Rattle.ordup_verdicts.proofs.lag.print_lag.Goals as goal

pub print_judged-printed-requires : goal.print_judged-printed-requires
print_judged-printed-requires g c = called_valid _ _ c.check-verdict.ensures.fewest

pub returns-in-Ok : goal.returns-in-Ok
returns-in-Ok g c = lag_printed _ _ _ _ (
  c.in-Ok.audited,
  c.check-verdict.result,
  c.in-Ok.ensures.limited,
  c.in-Ok.ensures.read,
  judged _ _ c.check-verdict.ensures.verdict c.check-verdict.ensures.fewest c.check-verdict.ensures.valid,
  c.print_judged-printed.ensures,
)
