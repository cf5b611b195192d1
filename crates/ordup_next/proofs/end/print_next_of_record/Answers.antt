use Rattle.ordup_verdicts.proofs.Outcomes.{called_valid, judged}
use Rattle.ordup_next.proofs.Outcomes.{end_printed}
use Rattle.ordup_next.proofs.end.print_next_of_record.Goals as goal

pub print_end-printed-requires : goal.print_end-printed-requires
print_end-printed-requires g c = called_valid _ _ c.check-verdict.ensures.fewest

pub returns-in-Ok : goal.returns-in-Ok
returns-in-Ok g c = end_printed _ _ _ _ (
  c.in-Ok.audited,
  c.check-verdict.result,
  c.in-Ok.ensures.limited,
  c.in-Ok.ensures.read,
  judged _ _ c.check-verdict.ensures.verdict c.check-verdict.ensures.fewest c.check-verdict.ensures.valid,
  c.print_end-printed.ensures,
)
