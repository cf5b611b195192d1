use Rattle.std.proofs.Common.{Err, Ok, ap, refl}
use Rattle.ordup_cli.proofs.plans.run_plan.Goals as goal

pub returns-in-Ok-run_threads : goal.returns-in-Ok-run_threads
returns-in-Ok-run_threads g c = (
  Ok c.in-Ok.plan,
  c.in-Ok.ensures,
  (Ok c.in-Ok-run_threads.text.text, (c.in-Ok-run_threads.ensures.outcome, rw c.as_slice.ensures at c.print.ensures)),
)

pub returns-in-Err-run_threads : goal.returns-in-Err-run_threads
returns-in-Err-run_threads g c = (
  Ok c.in-Ok.plan,
  c.in-Ok.ensures,
  (Err c.in-Err-run_threads.refusal, (ap Err c.fault_of.ensures, refl)),
)
