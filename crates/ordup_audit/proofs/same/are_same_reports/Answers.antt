use Rattle.ordup_audit.proofs.Common.{rules, slice_eq-Decides}
use Rattle.ordup_audit.specs.declared.report_change.ReportChange.{ReportChange}
use Rattle.ordup_audit.proofs.same.are_same_reports.Goals as goal

pub returns : goal.returns
returns c = slice_eq-Decides {A = ReportChange} (λ a b. search rules) c.args.these.now c.args.those.now c.eq.result c.eq.ensures
