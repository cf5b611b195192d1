use Rattle.ordup_audit.proofs.Common.{rules, slice_eq-Decides, Window}
use Rattle.ordup_audit.proofs.same.are_same_windows.Goals as goal

pub returns : goal.returns
returns c = slice_eq-Decides {A = Window} (λ a b. search rules) c.args.these.now c.args.those.now c.eq.result c.eq.ensures
