use Rattle.ordup_audit.proofs.Common.{Change, rules, slice_eq-Decides}
use Rattle.ordup_audit.proofs.same.is_same_set.Goals as goal

pub returns : goal.returns
returns g c =
    rw (← c.changes.ensures.changes, ← c.changes-2.ensures.changes) (slice_eq-Decides {A = Change} (λ a b. search rules)
    c.changes.result.now c.changes-2.result.now c.eq.result c.eq.ensures)
