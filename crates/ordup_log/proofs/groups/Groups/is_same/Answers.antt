use Rattle.std.proofs.Common.{rules}
use Rattle.ordup_log.proofs.GroupLemmas.{same-groups}
use Rattle.ordup_log.proofs.groups.Groups.is_same.Goals as goal

pub returns : goal.returns
returns g c =
    rw (← c.self.view_is, ← c.other.view_is) (same-groups _ (λ v w. search rules) c.self.inside.groups c.other.inside.groups
    c.is_same.result c.is_same.ensures)
