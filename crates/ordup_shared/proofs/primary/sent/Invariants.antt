use Rattle.std.proofs.Common.{◌≡◌, ◌≤◌, ◌*◌, sum_by, take}
use Rattle.ordup_shared.proofs.primary.sent.Given as goal

abbrev pub invariant-loop-index : goal.invariant-loop-index
invariant-loop-index l = (l.sent ≡ sum_by (λ site. site.sent) (take l.index l.primary.sites)) × (l.sent ≤ 1000000 * l.index)
