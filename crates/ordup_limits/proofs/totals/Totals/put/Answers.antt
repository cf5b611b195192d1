use Rattle.std.proofs.Common.{arith}
use Rattle.ordup_limits.proofs.RaisedLemmas.{HaveTotalAt-set}
use Rattle.ordup_limits.proofs.totals.Totals.put.Goals as goal

pub returns : goal.returns
returns g c =
    rw (← c.self.view_is)
    (HaveTotalAt-set c.self.inside.totals.items c.args.limit c.args.total (omega (arith, c.requires, c.self.invariant)))
