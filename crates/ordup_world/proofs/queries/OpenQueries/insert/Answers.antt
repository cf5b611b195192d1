use Rattle.std.proofs.Common.{◌∙◌}
use Rattle.ordup_world.proofs.queries.OpenQueries.insert.Goals as goal

pub returns-clause-found : goal.returns-clause-found
returns-clause-found g c q = rw (← c.self.view_is) (c.in_ok-insert.ensures.updates.0 q)

pub returns-clause-len : goal.returns-clause-len
returns-clause-len g c =
    let none = c.in_ok-insert.ensures.old ∙ rw (← c.self.view_is) at c.requires in
    rw (← c.self.view_is) (rw none at c.in_ok-insert.ensures.len)
