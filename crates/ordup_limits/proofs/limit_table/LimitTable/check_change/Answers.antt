use Rattle.ordup_limits.specs.Entries.{entry_of}
use Rattle.ordup_limits.proofs.EntryLemmas.{latest-changed}
use Rattle.ordup_limits.proofs.limit_table.LimitTable.check_change.Goals as goal

pub has_spare-requires-clause-changed : goal.has_spare-requires-clause-changed
has_spare-requires-clause-changed g c =
    let are = c.self.invariant.entries in
    rw (c.as_slice.ensures.value, c.self.invariant.limits)
    (latest-changed c.self.inside.entries.items (entry_of c.args.scope c.args.amount c.args.place) are.distinct are.rising
    (rw (← c.self.view_is) at c.requires))
