-- Each event is a step of the store or of the open queries, and either is a step of the world.
use Rattle.std.proofs.Common.{refl}
use Rattle.ordup_world.specs.StoreInside.{state_of}
use Rattle.ordup_world.proofs.QueryStepLemmas.{stepped}
use Rattle.ordup_world.proofs.world.World.take.Goals as goal

pub invariant_of-self : goal.invariant_of-self
invariant_of-self g c = (stepped c.self.invariant refl c.propose.ensures).sound

pub returns-in-Propose : goal.returns-in-Propose
returns-in-Propose g c = rw (← c.self.view_is, c.in-Propose.is) (stepped c.self.invariant refl c.propose.ensures)

pub invariant_of-self-in-Send : goal.invariant_of-self-in-Send
invariant_of-self-in-Send g c = (stepped c.self.invariant refl c.send.ensures).sound

pub returns-in-Send : goal.returns-in-Send
returns-in-Send g c = rw (← c.self.view_is, c.in-Send.is) (stepped c.self.invariant refl c.send.ensures)

pub invariant_of-self-in-Apply : goal.invariant_of-self-in-Apply
invariant_of-self-in-Apply g c = (stepped c.self.invariant refl c.apply.ensures).sound

pub returns-in-Apply : goal.returns-in-Apply
returns-in-Apply g c = rw (← c.self.view_is, c.in-Apply.is) (stepped c.self.invariant refl c.apply.ensures)

pub invariant_of-self-in-Report : goal.invariant_of-self-in-Report
invariant_of-self-in-Report g c = (stepped c.self.invariant refl c.report.ensures).sound

pub returns-in-Report : goal.returns-in-Report
returns-in-Report g c = rw (← c.self.view_is, c.in-Report.is) (stepped c.self.invariant refl c.report.ensures)

pub invariant_of-self-in-Settle : goal.invariant_of-self-in-Settle
invariant_of-self-in-Settle g c = (stepped c.self.invariant refl c.settle.ensures).sound

pub returns-in-Settle : goal.returns-in-Settle
returns-in-Settle g c = rw (← c.self.view_is, c.in-Settle.is) (stepped c.self.invariant refl c.settle.ensures)

pub invariant_of-self-in-Relimit : goal.invariant_of-self-in-Relimit
invariant_of-self-in-Relimit g c = (stepped c.self.invariant refl c.relimit.ensures).sound

pub returns-in-Relimit : goal.returns-in-Relimit
returns-in-Relimit g c = rw (← c.self.view_is, c.in-Relimit.is) (stepped c.self.invariant refl c.relimit.ensures)

pub invariant_of-self-in-End : goal.invariant_of-self-in-End
invariant_of-self-in-End g c = (c.end.ensures (state_of c.self.inside.store) c.self.invariant).sound

pub returns-in-End : goal.returns-in-End
returns-in-End g c = rw (← c.self.view_is, c.in-End.is) (c.end.ensures (state_of c.self.inside.store) c.self.invariant)

pub invariant_of-self-in-Abandon : goal.invariant_of-self-in-Abandon
invariant_of-self-in-Abandon g c = (c.abandon.ensures (state_of c.self.inside.store) c.self.invariant).sound

pub returns-in-Abandon : goal.returns-in-Abandon
returns-in-Abandon g c = rw (← c.self.view_is, c.in-Abandon.is) (c.abandon.ensures (state_of c.self.inside.store) c.self.invariant)

pub returns-in-Show : goal.returns-in-Show
returns-in-Show g c = rw (← c.self.view_is, c.in-Show.is) (stepped c.self.invariant refl c.show.ensures)
