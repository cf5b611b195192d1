-- No limit is allowed less than before, so one that was not passed is not passed now. Those that were are looked at again.
use Rattle.std.proofs.Common.{arith, refl}
use Rattle.ordup_limits.proofs.PassedLemmas.{kept-allowed}
use Rattle.ordup_limits.proofs.lag_weights.LagWeights.report.Goals as goal

pub add_updates-requires : goal.add_updates-requires
add_updates-requires g c = record {
  forward = rw (← c.self.view_is) at c.requires.forward;
  last = c.requires.last;
  objects = c.requires.objects;
  few = rw (← c.self.view_is) at c.requires.few;
}

pub passed_among-self-inside-requires : goal.passed_among-self-inside-requires
passed_among-self-inside-requires g c =
    kept-allowed c.self.inside.passed c.self.inside.added c.self.inside.allowed c.add_updates.new.self c.self.invariant.passed
    (λ i few. omega (arith, c.add_updates.ensures.each i few))

pub invariant_of-self : goal.invariant_of-self
invariant_of-self g c = record { passed = c.passed_among-self-inside.ensures; fits = c.passed_among-self-inside.type_inv }

pub returns : goal.returns
returns g c = rw (← c.self.view_is) (record { rest = refl; allowed = c.add_updates.ensures })
