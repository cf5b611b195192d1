-- The lag is a span that ends at the last acknowledged update. A site that reported as much or more has an empty one.
use Rattle.std.proofs.Common.{arith, refl, ap, ◌≡◌, ◌-◌}
use Rattle.ordup_primary.specs.Primaries.{PrimaryState, progress_at}
use Rattle.ordup_primary.specs.PrimaryInside.{state_of}
use Rattle.ordup_primary.proofs.RelimitLemmas.{known-in_log}
use Rattle.ordup_primary.proofs.primary.Primary.lag_on.Goals as goal

pub reported-reported-requires : goal.reported-reported-requires
reported-reported-requires g c = c.requires.site

pub returns-then-reported-self : goal.returns-then-reported-self
returns-then-reported-self g c =
    let p = c.args.self.now in
    let none : p.acked - (progress_at p c.args.site).reported ≡ 0 =
    omega (arith, c.if-reported-self.true, c.reported-reported.ensures, ap (λ (q : PrimaryState). q.acked) c.self.view_is) in
    rw none refl

pub span-requires : goal.span-requires
span-requires g c =
    let is = c.self.invariant.primary in
    record {
      forward = omega (arith, c.if-reported-self.false);
      last = omega (arith, is.acked, is.decided);
      known = rw c.groups.ensures.groups (known-in_log (state_of c.self.inside) c.args.scope.now is (rw (← c.self.view_is) at c.requires.known));
    }

pub returns : goal.returns
returns g c =
    let reported = rw (← c.self.view_is) at c.reported-reported.ensures in
    rw (← c.self.view_is) (rw (c.groups.ensures.groups, reported) at c.span.ensures.span)
