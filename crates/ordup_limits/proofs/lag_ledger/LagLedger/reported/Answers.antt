-- What is allowed for a limit is its amount with what the updates up to the reported place weigh.
-- Raised by the updates that are newly reported, it is that of the later place. What was added stays.
use Rattle.std.proofs.Common.{arith, ap, refl, length, ◌≤◌}
use Rattle.ordup_limits.specs.LagWeights.{LagWeightsAt}
use Rattle.ordup_limits.specs.Ledgers.{LedgerState}
use Rattle.ordup_limits.specs.LagLedgerInside.{ledger_of}
use Rattle.ordup_limits.proofs.RaisedLemmas.{AreAllowed-raised}
use Rattle.ordup_limits.proofs.LedgerLemmas.{StandsFor-prepared}
use Rattle.ordup_limits.proofs.lag_ledger.LagLedger.reported.Goals as goal

pub prepare-requires : goal.prepare-requires
prepare-requires g c = record {
  known = (length c.args.log.now.start, c.requires.stands.known);
  masks = c.requires.stands.masks;
}

pub report-requires : goal.report-requires
report-requires g c =
    let masks = rw (← c.self-2.view_is) at c.prepare.ensures.masks in
    let rest = rw (← c.self-2.view_is) at c.prepare.ensures.rest in
    let now = StandsFor-prepared (ledger_of c.self-2.inside) c.requires.stands rest masks in
    record {
      forward = omega (arith, c.requires.forward, ap (λ (k : LedgerState). k.reported) rest);
      last = c.requires.last;
      objects = now.objects;
      few = now.allowed.few;
    }

pub invariant_of-self : goal.invariant_of-self
invariant_of-self g c =
    let before = c.self-2.invariant in
    record {
      ledger = record {
        few = before.ledger.few;
        last = omega (arith, ap (λ (w : LagWeightsAt). w.extended) c.report.ensures.rest, before.ledger.last);
        empty = before.ledger.empty;
      };
      count = before.count;
    }

pub returns : goal.returns
returns g c =
    let masks = rw (← c.self-2.view_is) at c.prepare.ensures.masks in
    let rest = rw (← c.self-2.view_is) at c.prepare.ensures.rest in
    let now = StandsFor-prepared (ledger_of c.self-2.inside) c.requires.stands rest masks in
    let forward : c.self-2.inside.weights.reported ≤ c.args.to =
    omega (arith, c.requires.forward, ap (λ (k : LedgerState). k.reported) rest) in
    rw c.report.ensures.rest (record {
      limits = ap (λ (k : LedgerState). k.limits) rest;
      places = (refl, ap (λ (k : LedgerState). k.extended) rest);
      stands = record {
        objects = now.objects;
        known = now.known;
        reported = c.requires.last;
        extended = now.extended;
        allowed = AreAllowed-raised c.self-2.inside.masks c.keeps.ensures.legal c.keeps-2.ensures.groups now.known now.objects
            c.self-2.invariant.ledger.few masks forward c.requires.last now.allowed c.report.ensures.allowed;
        added = now.added;
        masks = now.masks;
      };
    })
