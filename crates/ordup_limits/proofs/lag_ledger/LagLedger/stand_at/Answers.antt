-- The limits and the masks depend on no place.
-- So the ledger is still one of this log, once its weights are those of the two places.
use Rattle.std.proofs.Common.{arith, ap}
use Rattle.ordup_limits.specs.Ledgers.{LedgerState}
use Rattle.ordup_limits.proofs.lag_ledger.LagLedger.stand_at.Goals as goal

pub stand_at-requires : goal.stand_at-requires
stand_at-requires g c =
    let stands = rw (← c.self.view_is) at c.requires.stands in
    record {
      reported = c.requires.reported;
      extended = c.requires.extended;
      known = stands.known;
      weights = record { added = stands.added; allowed = stands.allowed };
    }

pub invariant_of-self : goal.invariant_of-self
invariant_of-self g c =
    let before = c.self.invariant in
    record {
      ledger = record {
        few = before.ledger.few;
        last = omega (arith, c.stand_at.ensures.places.1, c.requires.extended, c.keeps.ensures.few);
        empty = before.ledger.empty;
      };
      count = before.count;
    }

pub returns-clause-limits : goal.returns-clause-limits
returns-clause-limits g c = ap (λ (k : LedgerState). k.limits) c.self.view_is

pub returns-clause-places : goal.returns-clause-places
returns-clause-places g c = c.stand_at.ensures.places

pub returns-clause-stands : goal.returns-clause-stands
returns-clause-stands g c =
    let stands = rw (← c.self.view_is) at c.requires.stands in
    let places = c.stand_at.ensures.places in
    record {
      objects = stands.objects;
      known = stands.known;
      reported = omega (arith, places.0, c.requires.reported);
      extended = omega (arith, places.1, c.requires.extended);
      added = c.stand_at.ensures.weights.added;
      allowed = c.stand_at.ensures.weights.allowed;
      masks = stands.masks;
    }
