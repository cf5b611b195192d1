-- Masks that were never put down have no bit, which is what filling them asks for. The others are right already.
use Rattle.std.proofs.Common.{ap, sym, true}
use Rattle.std.proofs.lemmas.Bool.{false≢true}
use Rattle.ordup_limits.specs.Ledgers.{LedgerState}
use Rattle.ordup_limits.proofs.lag_ledger.LagLedger.prepare.Goals as goal

pub fill-requires-clause-known : goal.fill-requires-clause-known
fill-requires-clause-known g c =
    let known = rw (← c.self.view_is) at c.requires.known.1 in
    (c.requires.known.0, known)

pub invariant_of-self : goal.invariant_of-self
invariant_of-self g c =
    let before = c.self.invariant in
    record {
      ledger = record {
        few = before.ledger.few;
        last = before.ledger.last;
        empty = λ e. absurd (false≢true (sym e));
      };
      count = before.count;
    }

pub returns : goal.returns
returns g c = record {
  masks = c.fill.ensures;
  rest = ap (λ (l : LedgerState). record l { masks = c.fill.new.self; has_masks = true }) c.self.view_is;
}
