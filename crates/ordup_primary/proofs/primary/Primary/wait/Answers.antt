-- The head is acknowledged where no site is waited for. It was decided before, so neither ledgers nor reports change.
use Rattle.std.proofs.Common.{arith, ◌∙◌, ◌≡◌, ◌==◌, ap, refl, length}
use Rattle.ordup_primary.specs.Primaries.{PrimaryState, acked_after, waiting_now}
use Rattle.ordup_primary.specs.PrimaryInside.{state_of}
use Rattle.ordup_primary.proofs.PrimaryLemmas.{IsPrimary-acked, nil-from_empty, acked-none, acked-some}
use Rattle.ordup_primary.proofs.PrimaryLemmas.{acked_or_waiting-none, acked_or_waiting-some}
use Rattle.ordup_primary.proofs.LedgerLemmas.{HasLedger-kept}
use Rattle.ordup_primary.proofs.primary.Primary.wait.Goals as goal

pub invariant_of-self : goal.invariant_of-self
invariant_of-self g c =
    let waiting = c.as_slice.ensures ∙ rw (← c.self.view_is) at c.waiting_now-waiting.ensures in
    record {
      primary =
          IsPrimary-acked (state_of c.self.inside) c.as_slice.result.now c.args.head c.self.invariant.primary
          (rw (← c.self.view_is) at c.requires.later) (rw (← c.self.view_is) at c.requires.head) waiting
          (nil-from_empty c.as_slice.result.now c.if-is_empty.ensures);
      ledger =
          HasLedger-kept (state_of c.self.inside) (record (state_of c.self.inside) { acked = c.args.head }) c.self.inside.ledger
          c.self.invariant.ledger refl refl refl (omega (arith, rw (← c.self.view_is) at c.requires.head))
          c.self.invariant.ledger.decided refl (λ s lt. refl);
      kept = c.self.invariant.kept;
    }

pub returns-then-is_empty-clause-later : goal.returns-then-is_empty-clause-later
returns-then-is_empty-clause-later g c =
    let p = state_of c.self.inside in
    let waiting = c.as_slice.ensures ∙ rw (← c.self.view_is) at c.waiting_now-waiting.ensures in
    let after : c.args.head ≡ acked_after p.acked (waiting_now p) =
    acked-none p.acked c.args.head c.as_slice.result.now c.if-is_empty.ensures (rw (← c.self.view_is) at c.requires.head)
    ∙ ap (acked_after p.acked) waiting in
    rw (← c.self.view_is) (ap (λ acked. let q : PrimaryState = record p { acked = acked } in q) after)

pub returns-then-is_empty-clause-answer : goal.returns-then-is_empty-clause-answer
returns-then-is_empty-clause-answer g c =
    let waiting = c.as_slice.ensures ∙ rw (← c.self.view_is) at c.waiting_now-waiting.ensures in
    rw (← c.self.view_is, ← waiting, ← rw (← c.self.view_is) at c.requires.head)
    (acked_or_waiting-none c.args.head c.as_slice.result.now c.if-is_empty.ensures)

pub returns-clause-answer : goal.returns-clause-answer
returns-clause-answer g c =
    let waiting = rw (← c.self.view_is) at c.waiting_now-waiting.ensures in
    rw (← c.self.view_is, ← waiting, ← rw (← c.self.view_is) at c.requires.head)
    (acked_or_waiting-some c.args.head c.waiting_now-waiting.result
    (c.if-is_empty.ensures ∙ ap (λ xs. length xs == 0) c.as_slice.ensures))

pub returns-clause-later : goal.returns-clause-later
returns-clause-later g c =
    let p = state_of c.self.inside in
    let waiting = c.as_slice.ensures ∙ rw (← c.self.view_is) at c.waiting_now-waiting.ensures in
    let after : p.acked ≡ acked_after p.acked (waiting_now p) =
    acked-some p.acked c.as_slice.result.now c.if-is_empty.ensures ∙ ap (acked_after p.acked) waiting in
    rw (← c.self.view_is) (ap (λ acked. let q : PrimaryState = record p { acked = acked } in q) after)
