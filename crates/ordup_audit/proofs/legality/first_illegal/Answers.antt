-- The log of a record ends before the first update that is illegal.
-- Where the record is not legal, that update is there, and the row is that of its first change whose result is out of range.
use Rattle.ordup_audit.proofs.Common.{◌+◌, ◌-◌, ◌<◌, ◌∙◌, ◌≡◌, [], ap, arith, Bool, Change, List, cases_lt, false, false≢true, get_or, History}
use Rattle.ordup_audit.proofs.Common.{history_of, inl, inr, IsLegalPrefix, IsLegalHistory, IsTrue, length, length-map, RecordState, sym, ℕ}
use Rattle.ordup_objects.proofs.SerialLemmas.{length-serial}
use Rattle.ordup_audit.proofs.LegalityLemmas.{front-all, illegal-row, known-at}
use Rattle.ordup_audit.proofs.legality.first_illegal.Goals as goal

-- the log has not all updates
not-all : (r : RecordState) (log : History) → IsLegalPrefix r log → (n : ℕ) (b : Bool) → n ≡ length log.sets
    → (IsLegalHistory (history_of r) → IsTrue b) → b ≡ false → n < length r.sets
not-all r log front n b count all none = elim (cases_lt n (length r.sets)) [
  | inl lt ↦ lt
  | inr le ↦ absurd (false≢true (sym none ∙ all (front-all r log front (omega arith))))
]

-- the update after those of the log
next-set : (r : RecordState) (n : ℕ) (set changes : List Change) → changes ≡ set → set ≡ get_or r.sets ((n + 1) - 1) []
    → changes ≡ get_or r.sets n []
next-set r n set changes e at =
    let same : (n + 1) - 1 ≡ n = omega arith in
    e ∙ at ∙ ap (λ k. get_or r.sets k []) same

pub returns-then-is_legal : goal.returns-then-is_legal
returns-then-is_legal g c = record { none = (c.is_legal.ensures.0 c.if-is_legal.true).legal; some = tt }

pub overflow_add-legal : goal.overflow_add-legal
overflow_add-legal g c = omega (arith, c.len-legal.ensures.len, c.len-legal.ensures.few)

pub set-requires : goal.set-requires
set-requires g c =
    let r = c.args.audited.now in
    let there = not-all r c.log-log.result.now c.log-log.ensures.front c.len-legal.result c.is_legal.result c.len-legal.ensures.len
    c.is_legal.ensures.1 c.if-is_legal.false in
    record { first = omega arith; last = omega (arith, there) }

pub first_out_of_range-requires : goal.first_out_of_range-requires
first_out_of_range-requires g c =
    let r = c.args.audited.now in
    let there = not-all r c.log-log.result.now c.log-log.ensures.front c.len-legal.result c.is_legal.result c.len-legal.ensures.len
    c.is_legal.ensures.1 c.if-is_legal.false in
    let set = next-set r c.len-legal.result c.set.result.now c.changes-changes.result.now c.changes-changes.ensures.changes c.set.ensures in
    let log = c.log-log.result.now in
    record {
      known = known-at (length r.objects) c.len-legal.result r.sets c.changes-changes.result.now c.end.result.now c.keeps.ensures.known
          there set
          (ap length c.end.ensures ∙ length-serial log (length log.sets) (omega arith) ∙ ap length c.log-log.ensures.front.start
          ∙ length-map r.objects _);
      numbers = rw c.changes-changes.ensures.changes c.changes-changes.ensures.set.numbers;
      illegal = rw (set, c.end.ensures, c.len-legal.ensures.len) (c.log-log.ensures.front.next (omega (arith, c.len-legal.ensures.len)));
    }

pub change_row-requires : goal.change_row-requires
change_row-requires g c =
    let r = c.args.audited.now in
    let there = not-all r c.log-log.result.now c.log-log.ensures.front c.len-legal.result c.is_legal.result c.len-legal.ensures.len
    c.is_legal.ensures.1 c.if-is_legal.false in
    let few = c.changes-changes.ensures.set.few in
    record {
      updates = omega (arith, there);
      index = omega (arith, c.first_out_of_range.ensures.there, ap length c.changes-changes.ensures.changes, few);
    }

pub returns-clause-some : goal.returns-clause-some
returns-clause-some g c =
    let r = c.args.audited.now in
    let there = not-all r c.log-log.result.now c.log-log.ensures.front c.len-legal.result c.is_legal.result c.len-legal.ensures.len
    c.is_legal.ensures.1 c.if-is_legal.false in
    let set = next-set r c.len-legal.result c.set.result.now c.changes-changes.result.now c.changes-changes.ensures.changes c.set.ensures in
    illegal-row r c.log-log.result.now c.log-log.ensures.front c.len-legal.result c.first_out_of_range.result c.change_row.result
    c.changes-changes.result.now c.len-legal.ensures.len there set (rw c.end.ensures at c.first_out_of_range.ensures)
    c.change_row.ensures
