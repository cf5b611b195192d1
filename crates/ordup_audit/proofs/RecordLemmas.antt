-- The parts of a record.
use Rattle.ordup_audit.proofs.Common.{◌++◌, ◌<◌, ◌∙◌, ◌∷◌, ◌≡◌, [], ap, append-nil, AreParts, arith, Bool, Change, eqb-true, false}
use Rattle.ordup_audit.proofs.Common.{false≢true, get_or, get_or-append_seam, History, history_of, is_legal, IsLegalHistory, IsTrue}
use Rattle.ordup_audit.proofs.Common.{length, List, nil_from_length, refl, serial, serial-longer, state_of, sym, true, with_more}
use Rattle.std.proofs.Common.{◌+◌, ◌-◌, ◌≤◌, length-append, take, ℕ}
use Rattle.std.proofs.Math.ListN.{get_or-append}
use Rattle.std.proofs.Math.Seq.{take-length}
use Rattle.std.proofs.lemmas.List.{get_or-append_right, get_or-take, get_or_default, length-take-le}
use Rattle.ordup_rounds.specs.declared.window.Window.{Window}
use Rattle.ordup_audit.specs.declared.report_change.ReportChange.{ReportChange}
use Rattle.std.specs.Prelude.{◌==◌}
use Rattle.ordup_audit.specs.declared.record.RecordParts.{RecordParts}

-- where the updates after those of a history begin with one that is not legal, a legal history has none of them
rest-none : (log : History) (rest : List (List Change))
    → (0 < length rest → is_legal (get_or rest 0 []) (serial log (length log.sets)) ≡ false)
    → IsLegalHistory (with_more log rest) → rest ≡ []
rest-none log [] bad legal = refl
rest-none log (m ∷ rest) bad legal =
    let there : length log.sets < length (log.sets ++ m ∷ rest) = omega (arith, length-append log.sets (m ∷ rest)) in
    let here : is_legal m (serial log (length log.sets)) ≡ true =
    rw (get_or-append_seam log.sets m rest [], serial-longer log (m ∷ rest) (length log.sets) (omega arith)) at
    (legal.legal (length log.sets) there) in
    absurd (false≢true (sym (bad (omega arith)) ∙ here))

module _ {A : Type 0} (p : RecordParts A) (are : AreParts p) where
  history-parts : history_of (state_of p) ≡ with_more p.log p.rest.items
  history-parts = rw (← are.start) refl

  none-left : IsLegalHistory (history_of (state_of p)) → p.rest.items ≡ []
  none-left legal = rest-none p.log p.rest.items are.rest (rw history-parts at legal)

  -- where there is no rest, the log has all updates
  log-all : p.rest.items ≡ [] → p.log ≡ history_of (state_of p)
  log-all none = sym (history-parts ∙ ap (with_more p.log) none ∙ ap (λ sets. record { start = p.log.start; sets = sets })
      (append-nil p.log.sets))

  pub log-whole : IsLegalHistory (history_of (state_of p)) → p.log ≡ history_of (state_of p)
  log-whole legal = log-all (none-left legal)

  pub legal-rest : (b : Bool) → b ≡ (length p.rest.items == 0) → IsLegalHistory p.log
      → (IsTrue b → IsLegalHistory (history_of (state_of p))) × (IsLegalHistory (history_of (state_of p)) → IsTrue b)
  legal-rest b e legal = (
    λ empty. rw (log-all (nil_from_length p.rest.items (eqb-true (length p.rest.items) 0 (sym e ∙ empty)))) at legal,
    λ whole. e ∙ ap (λ rest. length rest == 0) (none-left whole),
  )

-- ---- its updates

-- the first are those of the log
pub first-of : (n k : ℕ) (log rest : List (List Change)) → n ≡ length log → 0 < k → k ≤ n
    → get_or log (k - 1) [] ≡ get_or (log ++ rest) (k - 1) []
first-of n k log rest count some upto = sym (get_or-append log rest [] (k - 1) (omega arith))

-- and the others are the rest
pub rest-of : (n k : ℕ) (log rest : List (List Change)) (d : List Change) → n ≡ length log → n < k → k ≤ length (log ++ rest)
    → get_or rest ((k - n) - 1) d ≡ get_or (log ++ rest) (k - 1) []
rest-of n k log rest d count past last =
    let at : (k - n) - 1 ≡ (k - 1) - n = omega arith in
    get_or_default rest ((k - n) - 1) d [] (omega (arith, length-append log rest)) ∙ ap (λ i. get_or rest i []) at
    ∙ sym (get_or-append_right log rest n (k - 1) [] (sym count) (omega arith))

-- ---- a record that is lent

-- where all is lent, it is the record
pub lent-whole : {A : Type 0} (p : RecordParts A) (n : ℕ) (rest : List (List Change)) (reports : List ReportChange) (rounds : List ℕ)
    (windows : List Window) → n ≡ length p.log.sets → rest ≡ p.rest.items → reports ≡ p.reports.items → rounds ≡ p.rounds.items
    → windows ≡ p.windows.items
    → record (state_of p) { sets = take n p.log.sets ++ rest; reports = reports; rounds = rounds; windows = windows } ≡ state_of p
lent-whole p n rest reports rounds windows all e f g h = rw (all, take-length p.log.sets, e, f, g, h) refl

-- its first updates are those of the log
pub lent-first : (n k : ℕ) (log rest : List (List Change)) → n ≤ length log → 0 < k → k ≤ n
    → get_or log (k - 1) [] ≡ get_or (take n log ++ rest) (k - 1) []
lent-first n k log rest le some upto =
    sym (get_or-take n log (k - 1) [] (omega arith)) ∙ first-of n k (take n log) rest (sym (length-take-le n log le)) some upto

-- and the others are the rest
pub lent-rest : (n k : ℕ) (log rest : List (List Change)) (d : List Change) → n ≤ length log → n < k
    → k ≤ length (take n log ++ rest)
    → get_or rest ((k - n) - 1) d ≡ get_or (take n log ++ rest) (k - 1) []
lent-rest n k log rest d le past last = rest-of n k (take n log) rest d (sym (length-take-le n log le)) past last

pub lent-count : (n : ℕ) (log rest : List (List Change)) → n ≤ length log → length (take n log ++ rest) ≡ n + length rest
lent-count n log rest le = length-append (take n log) rest ∙ ap (λ k. k + length rest) (length-take-le n log le)
