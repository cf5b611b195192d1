-- Ledgers and limits.
use Rattle.std.proofs.Common.{◌≡◌, ℕ, ◌+◌, ◌-◌, ◌≤◌, true, List, length, length-append, get_or, arith, refl, sym, ap, ◌∙◌}
use Rattle.std.proofs.Common.{inl, inr}
use Rattle.std.proofs.lemmas.Bool.{cases_lt}
use Rattle.ordup_objects.specs.declared.change.Change.{Change}
use Rattle.ordup_objects.specs.Serial.{History, with_more}
use Rattle.ordup_log.specs.Groups.{GroupList}
use Rattle.ordup_log.specs.Spans.{span}
use Rattle.ordup_log.specs.declared.scope.Scope.{Scope}
use Rattle.ordup_log.specs.declared.scope.Scope.TheVariants.{Count}
use Rattle.ordup_log.proofs.SpanLemmas.{span-longer, span-inner}
use Rattle.ordup_limits.specs.Limits.{Limits}
use Rattle.ordup_limits.specs.Masks.{AreMasks}
use Rattle.ordup_limits.specs.Totals.{weighed, kept_amount, AreTotals, AreAllowed}
use Rattle.ordup_limits.specs.Ledgers.{LedgerState, StandsFor, LongerHistoriesKeepLedgers}
use Rattle.ordup_limits.proofs.TotalLemmas.{span-from_start}

-- a span weighs the difference of two from the start, and nothing where it is empty
pub span-difference : (h : History) (groups : GroupList) (s : Scope) (a b : ℕ)
    → span h groups s 0 b - span h groups s 0 a ≡ span h groups s a b
span-difference h groups s a b = elim (cases_lt a b) [
  | inl lt ↦ omega (arith, span-from_start h groups s a b (omega arith))
  | inr le ↦ (let none : b - a ≡ 0 = omega arith in rw none (omega (arith, span-inner h groups s 0 0 b a (omega arith) le)))
]

-- a ledger once its masks are put down
pub StandsFor-prepared : {l : LedgerState} (q : LedgerState) {h : History} {groups : GroupList} → StandsFor l h groups
    → q ≡ record l { masks = q.masks; has_masks = true } → AreMasks groups q.limits q.masks
    → StandsFor q h groups
StandsFor-prepared q is same masks = rw same (record {
  objects = is.objects;
  known = is.known;
  reported = is.reported;
  extended = is.extended;
  added = is.added;
  allowed = is.allowed;
  masks = λ e. rw (ap (λ (k : LedgerState). k.limits) same) at masks;
})

-- updates that are added later leave it as it was what the first ones weigh
weighed-longer : (h : History) (groups : GroupList) (more : List (List Change)) (s : Scope) (place : ℕ) → place ≤ length h.sets
    → weighed (with_more h more) groups s place ≡ weighed h groups s place
weighed-longer h groups more Count place le = refl
weighed-longer h groups more s place le = span-longer h more groups s 0 place le

pub AreTotals-longer : (h : History) (groups : GroupList) (limits : Limits) (more : List (List Change)) (place : ℕ) (totals : List ℕ)
    → place ≤ length h.sets → AreTotals h groups limits place totals
    → AreTotals (with_more h more) groups limits place totals
AreTotals-longer h groups limits more place totals le are = record {
  few = are.few;
  none = are.none;
  each = λ i d lt. are.each i d lt ∙ sym (weighed-longer h groups more (get_or limits i d).scope place le);
}

AreAllowed-longer : (h : History) (groups : GroupList) (limits : Limits) (more : List (List Change)) (place : ℕ) (allowed : List ℕ)
    → place ≤ length h.sets → AreAllowed h groups limits place allowed
    → AreAllowed (with_more h more) groups limits place allowed
AreAllowed-longer h groups limits more place allowed le are = record {
  few = are.few;
  each = λ i d lt. are.each i d lt
      ∙ ap (λ n. kept_amount (get_or limits i d) + n) (sym (weighed-longer h groups more (get_or limits i d).scope place le));
}

-- so a ledger of a history is one of each longer history
pub StandsFor-longer : LongerHistoriesKeepLedgers
StandsFor-longer l h groups more is = record {
  objects = is.objects;
  known = is.known;
  reported = omega (arith, is.reported, length-append h.sets more);
  extended = omega (arith, is.extended, length-append h.sets more);
  added = AreTotals-longer h groups l.limits more l.extended l.added is.extended is.added;
  allowed = AreAllowed-longer h groups l.limits more l.reported l.allowed is.reported is.allowed;
  masks = is.masks;
}
