-- Least starts of spans, and a ledger that finds them.
use Rattle.ordup_audit.proofs.Common.{◌++◌, ◌+◌, ◌<◌, ◌==◌, ◌∙◌, ◌∷◌, ◌≡◌, ◌≤◌, [], AreEntriesKnown, arith, Bool, cases_Bool, cases_lt, Entries}
use Rattle.ordup_audit.proofs.Common.{false, false≢true, get_or-append_seam, GroupList, History, history_of, in_force, inl, inr}
use Rattle.ordup_audit.proofs.Common.{eqb-true, initial_state, is_within, IsRecord, le-leb, leb-true, length, length-map, length_push, List, lt-ltb}
use Rattle.ordup_audit.proofs.Common.{most_objects, nat_lt, not, RecordState, refl, sym, take, true, ℕ, and_parts}
use Rattle.ordup_audit.proofs.Common.{Err, IfOk, Ok, Result}
use Rattle.std.proofs.lemmas.Bool.{le-ltb, not-true}
use Rattle.std.proofs.Math.ListN.{get_or-append}
use Rattle.ordup_log.specs.Spans.{span}
use Rattle.ordup_log.proofs.SpanLemmas.{span-inner}
use Rattle.ordup_rounds.specs.Schedules.{IsLimitTest}
use Rattle.ordup_limits.specs.Entries.{latest}
use Rattle.ordup_limits.specs.Ledgers.{LedgerState, StandsFor, StandsAt}
use Rattle.ordup_limits.specs.Limits.{keeps_limit, Limits, within}
use Rattle.ordup_limits.proofs.EntryLemmas.{in_force-first}
use Rattle.ordup_limits.proofs.LimitLemmas.{within-empty, within-later}
use Rattle.ordup_audit.specs.Beginning.{HaveBegun}
use Rattle.ordup_audit.specs.LeastStarts.{AreLeastStarts, IsLeastStart, PassesBefore}

-- a span that ends earlier keeps the limits that the longer one keeps
within-earlier : (h : History) (groups : GroupList) (limits : Limits) (a b c : ℕ) → b ≤ c
    → within h groups limits a c ≡ true → within h groups limits a b ≡ true
within-earlier h groups [] a b c le is = refl
within-earlier h groups (limit ∷ limits) a b c le is =
    let both : keeps_limit h groups a c limit ≡ true × within h groups limits a c ≡ true = and_parts _ _ is in
    let most : span h groups limit.scope a c ≤ limit.amount = leb-true (span h groups limit.scope a c) limit.amount both.0 in
    let first : keeps_limit h groups a b limit ≡ true =
    le-leb (span h groups limit.scope a b) limit.amount
    (omega (arith, span-inner h groups limit.scope a a b c (omega arith) le, most)) in
    rw (first, within-earlier h groups limits a b c le both.1) refl

-- what passes a limit passes it with more updates too
pub passes-longer : (h : History) (groups : GroupList) (limits : Limits) (a b c : ℕ) → b ≤ c
    → PassesBefore (within h groups limits) a b → PassesBefore (within h groups limits) a c
passes-longer h groups limits a b c le before k lt = elim (cases_Bool (within h groups limits k c)) [
  | inl keeps ↦ absurd (false≢true (sym (before k lt) ∙ within-earlier h groups limits k b c le keeps))
  | inr passes ↦ passes
]

-- where a span passes a limit, it does from each place up to its start
pub passes-later : (h : History) (groups : GroupList) (limits : Limits) (a b : ℕ) → within h groups limits a b ≡ false
    → PassesBefore (within h groups limits) (a + 1) b
passes-later h groups limits a b here k lt = elim (cases_Bool (within h groups limits k b)) [
  | inl keeps ↦ absurd (false≢true (sym here ∙ within-later h groups limits k a b (omega arith) keeps))
  | inr passes ↦ passes
]

-- a span that passes a limit is not empty
passes-forward : (h : History) (groups : GroupList) (limits : Limits) (a b : ℕ) → within h groups limits a b ≡ false → a < b
passes-forward h groups limits a b passes = elim (cases_lt a b) [
  | inl lt ↦ lt
  | inr empty ↦ absurd (false≢true (sym passes ∙ within-empty h groups limits a b empty))
]

-- what a ledger tells of the span at which it is
module _ (h : History) (groups : GroupList) (limits : Limits) (a b : ℕ) (ledger : LedgerState) (over : Bool)
    (stands : StandsAt h groups limits a b ledger)
    (tells : (k : History) (gs : GroupList) → StandsFor ledger k gs
    → over ≡ not (within k gs ledger.limits ledger.reported ledger.extended)) where
  tested : over ≡ not (within h groups limits a b)
  tested = rw (stands.same, stands.from, stands.to) at (tells h groups stands.stands)

  pub over-passes : over ≡ true → within h groups limits a b ≡ false
  over-passes is = not-true _ (sym tested ∙ is)

  pub over-forward : over ≡ true → a < b
  over-forward is = passes-forward h groups limits a b (over-passes is)

-- the least start of its end tells whether a span passes a limit
pub over-by-start : (test : ℕ → ℕ → Bool) (a s b : ℕ) → IsLimitTest test → IsLeastStart test s b → nat_lt a s ≡ not (test a b)
over-by-start test a s b limits least = elim (cases_lt a s) [
  | inl lt ↦ rw (lt-ltb a s lt, least.before a lt) refl
  | inr le ↦ rw (le-ltb a s le, limits.later s a b le least.here) refl
]

-- the span from 0 to 0 is empty
pub starts-first : (test : ℕ → ℕ → Bool) → IsLimitTest test → AreLeastStarts test 1 (0 ∷ [])
starts-first test limits = record {
  count = refl;
  each = λ b lt. (
      let none : b ≡ 0 = omega arith in
      rw none (record { before = λ k lt. absurd (omega arith); here = limits.empty 0 0 (omega arith) }));
}

-- one place more
pub starts-more : (test : ℕ → ℕ → Bool) (n s : ℕ) (starts : List ℕ) → AreLeastStarts test n starts → IsLeastStart test s n
    → AreLeastStarts test (n + 1) (starts ++ s ∷ [])
starts-more test n s starts are least = record {
  count = omega (arith, length_push starts s, are.count);
  each = λ b lt. elim (cases_lt b n) [
    | inl before ↦ rw (get_or-append starts (s ∷ []) 0 b (omega (arith, are.count))) (are.each b before)
    | inr at ↦ (let same : b ≡ length starts = omega (arith, are.count) in
        rw (same, get_or-append_seam starts s [] 0) (rw (← are.count) at least))
  ];
}

-- ---- limits by place

-- the limits of the entries that have begun are in force
pub begun-in_force : (entries : Entries) (k n : ℕ) → HaveBegun k entries n → in_force entries k ≡ latest (take n entries)
begun-in_force entries k n begun = in_force-first entries k n begun.upto begun.later

-- the least start of a place by the limits in force there is that of the record
pub least-in_force : (r : RecordState) (n a b : ℕ) → HaveBegun b r.limits n
    → IsLeastStart (within (history_of r) r.groups (latest (take n r.limits))) a b → IsLeastStart (is_within r) a b
least-in_force r n a b begun least =
    let same = begun-in_force r.limits b n begun in
    record {
      before = λ k lt. rw same (least.before k lt);
      here = rw same least.here;
    }

-- each span that begins before a place passes a limit: one of those so far where no other has begun, and else by a test of the
-- limits in force
pub passes-before : (r : RecordState) (n m a b : ℕ) (is_earlier : Bool) → HaveBegun (b + 1) r.limits n
    → PassesBefore (within (history_of r) r.groups (latest (take m r.limits))) a b
    → (not (n == m) ≡ true → is_earlier ≡ false → PassesBefore (is_within r) a (b + 1))
    → is_earlier ≡ false → PassesBefore (within (history_of r) r.groups (latest (take n r.limits))) a (b + 1)
passes-before r n m a b is_earlier begun before other is = elim (cases_Bool (n == m)) [
  | inl same ↦ (let none : n ≡ m = eqb-true n m same in
      rw none (passes-longer (history_of r) r.groups (latest (take m r.limits)) a b (b + 1) (omega arith) before))
  | inr more ↦ (λ k lt. rw (begun-in_force r.limits (b + 1) n begun) at (other (rw more refl) is k lt))
]

-- a new ledger without limits
begins : (r : RecordState) (ledger : LedgerState) → IsRecord r → ledger.limits ≡ []
    → (ledger.reported ≡ 0) × (ledger.extended ≡ 0)
    → ((h : History) (groups : GroupList) → length h.start ≤ most_objects → AreEntriesKnown (length h.start) groups []
    → StandsFor ledger h groups)
    → StandsAt (history_of r) r.groups [] 0 0 ledger
begins r ledger is limits places stands =
    let count : length (initial_state r.objects) ≡ length r.objects = length-map r.objects (λ p. p.1) in
    let few = is.objects.few in
    record {
      same = limits;
      from = places.0;
      to = places.1;
      stands = stands (history_of r) r.groups (omega (arith, count, few)) (λ i d lt. absurd (omega arith));
    }

-- where one was made
pub begins-made : {E : Type 0} (r : RecordState) (made : Result LedgerState E) → IsRecord r → IfOk made (λ l. l.limits ≡ [])
    → IfOk made (λ l. (l.reported ≡ 0) × (l.extended ≡ 0))
    → IfOk made (λ l. (h : History) (groups : GroupList) → length h.start ≤ most_objects → AreEntriesKnown (length h.start) groups []
    → StandsFor l h groups)
    → IfOk made (λ l. StandsAt (history_of r) r.groups [] 0 0 l)
begins-made r (Ok ledger) is limits places stands = begins r ledger is limits places stands
begins-made r (Err e) is limits places stands = limits
