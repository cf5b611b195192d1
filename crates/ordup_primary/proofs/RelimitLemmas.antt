-- A primary whose limits change.
use Rattle.std.proofs.Common.{◌≡◌, ℕ, ◌+◌, ◌<◌, ◌≤◌, ◌==◌, Bool, not, [], length, get_or}
use Rattle.std.proofs.Common.{arith, refl, sym, ap, ◌∙◌, inl, inr}
use Rattle.std.specs.Prelude.{Option, Some, None, nat_lt, if◌then◌else◌}
use Rattle.std.specs.Option.{option_or}
use Rattle.std.proofs.Math.ListN.{length-set}
use Rattle.std.proofs.lemmas.Bool.{cases_Bool, cases_eq, ltb-false, le-leb, eqb-true, ne_eqb}
use Rattle.std.proofs.lemmas.List.{get_or-set_other, length-map}
use Rattle.std.proofs.lemmas.List.Elements.{All-set}
use Rattle.std.proofs.lemmas.Grind.{get_or-set_at}
use Rattle.ordup_objects.specs.declared.refusal.Refusal.{Refusal}
use Rattle.ordup_objects.specs.declared.refusal.Refusal.TheVariants.{HeadPending, LagOver}
use Rattle.ordup_log.specs.Spans.{span, IsScopeKnown}
use Rattle.ordup_log.specs.declared.scope.Scope.{Scope}
use Rattle.ordup_rounds.proofs.RoundLemmas.{rounds_upto-same, windows_upto-same}
use Rattle.ordup_limits.specs.declared.limit_entry.LimitEntry.{LimitEntry}
use Rattle.ordup_limits.specs.Limits.{Limits, within, are_on_one_scope}
use Rattle.ordup_limits.specs.Entries.{entry_of, put, latest, in_force, are_one_entry, changed, change_refusal, HoldFrom, AreEntries}
use Rattle.ordup_limits.specs.Entries.{AreEntriesKnown}
use Rattle.ordup_limits.specs.StoreLedgers.{HasLimits, StoreLedgerState, SiteLedgerState, StoreStandsFor, WeightsAt}
use Rattle.ordup_limits.proofs.PutLemmas.{All-put}
use Rattle.ordup_limits.proofs.EntryLemmas.{in_force-before, latest-changed, within-put}
use Rattle.ordup_primary.specs.Primaries.{SiteProgress, PrimaryState, progress_at, limits_at, reported_at, is_within}
use Rattle.ordup_primary.specs.Primaries.{relimit_refusal, relimited, IsSiteSound, IsPrimary}
use Rattle.ordup_primary.specs.PrimaryInside.{HasLedger}

-- ---- what an allowed change is

either_none : (o p : Option Refusal) → option_or o p ≡ None → (o ≡ None) × (p ≡ None)
either_none None p e = (refl, e)
either_none (Some r) p e = absurd cc

-- the table allows it, all decided updates are acknowledged, and what a site lags weighs no more than the amount
pub relimit-allowed : (p : PrimaryState) (s : ℕ) (scope : Scope) (amount : ℕ) → relimit_refusal p s scope amount ≡ None
    → (change_refusal (length p.setup.objects) p.setup.groups (limits_at p s) (entry_of scope amount (p.acked + 1)) ≡ None)
    × (p.acked ≡ p.decided) × (span p.log p.setup.groups scope (progress_at p s).reported p.acked ≤ amount)
relimit-allowed p s scope amount allowed =
    let weight = span p.log p.setup.groups scope (progress_at p s).reported p.acked in
    let both = either_none (change_refusal (length p.setup.objects) p.setup.groups (limits_at p s) (entry_of scope amount (p.acked + 1))) (
    if not (p.acked == p.decided) then Some HeadPending else
    if nat_lt amount weight then Some LagOver else None) allowed in
    elim (cases_Bool (p.acked == p.decided)) [
      | inr pending ↦ absurd (let no : Some HeadPending ≡ None = rw pending at both.1 in cc)
      | inl settled ↦ elim (cases_Bool (nat_lt amount weight)) [
        | inl over ↦ absurd (let no : Some LagOver ≡ None = rw (settled, over) at both.1 in cc)
        | inr near ↦ (both.0, eqb-true p.acked p.decided settled, ltb-false amount weight near)
      ]
    ]

-- why it is refused, by the tests in their order
pub table-refused : (p : PrimaryState) (s : ℕ) (scope : Scope) (amount : ℕ) (r : Refusal)
    → change_refusal (length p.setup.objects) p.setup.groups (limits_at p s) (entry_of scope amount (p.acked + 1)) ≡ Some r
    → relimit_refusal p s scope amount ≡ Some r
table-refused p s scope amount r refused = rw refused refl

pub pending-refused : (p : PrimaryState) (s : ℕ) (scope : Scope) (amount : ℕ)
    → change_refusal (length p.setup.objects) p.setup.groups (limits_at p s) (entry_of scope amount (p.acked + 1)) ≡ None
    → (p.acked ≡ p.decided → ⊥) → relimit_refusal p s scope amount ≡ Some HeadPending
pending-refused p s scope amount allowed pending = rw (allowed, ne_eqb p.acked p.decided pending) refl

-- a scope that is there is so for the log
pub known-in_log : (p : PrimaryState) (scope : Scope) → IsPrimary p → IsScopeKnown (length p.setup.objects) p.setup.groups scope
    → IsScopeKnown (length p.log.start) p.setup.groups scope
known-in_log p scope is known =
    rw (ap length is.start ∙ length-map p.setup.objects _) known

-- ---- one site

-- a site by a test that agrees at the decided places
pub IsSiteSound-same : (keeps more : ℕ → ℕ → Bool) (updates acked decided : ℕ) (site : SiteProgress) → acked ≤ decided
    → ((a k : ℕ) → k ≤ decided → keeps a k ≡ more a k) → IsSiteSound keeps updates acked decided site
    → IsSiteSound more updates acked decided site
IsSiteSound-same keeps more updates acked decided site le same is = record {
  reported = is.reported;
  sent = is.sent;
  count = is.count;
  risen = is.risen;
  rounds = is.rounds
      ∙ rounds_upto-same keeps more (reported_at site) (reported_at site) decided (λ k some few. same (reported_at site k) k few);
  windows = is.windows
      ∙ windows_upto-same keeps more (reported_at site) (reported_at site) decided (λ k some few. same (reported_at site k) k few)
      (λ k some few. refl);
  answered = λ k some few forced. is.answered k some few (same (reported_at site k) k (omega arith) ∙ forced);
  rising = is.rising;
  before = λ j k some lt few forced. is.before j k some lt few (same (reported_at site j) j (omega arith) ∙ forced);
}

-- ---- the primary

-- the limits of a site after the change, and those of the others
changed-at : (p : PrimaryState) (s t : ℕ) (scope : Scope) (amount : ℕ) → s < length p.limits
    → (t ≡ s → limits_at (relimited p s scope amount) t ≡ changed (limits_at p s) (entry_of scope amount (p.acked + 1)))
    × ((t ≡ s → ⊥) → limits_at (relimited p s scope amount) t ≡ limits_at p t)
changed-at p s t scope amount lt =
    let here : t ≡ s → limits_at (relimited p s scope amount) t ≡ changed (limits_at p s) (entry_of scope amount (p.acked + 1)) =
    λ same. get_or-set_at p.limits s t (changed (limits_at p s) (entry_of scope amount (p.acked + 1))) [] same lt in
    let there : (t ≡ s → ⊥) → limits_at (relimited p s scope amount) t ≡ limits_at p t =
    λ other. get_or-set_other p.limits s t (changed (limits_at p s) (entry_of scope amount (p.acked + 1))) [] other in
    (here, there)

-- the limits that were in force at a decided place stay so
pub is_within-relimited : (p : PrimaryState) (s t a k : ℕ) (scope : Scope) (amount : ℕ) → s < length p.limits → k ≤ p.acked
    → is_within p t a k ≡ is_within (relimited p s scope amount) t a k
is_within-relimited p s t a k scope amount lt le =
    let at = changed-at p s t scope amount lt in
    ap (λ limits. within p.log p.setup.groups limits a k) (elim (cases_eq t s) [
      | inl same ↦
          ap (λ i. in_force (limits_at p i) k) same
          ∙ sym (in_force-before (limits_at p s) (entry_of scope amount (p.acked + 1)) k (omega arith))
          ∙ ap (λ entries. in_force entries k) (sym (at.0 same))
      | inr other ↦ ap (λ entries. in_force entries k) (sym (at.1 other))
    ])

-- a primary with a limit that is changed
pub IsPrimary-relimited : (p : PrimaryState) (s : ℕ) (scope : Scope) (amount : ℕ) → IsPrimary p → s < length p.sites
    → AreEntries (limits_at p s) → IsScopeKnown (length p.setup.objects) p.setup.groups scope → relimit_refusal p s scope amount ≡ None
    → IsPrimary (relimited p s scope amount)
IsPrimary-relimited p s scope amount is there are known allowed =
    let e = entry_of scope amount (p.acked + 1) in
    let old = limits_at p s in
    let lt : s < length p.limits = omega (arith, is.tables) in
    let may = relimit-allowed p s scope amount allowed in
    let hold : HoldFrom (p.acked + 1) old = is.begun s [] lt in
    record {
      ready = is.ready;
      start = is.start;
      legal = is.legal;
      few = is.few;
      count = is.count;
      tables = length-set p.limits s (changed old e) ∙ is.tables;
      acked = is.acked;
      next = is.next;
      decided = is.decided;
      known = All-set (AreEntriesKnown (length p.setup.objects) p.setup.groups) p.limits s (changed old e)
          (All-put (λ (f : LimitEntry). IsScopeKnown (length p.setup.objects) p.setup.groups f.limit.scope) are_one_entry old e
          (is.known s [] lt) known) is.known;
      begun = All-set (HoldFrom (p.acked + 1)) p.limits s (changed old e)
          (All-put (λ (f : LimitEntry). f.place ≤ p.acked + 1) are_one_entry old e hold (omega arith)) is.begun;
      lags = λ t below. (let at = changed-at p s t scope amount lt in elim (cases_eq t s) [
        | inl same ↦
            rw (at.0 same, latest-changed old e are.distinct are.rising hold, same)
            (within-put p.log p.setup.groups (latest old) e.limit (progress_at p s).reported p.acked (is.lags s there)
            (le-leb (span p.log p.setup.groups scope (progress_at p s).reported p.acked) amount may.2))
        | inr other ↦ rw (at.1 other) (is.lags t below)
      ]);
      sites = λ t d below.
          IsSiteSound-same (is_within p t) (is_within (relimited p s scope amount) t) (length p.log.sets) p.acked p.decided (get_or p.sites t d)
          is.acked (λ a k le. is_within-relimited p s t a k scope amount lt (omega (arith, le, may.1))) (is.sites t d below);
    }

-- ---- the ledger

-- the ledger of the site has the limit too
pub HasLedger-relimited : (p : PrimaryState) (s : ℕ) (scope : Scope) (amount : ℕ) (old new : StoreLedgerState)
    → IsPrimary p → HasLedger p old → s < length p.sites → AreEntries (limits_at p s) → StoreStandsFor new p.log p.setup.groups
    → new.added ≡ old.added → length new.sites ≡ length old.sites
    → ((t : ℕ) (d : SiteLedgerState) → (t ≡ s → ⊥) → get_or new.sites t d ≡ get_or old.sites t d)
    → ((d : SiteLedgerState) → (get_or new.sites s d).reported ≡ (get_or old.sites s d).reported)
    → ((limits : Limits) (d : SiteLedgerState) → HasLimits (length p.log.start) p.setup.groups limits (get_or old.sites s d)
    → HasLimits (length p.log.start) p.setup.groups (put are_on_one_scope limits (record { scope = scope; amount = amount }))
    (get_or new.sites s d))
    → HasLedger (relimited p s scope amount) new
HasLedger-relimited p s scope amount old new is are there keep stand added count others reported limits =
    let e = entry_of scope amount (p.acked + 1) in
    let lt : s < length p.limits = omega (arith, there, is.tables) in
    let now : latest (changed (limits_at p s) e) ≡ put are_on_one_scope (latest (limits_at p s)) e.limit =
    latest-changed (limits_at p s) e keep.distinct keep.rising (is.begun s [] lt) in
    record {
      count = count ∙ are.count;
      stand = stand;
      decided = omega (arith, ap (λ (w : WeightsAt). w.place) added, are.decided);
      added = omega (arith, ap (λ (w : WeightsAt). w.place) added, are.added);
      limits = λ t d below. (let at = changed-at p s t scope amount lt in
          elim (cases_eq t s) [
            | inl same ↦ rw (at.0 same, now, same) (limits (latest (limits_at p s)) d (are.limits s d there))
            | inr other ↦ rw (at.1 other, others t d other) (are.limits t d below)
          ]);
      reported = λ t d below. elim (cases_eq t s) [
        | inl same ↦ rw same (ap (λ (w : WeightsAt). w.place) (reported d) ∙ are.reported s d there)
        | inr other ↦ rw (others t d other) (are.reported t d below)
      ];
    }
