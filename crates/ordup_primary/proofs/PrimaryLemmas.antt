-- What a call does to a primary.
use Rattle.std.proofs.Common.{◌≡◌, ℕ, zero, suc, ◌+◌, ◌-◌, ◌<◌, ◌≤◌, ◌==◌, Bool, true, false, not, List, [], ◌∷◌, ◌++◌, length, map, get_or}
use Rattle.std.proofs.Common.{replicate, arith, refl, sym, ap, ◌∙◌, inl, inr, ◌⊎◌, subst}
use Rattle.std.specs.Prelude.{Some, None, Result, Ok, Err, IfOk, IfErr, All, nat_lt, ◌&&◌}
use Rattle.std.proofs.Math.Bool.{and-true}
use Rattle.std.proofs.Math.ListN.{set, length-set, get_or-append}
use Rattle.std.proofs.lemmas.Bool.{cases_Bool, cases_eq, cases_lt, eq-eqb, lt-ltb, ne_eqb, false≢true}
use Rattle.std.proofs.lemmas.List.{get_or-set_other, get_or_default, length_push, get_or_push, get_or-map, length-map, get_or-replicate}
use Rattle.std.proofs.lemmas.List.{length-replicate, map-set}
use Rattle.std.proofs.lemmas.Grind.{get_or-set_at}
use Rattle.ordup_objects.specs.declared.change.Change.{Change}
use Rattle.ordup_objects.specs.States.{is_legal}
use Rattle.ordup_objects.specs.Tables.{initial_state}
use Rattle.ordup_objects.specs.Sets.{IsSet, AreKnown}
use Rattle.ordup_objects.specs.Sizes.{most_updates}
use Rattle.ordup_objects.specs.Serial.{History, serial, with_update, IsLegalHistory}
use Rattle.ordup_objects.specs.declared.refusal.Refusal.{Refusal}
use Rattle.ordup_objects.specs.declared.refusal.Refusal.TheVariants.{LogFull, OutOfRange, Empty}
use Rattle.ordup_log.specs.Appending.{append_refusal}
use Rattle.ordup_objects.proofs.SerialLemmas.{IsLegalHistory-longer}
use Rattle.ordup_rounds.specs.Schedules.{IsLimitTest}
use Rattle.ordup_rounds.specs.Rounds.{rounds_upto, windows_upto}
use Rattle.ordup_rounds.specs.Fewest.{AreFewest}
use Rattle.ordup_rounds.proofs.RoundLemmas.{rounds_upto-same, windows_upto-same, forced_rounds_are_fewest}
use Rattle.ordup_limits.proofs.LimitLemmas.{within-empty, within-later, within-longer}
use Rattle.ordup_limits.proofs.EntryLemmas.{in_force-latest, in_force-test}
use Rattle.ordup_limits.specs.Limits.{within}
use Rattle.ordup_limits.specs.Entries.{in_force, latest}
use Rattle.ordup_primary.specs.Declarations.{Declared, AreDeclared, is_ready, start_refusal}
use Rattle.ordup_primary.specs.Settling.{last_place, where_below}
use Rattle.ordup_primary.specs.Primaries.{SiteProgress, PrimaryState, first_progress, progress_at, reported_at, limits_at, is_within, forced_now}
use Rattle.ordup_primary.specs.Primaries.{is_lag_within}
use Rattle.ordup_primary.specs.Primaries.{waiting_now, waits_for, acked_after, decided_at, send_refusal, settle_refusal, Decides, IsSiteSound}
use Rattle.ordup_primary.specs.Primaries.{IsPrimary, HasFewestRounds, acked_or_round, acked_or_waiting, settled_as}
use Rattle.ordup_primary.specs.declared.settled.Settled.TheVariants.{Acked, Round, Waiting}
use Rattle.ordup_primary.specs.Reports.{changes_of}
use Rattle.ordup_primary.specs.PrimaryInside.{AreKept, kept_of, progress_upto, reports_upto, state_of}
use Rattle.ordup_primary.specs.declared.primary.Primary.TheInside.{Inside}
use Rattle.ordup_primary.specs.declared.progress.Progress.{Progress}
use Rattle.ordup_primary.proofs.SettlingLemmas.{where_below-same, where_below-none, last_round-forced}

-- ---- one site in the place of another

pub IsPrimary-with_site : (p : PrimaryState) (s : ℕ) (site : SiteProgress) → IsPrimary p → s < length p.sites
    → IsSiteSound (is_within p s) (length p.log.sets) p.acked p.decided site → is_lag_within p s site.reported ≡ true
    → IsPrimary (record p { sites = set p.sites s site })
IsPrimary-with_site p s site is lt sound lag = record {
  ready = is.ready;
  start = is.start;
  legal = is.legal;
  few = is.few;
  count = length-set p.sites s site ∙ is.count;
  tables = is.tables ∙ sym (length-set p.sites s site);
  acked = is.acked;
  next = is.next;
  decided = is.decided;
  known = is.known;
  begun = is.begun;
  lags = λ t below. elim (cases_eq t s) [
    | inl same ↦ rw (get_or-set_at p.sites s t site first_progress same lt, same) lag
    | inr other ↦
        rw (get_or-set_other p.sites s t site first_progress other) (is.lags t (rw (length-set p.sites s site) at below))
  ];
  sites = λ t d below. elim (cases_eq t s) [
    | inl same ↦ rw (get_or-set_at p.sites s t site d same lt, same) sound
    | inr other ↦ rw (get_or-set_other p.sites s t site d other) (is.sites t d (rw (length-set p.sites s site) at below))
  ];
}

-- one update more was sent to a site
pub IsSiteSound-sent : (keeps : ℕ → ℕ → Bool) (updates acked decided : ℕ) (site : SiteProgress)
    → IsSiteSound keeps updates acked decided site → site.sent < updates
    → IsSiteSound keeps updates acked decided (record site { sent = site.sent + 1 })
IsSiteSound-sent keeps updates acked decided site is lt = record {
  reported = omega (arith, is.reported);
  sent = omega arith;
  count = is.count;
  risen = is.risen;
  rounds = is.rounds;
  windows = is.windows;
  answered = is.answered;
  rising = is.rising;
  before = is.before;
}

-- a site reported a later place
pub IsSiteSound-reported : (p : PrimaryState) (s place : ℕ) (site : SiteProgress)
    → IsSiteSound (is_within p s) (length p.log.sets) p.acked p.decided site → site.reported ≤ place → place ≤ site.sent
    → IsSiteSound (is_within p s) (length p.log.sets) p.acked p.decided (record site { reported = place })
IsSiteSound-reported p s place site is risen sent = record {
  reported = sent;
  sent = is.sent;
  count = is.count;
  risen = λ k. omega (arith, is.risen k);
  rounds = is.rounds;
  windows = is.windows;
  answered = λ k some le forced. omega (arith, is.answered k some le forced);
  rising = is.rising;
  before = is.before;
}

-- ---- a log that grows

-- an update that is not refused is legal
pub legal-from_allowed : (log : History) (m : List Change) → append_refusal log m ≡ None
    → is_legal m (serial log (length log.sets)) ≡ true
legal-from_allowed log m allowed = elim (cases_Bool (length log.sets == 1000000)) [
  | inl full ↦ absurd (let refused : append_refusal log m ≡ Some LogFull = rw full refl in cc)
  | inr spare ↦ elim (cases_Bool (is_legal m (serial log (length log.sets)))) [
    | inl legal ↦ legal
    | inr illegal ↦ absurd (let refused : append_refusal log m ≡ Some OutOfRange = rw (spare, illegal) refl in cc)
  ]
]

-- and the log does not become too long
spare-from_allowed : (log : History) (m : List Change) → length log.sets ≤ 1000000 → append_refusal log m ≡ None
    → length log.sets < 1000000
spare-from_allowed log m few allowed = elim (cases_eq (length log.sets) 1000000) [
  | inl full ↦ absurd (let refused : append_refusal log m ≡ Some LogFull = rw (eq-eqb (length log.sets) 1000000 full) refl in cc)
  | inr spare ↦ omega (arith, spare)
]

-- with one update more the same spans pass the same limits
is_within-proposed : (p : PrimaryState) (m : List Change) (s a b : ℕ) → b ≤ length p.log.sets
    → is_within (record p { log = with_update p.log m }) s a b ≡ is_within p s a b
is_within-proposed p m s a b le = within-longer p.log (m ∷ []) p.setup.groups (in_force (limits_at p s) b) a b le

-- what holds of a log, and of the log with an update more where it is not refused, holds after the call
pub kept-appended : (P : History → Type 0) (r : Result ℕ Refusal) (old new : History) (m : List Change) → P old
    → (append_refusal old m ≡ None → P (with_update old m)) → IfOk r (λ _. new ≡ with_update old m)
    → IfOk r (λ _. append_refusal old m ≡ None) → IfErr r (λ _. new ≡ old) → P new
kept-appended P (Ok k) old new m is more added allowed same = subst P (sym added) (more allowed)
kept-appended P (Err e) old new m is more added allowed same = subst P (sym same) is

-- a primary with one update more
pub IsPrimary-proposed : (p : PrimaryState) (m : List Change) → IsPrimary p → IsSet m → AreKnown (length p.log.start) m
    → append_refusal p.log m ≡ None
    → IsPrimary (record p { log = with_update p.log m })
IsPrimary-proposed p m is set known allowed = record {
  ready = is.ready;
  start = is.start;
  legal = IsLegalHistory-longer p.log m is.legal set known (legal-from_allowed p.log m allowed);
  few = omega (arith, length_push p.log.sets m, spare-from_allowed p.log m is.few allowed);
  count = is.count;
  tables = is.tables;
  acked = is.acked;
  next = is.next;
  decided = omega (arith, is.decided, length_push p.log.sets m);
  known = is.known;
  begun = is.begun;
  lags = λ s lt.
      within-longer p.log (m ∷ []) p.setup.groups (latest (limits_at p s)) (progress_at p s).reported p.acked
      (omega (arith, is.acked, is.decided)) ∙ is.lags s lt;
  sites = λ s d lt. (let site = is.sites s d lt in record {
    reported = site.reported;
    sent = omega (arith, site.sent, length_push p.log.sets m);
    count = site.count;
    risen = site.risen;
    rounds = site.rounds
        ∙ rounds_upto-same (is_within p s) (is_within (record p { log = with_update p.log m }) s) (reported_at (get_or p.sites s d))
        (reported_at (get_or p.sites s d)) p.decided
        (λ k some le. sym (is_within-proposed p m s (reported_at (get_or p.sites s d) k) k (omega (arith, is.decided))));
    windows = site.windows
        ∙ windows_upto-same (is_within p s) (is_within (record p { log = with_update p.log m }) s) (reported_at (get_or p.sites s d))
        (reported_at (get_or p.sites s d)) p.decided
        (λ k some le. sym (is_within-proposed p m s (reported_at (get_or p.sites s d) k) k (omega (arith, is.decided))))
        (λ k some le. refl);
    answered = λ k some le forced.
        site.answered k some le
        (sym (is_within-proposed p m s (reported_at (get_or p.sites s d) k) k (omega (arith, is.acked, is.decided))) ∙ forced);
    rising = site.rising;
    before = λ j k some lt le forced.
        site.before j k some lt le
        (sym (is_within-proposed p m s (reported_at (get_or p.sites s d) j) j (omega (arith, is.decided))) ∙ forced);
  });
}

-- ---- settlements

-- what is acknowledged
acked_after-some : (acked : ℕ) (sites : List ℕ)
    → (acked_after acked sites ≡ acked + 1) × (sites ≡ []) ⊎ (acked_after acked sites ≡ acked)
acked_after-some acked [] = inl (refl, refl)
acked_after-some acked (s ∷ sites) = inr refl

acked_after-near : (acked : ℕ) (sites : List ℕ) → (acked ≤ acked_after acked sites) × (acked_after acked sites ≤ acked + 1)
acked_after-near acked [] = (omega arith, omega arith)
acked_after-near acked (s ∷ sites) = (omega arith, omega arith)

not_false : (b : Bool) → not b ≡ false → b ≡ true
not_false true e = refl
not_false false e = absurd (cc)

pub not_not : (b : Bool) → not (not b) ≡ b
not_not true = refl
not_not false = refl

-- a site that is not waited for keeps its limits up to the head
done-at : (p : PrimaryState) (s : ℕ) (site : SiteProgress) (k : ℕ) → reported_at site k ≤ site.reported
    → (not (is_within p s (reported_at site k) k) && nat_lt site.reported k) ≡ false
    → is_within p s site.reported k ≡ true
done-at p s site k risen none = elim (cases_Bool (is_within p s (reported_at site k) k)) [
  | inl kept ↦ within-later p.log p.setup.groups (in_force (limits_at p s) k) (reported_at site k) site.reported k risen kept
  | inr forced ↦ (let behind : nat_lt site.reported k ≡ false = rw forced at none in
      elim (cases_lt site.reported k) [
        | inl lt ↦ absurd (let is : nat_lt site.reported k ≡ true = lt-ltb site.reported k lt in cc)
        | inr le ↦ within-empty p.log p.setup.groups (in_force (limits_at p s) k) site.reported k le
      ])
]

-- a site that is not waited for, and was forced, has reported the place
reported-at : (p : PrimaryState) (s : ℕ) (site : SiteProgress) (k : ℕ) → is_within p s (reported_at site k) k ≡ false
    → (not (is_within p s (reported_at site k) k) && nat_lt site.reported k) ≡ false
    → k ≤ site.reported
reported-at p s site k forced none =
    let behind : nat_lt site.reported k ≡ false = rw forced at none in
    elim (cases_lt site.reported k) [
      | inl lt ↦ absurd (let is : nat_lt site.reported k ≡ true = lt-ltb site.reported k lt in cc)
      | inr le ↦ le
    ]

-- one place more is acknowledged
answered-more : (keeps : ℕ → ℕ → Bool) (acked : ℕ) (site : SiteProgress)
    → ((k : ℕ) → 0 < k → k ≤ acked → keeps (reported_at site k) k ≡ false → k ≤ site.reported)
    → (keeps (reported_at site (acked + 1)) (acked + 1) ≡ false → acked + 1 ≤ site.reported)
    → (k : ℕ) → 0 < k → k ≤ acked + 1 → keeps (reported_at site k) k ≡ false
    → k ≤ site.reported
answered-more keeps acked site before here k some le forced = elim (cases_lt acked k) [
  | inl past ↦ (let e : k ≡ acked + 1 = omega arith in rw e (here (rw e at forced)))
  | inr within ↦ before k some within forced
]

-- the limits that are in force at the head are those in force now
pub is_within-now : (p : PrimaryState) (s a : ℕ) → IsPrimary p → s < length p.sites
    → is_within p s a (p.acked + 1) ≡ within p.log p.setup.groups (latest (limits_at p s)) a (p.acked + 1)
is_within-now p s a is lt =
    ap (λ limits. within p.log p.setup.groups limits a (p.acked + 1))
    (in_force-latest (limits_at p s) (p.acked + 1) (is.begun s [] (omega (arith, is.tables))))

-- a primary after a later settlement of the head
pub IsPrimary-waited : (p : PrimaryState) → IsPrimary p → p.acked < p.decided
    → IsPrimary (record p { acked = acked_after p.acked (waiting_now p) })
IsPrimary-waited p is later = elim (acked_after-some p.acked (waiting_now p)) [
  | inr same ↦ rw same is
  | inl done ↦ rw (done.0) (record {
    ready = is.ready;
    start = is.start;
    legal = is.legal;
    few = is.few;
    count = is.count;
    tables = is.tables;
    acked = omega arith;
    next = omega (arith, is.next);
    decided = is.decided;
    known = is.known;
    begun = λ s d lt k e below. omega (arith, is.begun s d lt k e below);
    lags = λ s lt.
        sym (is_within-now p s (progress_at p s).reported is lt)
        ∙ done-at p s (progress_at p s) (p.acked + 1) ((is.sites s first_progress lt).risen (p.acked + 1 - 1))
        (where_below-none _ (length p.sites) s lt done.1);
    sites = λ s d lt. (let site = is.sites s d lt in record {
      reported = site.reported;
      sent = site.sent;
      count = site.count;
      risen = site.risen;
      rounds = site.rounds;
      windows = site.windows;
      answered = answered-more (is_within p s) p.acked (get_or p.sites s d) site.answered
          (λ forced. reported-at p s (get_or p.sites s d) (p.acked + 1) forced
          (rw (get_or_default p.sites s d first_progress lt) (where_below-none _ (length p.sites) s lt done.1)));
      rising = site.rising;
      before = site.before;
    });
  })
]

-- ---- the first settlement of the head

-- a report that is put down is the greatest
risen-push : (reports : List ℕ) (reported : ℕ) → ((k : ℕ) → get_or reports k 0 ≤ reported) → (k : ℕ)
    → get_or (reports ++ reported ∷ []) k 0 ≤ reported
risen-push [] reported risen zero = omega arith
risen-push [] reported risen (suc k) = omega arith
risen-push (r ∷ reports) reported risen zero = risen 0
risen-push (r ∷ reports) reported risen (suc k) = risen-push reports reported (λ j. risen (suc j)) k

-- a report that is put down keeps the reports in their order
rising-push : (reports : List ℕ) (reported : ℕ) → ((k : ℕ) → get_or reports k 0 ≤ reported)
    → ((j k : ℕ) → j ≤ k → k < length reports → get_or reports j 0 ≤ get_or reports k 0)
    → (j k : ℕ) → j ≤ k → k < length reports + 1
    → get_or (reports ++ reported ∷ []) j 0 ≤ get_or (reports ++ reported ∷ []) k 0
rising-push reports reported risen rising j k le lt = elim (cases_lt k (length reports)) [
  | inl old ↦
      rw (get_or-append reports (reported ∷ []) 0 j (omega arith), get_or-append reports (reported ∷ []) 0 k old) (rising j k le old)
  | inr new ↦
      (let last : length reports ≡ k = omega arith in rw (get_or_push reports reported 0 k last) (risen-push reports reported risen j))
]

-- a forced place was reported before a later place is decided
before-push : (keeps : ℕ → ℕ → Bool) (acked : ℕ) (site : SiteProgress) → length site.reports ≡ acked
    → ((k : ℕ) → 0 < k → k ≤ acked → keeps (reported_at site k) k ≡ false → k ≤ site.reported)
    → ((j k : ℕ) → 0 < j → j < k → k ≤ acked → keeps (reported_at site j) j ≡ false → j ≤ reported_at site k)
    → (j k : ℕ) → 0 < j → j < k → k ≤ acked + 1 → keeps (get_or (site.reports ++ site.reported ∷ []) (j - 1) 0) j ≡ false
    → j ≤ get_or (site.reports ++ site.reported ∷ []) (k - 1) 0
before-push keeps acked site count answered before j k some lt le forced =
    let there : get_or (site.reports ++ site.reported ∷ []) (j - 1) 0 ≡ get_or site.reports (j - 1) 0 =
    get_or-append site.reports (site.reported ∷ []) 0 (j - 1) (omega arith) in
    let was : keeps (reported_at site j) j ≡ false = rw there at forced in
    elim (cases_lt acked k) [
      | inl past ↦ rw (get_or_push site.reports site.reported 0 (k - 1) (omega arith)) (answered j some (omega arith) was)
      | inr old ↦ rw (get_or-append site.reports (site.reported ∷ []) 0 (k - 1) (omega arith)) (before j k some lt old was)
    ]

-- the rounds with the one of the head, if it is one
rounds-decided : (keeps : ℕ → ℕ → Bool) (acked : ℕ) (site : SiteProgress) → length site.reports ≡ acked
    → site.rounds ≡ rounds_upto keeps (reported_at site) acked
    → (decided_at (keeps site.reported (acked + 1)) (acked + 1) site).rounds
    ≡ rounds_upto keeps (λ k. get_or (site.reports ++ site.reported ∷ []) (k - 1) 0) (acked + 1)
rounds-decided keeps acked site count rounds =
    let next : acked + 1 ≡ suc acked = omega arith in
    let here : get_or (site.reports ++ site.reported ∷ []) (suc acked - 1) 0 ≡ site.reported =
    get_or_push site.reports site.reported 0 (suc acked - 1) (omega arith) in
    let before : rounds_upto keeps (λ k. get_or (site.reports ++ site.reported ∷ []) (k - 1) 0) acked ≡ site.rounds =
    rounds_upto-same keeps keeps (λ k. get_or (site.reports ++ site.reported ∷ []) (k - 1) 0) (reported_at site) acked
    (λ k some le. ap (λ r. keeps r k) (get_or-append site.reports (site.reported ∷ []) 0 (k - 1) (omega arith)))
    ∙ sym rounds in
    elim (cases_Bool (keeps site.reported (suc acked))) [
      | inl kept ↦ rw (next, here, kept, before) refl
      | inr forced ↦ rw (next, here, forced, before) refl
    ]

-- and the windows with that of the head
windows-decided : (keeps : ℕ → ℕ → Bool) (acked : ℕ) (site : SiteProgress) → length site.reports ≡ acked
    → site.windows ≡ windows_upto keeps (reported_at site) acked
    → (decided_at (keeps site.reported (acked + 1)) (acked + 1) site).windows
    ≡ windows_upto keeps (λ k. get_or (site.reports ++ site.reported ∷ []) (k - 1) 0) (acked + 1)
windows-decided keeps acked site count windows =
    let next : acked + 1 ≡ suc acked = omega arith in
    let here : get_or (site.reports ++ site.reported ∷ []) (suc acked - 1) 0 ≡ site.reported =
    get_or_push site.reports site.reported 0 (suc acked - 1) (omega arith) in
    let reports : (k : ℕ) → 0 < k → k ≤ acked → get_or (site.reports ++ site.reported ∷ []) (k - 1) 0 ≡ reported_at site k =
    λ k some le. get_or-append site.reports (site.reported ∷ []) 0 (k - 1) (omega arith) in
    let before : windows_upto keeps (λ k. get_or (site.reports ++ site.reported ∷ []) (k - 1) 0) acked ≡ site.windows =
    windows_upto-same keeps keeps (λ k. get_or (site.reports ++ site.reported ∷ []) (k - 1) 0) (reported_at site) acked
    (λ k some le. ap (λ r. keeps r k) (reports k some le)) reports ∙ sym windows in
    elim (cases_Bool (keeps site.reported (suc acked))) [
      | inl kept ↦ rw (next, here, kept, before) refl
      | inr forced ↦ rw (next, here, forced, before) refl
    ]

-- a site after the decision of the head
IsSiteSound-decided : (keeps : ℕ → ℕ → Bool) (updates acked later : ℕ) (site : SiteProgress)
    → IsSiteSound keeps updates acked acked site → (later ≡ acked + 1 → keeps site.reported later ≡ true)
    → (later ≡ acked) ⊎ (later ≡ acked + 1)
    → IsSiteSound keeps updates later (acked + 1) (decided_at (keeps site.reported (acked + 1)) (acked + 1) site)
IsSiteSound-decided keeps updates acked later site is within step = record {
  reported = is.reported;
  sent = is.sent;
  count = length_push site.reports site.reported ∙ ap (λ n. n + 1) is.count;
  risen = risen-push site.reports site.reported is.risen;
  rounds = rounds-decided keeps acked site is.count is.rounds;
  windows = windows-decided keeps acked site is.count is.windows;
  answered = λ k some le forced. elim (cases_lt acked k) [
    | inl past ↦ absurd (let next : k ≡ acked + 1 = elim step [ inl same ↦ omega (arith, same) | inr one ↦ omega (arith, one) ] in
        let e : k ≡ later = elim step [ inl same ↦ omega (arith, same) | inr one ↦ next ∙ sym one ] in
        let here : get_or (site.reports ++ site.reported ∷ []) (k - 1) 0 ≡ site.reported =
        get_or_push site.reports site.reported 0 (k - 1) (omega (arith, is.count)) in
        let kept : keeps site.reported k ≡ true = ap (keeps site.reported) e ∙ within (sym e ∙ next) in
        false≢true (sym (rw here at forced) ∙ kept))
    | inr before ↦
        is.answered k some before
        (ap (λ r. keeps r k) (sym (get_or-append site.reports (site.reported ∷ []) 0 (k - 1) (omega (arith, is.count)))) ∙ forced)
  ];
  rising = λ j k le lt.
      rising-push site.reports site.reported is.risen (λ i l le lt. is.rising i l le (omega (arith, is.count))) j k le
      (omega (arith, is.count));
  before = before-push keeps acked site is.count is.answered is.before;
}

-- a primary after the first settlement of the head
pub IsPrimary-decided : (p q : PrimaryState) → IsPrimary p → p.acked ≡ p.decided → p.acked < length p.log.sets → Decides p q
    → IsPrimary q
IsPrimary-decided p q is first some decides =
    let kept_at : (s : ℕ) → s < length p.sites → q.acked ≡ p.acked + 1
    → is_within p s (progress_at p s).reported (p.acked + 1) ≡ true =
    λ s lt next. elim (acked_after-some p.acked (forced_now p)) [
      | inl done ↦ not_false (is_within p s (progress_at p s).reported (p.acked + 1)) (where_below-none _ (length p.sites) s lt done.1)
      | inr same ↦ absurd (omega (arith, next, decides.acked, same))
    ] in
    let acked : (p.acked ≤ q.acked) × (q.acked ≤ p.acked + 1) = rw decides.acked (acked_after-near p.acked (forced_now p)) in
    let step : (q.acked ≡ p.acked) ⊎ (q.acked ≡ p.acked + 1) =
    elim (acked_after-some p.acked (forced_now p)) [
      | inl done ↦ inr (decides.acked ∙ done.0)
      | inr same ↦ inl (decides.acked ∙ same)
    ] in
    record {
      ready = rw decides.setup is.ready;
      start = rw (decides.setup, decides.log) is.start;
      legal = rw decides.log is.legal;
      few = rw decides.log is.few;
      count = rw decides.setup (decides.count ∙ is.count);
      tables = ap length decides.limits ∙ is.tables ∙ sym decides.count;
      acked = omega (arith, acked.1, decides.decided);
      next = omega (arith, acked.0, decides.decided);
      decided = rw decides.log (omega (arith, decides.decided));
      known = rw (decides.setup, decides.limits) is.known;
      begun = rw decides.limits (λ s d lt k e below. omega (arith, is.begun s d lt k e below, acked.0));
      lags = λ s lt. (let before : s < length p.sites = omega (arith, decides.count) in
          let same : (progress_at q s).reported ≡ (progress_at p s).reported =
          ap (λ (k : SiteProgress). k.reported) (decides.sites s first_progress before) in
          rw (decides.log, decides.setup, decides.limits, same) (elim step [
            | inl stays ↦ rw stays (is.lags s before)
            | inr next ↦ rw next (sym (is_within-now p s (progress_at p s).reported is before) ∙ kept_at s before next)
          ]));
      sites = λ s d lt. (let before : s < length p.sites = omega (arith, decides.count) in
          rw (
            decides.setup,
            decides.log,
            decides.limits,
            decides.decided,
            decides.sites s d before,
            get_or_default p.sites s first_progress d before,
          )
          (IsSiteSound-decided (is_within p s) (length p.log.sets) p.acked q.acked (get_or p.sites s d)
          (rw (← first) at (is.sites s d before))
          (λ next. rw (next, get_or_default p.sites s d first_progress before) (kept_at s before next)) step));
    }

-- ---- a primary at the start

ready-from_start : (d : Declared) → start_refusal d ≡ None → is_ready d ≡ true
ready-from_start d e = elim (cases_Bool (is_ready d)) [
  | inl ready ↦ ready
  | inr other ↦ absurd (let refused : start_refusal d ≡ Some Empty = rw other refl in cc)
]

pub IsPrimary-new : (p : PrimaryState) → AreDeclared p.setup → start_refusal p.setup ≡ None
    → p.log ≡ record { start = initial_state p.setup.objects; sets = [] } → IsLegalHistory p.log → p.acked ≡ 0 → p.decided ≡ 0
    → p.sites ≡ replicate (length p.setup.sites) first_progress → p.limits ≡ p.setup.limits
    → IsPrimary p
IsPrimary-new p declared ready log legal acked decided sites limits = record {
  ready = ready-from_start p.setup ready;
  start = ap (λ (h : History). h.start) log;
  legal = legal;
  few = omega (arith, ap (λ (h : History). length h.sets) log);
  count = ap length sites ∙ length-replicate (length p.setup.sites) first_progress;
  tables = ap length limits ∙ declared.count ∙ sym (ap length sites ∙ length-replicate (length p.setup.sites) first_progress);
  acked = omega (arith, acked);
  next = omega (arith, decided);
  decided = omega (arith, decided);
  known = rw limits declared.known;
  begun = rw limits (λ s d lt k e below. omega (arith, declared.first s d lt k e below));
  lags = λ s lt. within-empty p.log p.setup.groups (latest (limits_at p s)) (progress_at p s).reported p.acked (omega (arith, acked));
  sites = λ s d lt. (let there : s < length p.setup.sites =
      omega (arith, ap length sites, length-replicate (length p.setup.sites) first_progress) in
      rw (acked, decided, sites, get_or-replicate (length p.setup.sites) s first_progress d there) (record {
        reported = omega arith;
        sent = omega arith;
        count = refl;
        risen = λ k. omega arith;
        rounds = refl;
        windows = refl;
        answered = λ k some le forced. absurd (omega arith);
        rising = λ j k le lt. absurd (omega arith);
        before = λ j k some lt le forced. absurd (omega arith);
      }));
}

-- a later settlement that waits for none acknowledges
pub IsPrimary-acked : (p : PrimaryState) (sites : List ℕ) (head : ℕ) → IsPrimary p → p.acked < p.decided → head ≡ p.acked + 1
    → sites ≡ waiting_now p → sites ≡ []
    → IsPrimary (record p { acked = head })
IsPrimary-acked p sites head is later here waiting none =
    let e : acked_after p.acked (waiting_now p) ≡ head = ap (acked_after p.acked) (sym waiting ∙ none) ∙ sym here in
    rw e at (IsPrimary-waited p is later)

-- there is an update to send
pub send-allowed : (p : PrimaryState) (s sent : ℕ) → sent ≡ (progress_at p s).sent → (sent ≡ length p.log.sets → ⊥)
    → send_refusal p s ≡ None
send-allowed p s sent e more = rw (ne_eqb (progress_at p s).sent (length p.log.sets) (λ f. more (e ∙ f))) refl

-- ---- a primary in its fields

abbrev pub sent_more : SiteProgress → SiteProgress
sent_more site = record {
  sent = site.sent + 1;
  reported = site.reported;
  reports = site.reports;
  rounds = site.rounds;
  windows = site.windows;
}

abbrev pub reported_as : ℕ → SiteProgress → SiteProgress
reported_as place site = record {
  sent = site.sent;
  reported = place;
  reports = site.reports;
  rounds = site.rounds;
  windows = site.windows;
}

module _ {A : Type 0} where
  -- sites as callers see them
  pub seen-count : (n : ℕ) (sites : List (Progress A)) → length (map (progress_upto n) (map kept_of sites)) ≡ length sites
  seen-count n sites = length-map (map kept_of sites) (progress_upto n) ∙ length-map sites (kept_of {A = A})

  seen : (n : ℕ) (sites : List (Progress A)) (i : ℕ) (d : Progress A) (e : SiteProgress) → i < length sites
      → get_or (map (progress_upto n) (map kept_of sites)) i e ≡ progress_upto n (kept_of (get_or sites i d))
  seen n sites i d e lt =
      get_or-map (progress_upto n) (map kept_of sites) i (kept_of d) e (omega (arith, lt, length-map sites (kept_of {A = A})))
      ∙ ap (progress_upto n) (get_or-map kept_of sites i d (kept_of d) lt)

  pub view_at : (l : Inside A) (i s : ℕ) (x : Progress A) → i ≡ s → s < length (state_of l).sites → x ≡ get_or l.sites.items i x
      → progress_at (state_of l) s ≡ progress_upto l.decided (kept_of x)
  view_at l i s x same lt at =
      seen l.decided l.sites.items s x first_progress (omega (arith, lt, seen-count l.decided l.sites.items))
      ∙ ap (λ k. progress_upto l.decided (kept_of (get_or l.sites.items k x))) (sym same)
      ∙ ap (λ y. progress_upto l.decided (kept_of y)) (sym at)

  -- the changes of its reports are those of its reports
  pub changes_at : (l : Inside A) (i s : ℕ) (x : Progress A) → AreKept l.decided l.moved (map kept_of l.sites.items) → i ≡ s
      → s < length (state_of l).sites → x ≡ get_or l.sites.items i x
      → x.reports.changes ≡ changes_of (reports_upto x.reports.changes l.decided)
  changes_at l i s x are same lt at =
      let there : i < length l.sites.items = omega (arith, lt, same, seen-count l.decided l.sites.items) in
      let here : get_or (map kept_of l.sites.items) i (kept_of x) ≡ kept_of x =
      get_or-map kept_of l.sites.items i x (kept_of x) there ∙ ap kept_of (sym at) in
      rw here at (are.changes i (kept_of x) (omega (arith, there, length-map l.sites.items (kept_of {A = A}))))

  -- it has reported no more than a log has
  pub reports-few : (l : Inside A) (reserved : List (Progress A)) → IsPrimary (state_of l)
      → map kept_of reserved ≡ map kept_of l.sites.items
      → All (λ (site : Progress A). site.reported ≤ most_updates) reserved
  reports-few l reserved is same i d lt =
      let all : map (progress_upto l.decided) (map kept_of reserved) ≡ (state_of l).sites = ap (map (progress_upto l.decided)) same in
      let there : i < length (state_of l).sites = omega (arith, lt, ap length all, seen-count l.decided reserved) in
      let at : get_or (state_of l).sites i first_progress ≡ progress_upto l.decided (kept_of (get_or reserved i d)) =
      ap (λ sites. get_or sites i first_progress) (sym all) ∙ seen l.decided reserved i d first_progress lt in
      let sound = is.sites i first_progress there in
      omega (arith, ap (λ (site : SiteProgress). site.reported) at, sound.reported, sound.sent, is.few)

  -- a site that changes, as callers see it
  pub view-set : (l : Inside A) (i s : ℕ) (x y : Progress A) (f : SiteProgress → SiteProgress) → i ≡ s
      → s < length (state_of l).sites → x ≡ get_or l.sites.items i x
      → progress_upto l.decided (kept_of y) ≡ f (progress_upto l.decided (kept_of x))
      → map (progress_upto l.decided) (map kept_of (set l.sites.items i y)) ≡ set (state_of l).sites s (f (progress_at (state_of l) s))
  view-set l i s x y f same lt at e =
      ap (map (progress_upto l.decided)) (map-set kept_of l.sites.items i y)
      ∙ map-set (progress_upto l.decided) (map kept_of l.sites.items) i (kept_of y)
      ∙ ap (λ k. set (state_of l).sites k (progress_upto l.decided (kept_of y))) same
      ∙ ap (set (state_of l).sites s) (e ∙ ap f (sym (view_at l i s x same lt at)))

  -- one update more was sent to a site
  pub IsPrimary-sent : (l : Inside A) (sites : List SiteProgress) (s : ℕ) → IsPrimary (state_of l) → s < length (state_of l).sites
      → (progress_at (state_of l) s).sent < length l.log.sets
      → sites ≡ set (state_of l).sites s (sent_more (progress_at (state_of l) s))
      → IsPrimary (record (state_of l) { sites = sites })
  IsPrimary-sent l sites s is lt unsent e =
      rw e (IsPrimary-with_site (state_of l) s (sent_more (progress_at (state_of l) s)) is lt
      (IsSiteSound-sent (is_within (state_of l) s) (length l.log.sets) l.acked l.decided (progress_at (state_of l) s)
      (is.sites s first_progress lt) unsent) (is.lags s lt))

  -- a site reported a later place
  pub IsPrimary-reported : (l : Inside A) (sites : List SiteProgress) (s place : ℕ) → IsPrimary (state_of l)
      → s < length (state_of l).sites → (progress_at (state_of l) s).reported ≤ place → place ≤ (progress_at (state_of l) s).sent
      → sites ≡ set (state_of l).sites s (reported_as place (progress_at (state_of l) s))
      → IsPrimary (record (state_of l) { sites = sites })
  IsPrimary-reported l sites s place is lt risen sent e =
      rw e (IsPrimary-with_site (state_of l) s (reported_as place (progress_at (state_of l) s)) is lt
      (IsSiteSound-reported (state_of l) s place (progress_at (state_of l) s) (is.sites s first_progress lt) risen sent)
      (within-later l.log l.setup.groups (latest (limits_at (state_of l) s)) (progress_at (state_of l) s).reported place l.acked risen
      (is.lags s lt)))

-- a list without elements
pub nil-from_empty : (xs : List ℕ) → true ≡ (length xs == 0) → xs ≡ []
nil-from_empty [] e = refl
nil-from_empty (x ∷ xs) e = absurd (false≢true (sym (e ∙ ne_eqb (length (x ∷ xs)) 0 (omega arith))))

-- where none is forced, the head is acknowledged, and else it is not
pub acked-none : (acked head : ℕ) (forced : List ℕ) → true ≡ (length forced == 0) → head ≡ acked + 1
    → head ≡ acked_after acked forced
acked-none acked head forced none here = here ∙ ap (acked_after acked) (sym (nil-from_empty forced none))

pub acked-some : (acked : ℕ) (forced : List ℕ) → false ≡ (length forced == 0) → acked ≡ acked_after acked forced
acked-some acked [] e = absurd (false≢true e)
acked-some acked (s ∷ forced) e = refl

-- what a settlement answers, by whether there is a site that holds the head up
pub acked_or_round-none : (k : ℕ) (forced : List ℕ) → true ≡ (length forced == 0) → Acked k ≡ acked_or_round k forced
acked_or_round-none k forced none = rw (nil-from_empty forced none) refl

pub acked_or_round-some : (k : ℕ) (forced : List ℕ) → false ≡ (length forced == 0) → Round k forced ≡ acked_or_round k forced
acked_or_round-some k [] e = absurd (false≢true e)
acked_or_round-some k (s ∷ forced) e = refl

pub acked_or_waiting-none : (k : ℕ) (waiting : List ℕ) → true ≡ (length waiting == 0) → Acked k ≡ acked_or_waiting k waiting
acked_or_waiting-none k waiting none = rw (nil-from_empty waiting none) refl

pub acked_or_waiting-some : (k : ℕ) (waiting : List ℕ) → false ≡ (length waiting == 0) → Waiting k waiting ≡ acked_or_waiting k waiting
acked_or_waiting-some k [] e = absurd (false≢true e)
acked_or_waiting-some k (s ∷ waiting) e = refl

-- the head, once it is decided, waits for a site that has not reported it where the site's rounds end with it
pub waits-by_last_round : (p : PrimaryState) (s k : ℕ) → IsPrimary p → s < length p.sites → p.acked < p.decided
    → k ≡ p.acked + 1 → (progress_at p s).reported < k
    → (last_place (progress_at p s).rounds == k)
    ≡ (not (is_within p s (reported_at (progress_at p s) k) k) && nat_lt (progress_at p s).reported k)
waits-by_last_round p s k is below later head late =
    let decided : p.decided ≡ k = omega (arith, is.next) in
    let rounds = (is.sites s first_progress below).rounds ∙ ap (rounds_upto (is_within p s) (reported_at (progress_at p s))) decided in
    rw (rounds, lt-ltb (progress_at p s).reported k late, last_round-forced (is_within p s) (reported_at (progress_at p s)) k (omega arith))
    (sym (and-true (not (is_within p s (reported_at (progress_at p s) k) k))))

-- the head, once it is decided, waits for the sites that it forced and that have not reported it
pub waiting-below : (p : PrimaryState) (n : ℕ) → p.acked < p.decided → n ≡ length p.sites → where_below (waits_for p) n ≡ waiting_now p
waiting-below p n later all =
    rw all (where_below-same (waits_for p) _ (length p.sites) (λ s lt. rw (lt-ltb p.acked p.decided later) refl))

-- ---- the fewest rounds

-- by the law, since the rounds and the windows of a site are those of its rule
fewest-sound : (keeps : ℕ → ℕ → Bool) (updates acked decided : ℕ) (site : SiteProgress) → IsLimitTest keeps
    → IsSiteSound keeps updates acked decided site → AreFewest keeps (reported_at site) decided site.rounds site.windows
fewest-sound keeps updates acked decided site test is =
    rw (is.rounds, is.windows) (forced_rounds_are_fewest keeps (reported_at site) decided test is.before)

pub HasFewestRounds-sound : (p : PrimaryState) → IsPrimary p → HasFewestRounds p
HasFewestRounds-sound p is s lt =
    fewest-sound (is_within p s) (length p.log.sets) p.acked p.decided (progress_at p s)
    (in_force-test p.log p.setup.groups (limits_at p s)) (is.sites s first_progress lt)

-- there is an update to settle
pub settle-allowed : (p : PrimaryState) (updates : ℕ) → updates ≡ length p.log.sets → (p.acked ≡ updates → ⊥)
    → settle_refusal p ≡ None
settle-allowed p updates is more = rw (ne_eqb p.acked (length p.log.sets) (λ e. more (e ∙ sym is))) refl

-- a head that is decided is waited for
pub settled-later : (p : PrimaryState) → (p.acked ≡ p.decided → ⊥)
    → acked_or_waiting (p.acked + 1) (waiting_now p) ≡ settled_as p
settled-later p later = rw (ne_eqb p.acked p.decided later) refl
