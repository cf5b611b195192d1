-- The record of a site of a primary.
use Rattle.ordup_audit.proofs.Common.{◌-◌, ◌<◌, ◌∙◌, ◌≡◌, ◌≤◌, [], All, and_parts, ap, append-nil, AreDistinct, AreEntries, AreNames}
use Rattle.ordup_audit.proofs.Common.{AreParts, AreReportChanges, arith, drop, History, history_of, initial_state, is_name}
use Rattle.ordup_audit.proofs.Common.{is_within, IsCertificate, IsGroup, IsLegalHistory, IsRecord, IsValid, length, length-map, in_force}
use Rattle.ordup_audit.proofs.Common.{Change, Entries, GroupList, Objects, Window}
use Rattle.ordup_audit.proofs.Common.{List, ltb-true, most_groups, most_objects, most_updates, nat_lt, RecordState}
use Rattle.ordup_audit.proofs.Common.{refl, report_at, state_of, suc, sym, take}
use Rattle.ordup_audit.proofs.Common.{take-append-drop, true, with_more, zero, ℕ, ℤ}
use Rattle.ordup_primary.specs.Primaries.{limits_at, progress_at, reported_at}
use Rattle.ordup_record.specs.RecordsOf.{record_of, record_refusal, report_changes, reported_before_or_at}
use Rattle.std.proofs.Common.{length-take, None}
use Rattle.std.proofs.lemmas.Bool.{lt-ltb}
use Rattle.ordup_limits.specs.Limits.{within}
use Rattle.ordup_limits.proofs.LimitLemmas.{within-longer}
use Rattle.ordup_log.specs.Groups.{AreGroupsKnown}
use Rattle.ordup_primary.specs.Primaries.{PrimaryState, IsPrimary, IsSiteSound, HasFewestRounds, first_progress, is_within as is_within_at}
use Rattle.ordup_audit.specs.RecordViewInside.{IsLent, lent_state}
use Rattle.ordup_audit.specs.declared.record.RecordParts.{RecordParts}
use Rattle.ordup_audit.specs.declared.report_change.ReportChange.{ReportChange}
use Rattle.ordup_audit.specs.declared.record_view.RecordView.TheInside.{Inside as LentParts}
use Rattle.ordup_audit.proofs.AscendingLemmas.{rounds-few}
use Rattle.ordup_record.proofs.ChangeLemmas.{AreReportsRising, changes-are, report_at-changes}
use Rattle.ordup_record.proofs.CertificateLemmas.{certificate-same}

-- a record is given of a site that is declared
pub not-refused : (p : PrimaryState) (s : ℕ) → s < length p.sites → record_refusal p s ≡ None
not-refused p s there = rw (lt-ltb s (length p.sites) there) refl

before-few : (reported_at : ℕ → ℕ) (d n : ℕ) → ((k : ℕ) → reported_at k ≤ n) → reported_before_or_at reported_at d ≤ n
before-few reported_at zero n few = omega arith
before-few reported_at (suc d) n few = few (suc d)

module _ (p : PrimaryState) (s : ℕ) (is : IsPrimary p) (there : s < length p.sites) (fewest : HasFewestRounds p) where
  site-sound : IsSiteSound (is_within_at p s) (length p.log.sets) p.acked p.decided (progress_at p s)
  site-sound = is.sites s first_progress there

  updates-decided : length (record_of p s).sets ≡ p.decided
  updates-decided = omega (arith, length-take p.decided p.log.sets, is.decided)

  log-longer : p.log ≡ with_more (history_of (record_of p s)) (drop p.decided p.log.sets)
  log-longer =
      ap (λ start. let h : History = record { start = start; sets = p.log.sets } in h) is.start
      ∙ sym (ap (λ sets. let h : History = record { start = initial_state p.setup.objects; sets = sets } in h)
      (take-append-drop p.decided p.log.sets))

  tests-same : (a b : ℕ) → b ≤ p.decided → is_within (record_of p s) a b ≡ is_within_at p s a b
  tests-same a b le =
      sym (within-longer (history_of (record_of p s)) (drop p.decided p.log.sets) p.setup.groups (in_force (limits_at p s) b) a b
      (omega (arith, updates-decided)))
      ∙ ap (λ h. within h p.setup.groups (in_force (limits_at p s) b) a b) (sym log-longer)

  reports-rising : AreReportsRising (reported_at (progress_at p s)) p.decided
  reports-rising j k some le last = site-sound.rising (j - 1) (k - 1) (omega arith) (omega arith)

  reports-are : AreReportChanges p.decided (report_changes (reported_at (progress_at p s)) p.decided)
  reports-are =
      changes-are (reported_at (progress_at p s)) p.decided reports-rising
      (before-few (reported_at (progress_at p s)) p.decided most_updates
      (λ k. omega (arith, site-sound.risen (k - 1), site-sound.reported, site-sound.sent, is.few)))

  certificate : IsCertificate (is_within_at p s) (reported_at (progress_at p s)) p.decided (progress_at p s).rounds
      (progress_at p s).windows
  certificate = (fewest s there).certificate

  pub record-valid : IsLegalHistory (history_of (record_of p s)) → IsValid (record_of p s)
  record-valid legal = record {
    legal = legal;
    certificate = rw updates-decided
        (certificate-same (is_within_at p s) (is_within (record_of p s)) (reported_at (progress_at p s))
        (report_at (report_changes (reported_at (progress_at p s)) p.decided)) p.decided tests-same
        (λ k some le. report_at-changes (reported_at (progress_at p s)) p.decided k some le)
        (progress_at p s).rounds (progress_at p s).windows certificate);
  }

  pub record-sound : is_name (record_of p s).site ≡ true → length p.setup.objects ≤ most_objects → AreNames p.setup.objects
      → AreDistinct p.setup.objects → length p.setup.groups ≤ most_groups → All (λ g. IsGroup g.1) p.setup.groups
      → AreNames p.setup.groups → AreDistinct p.setup.groups → AreGroupsKnown (length p.setup.objects) p.setup.groups
      → AreEntries (limits_at p s) → IsLegalHistory (history_of (record_of p s)) → IsRecord (record_of p s)
  record-sound name objects names distinct groups each group_names groups_distinct members limits legal = record {
    site = name;
    objects = record {
      some = ltb-true 0 (length p.setup.objects) (and_parts (nat_lt 0 (length p.setup.objects)) (nat_lt 0 (length p.setup.sites))
          is.ready).0;
      few = objects;
      values = legal.start;
      names = names;
      distinct = distinct;
    };
    groups = record { few = groups; each = each; known = members; names = group_names; distinct = groups_distinct };
    limits = limits;
    scopes = is.known s [] (omega (arith, is.tables));
    begun = λ k d lt. omega (arith, is.begun s [] (omega (arith, is.tables)) k d lt, is.acked, updates-decided);
    few = omega (arith, updates-decided, is.decided, is.few);
    sets = legal.sets;
    known = rw (length-map p.setup.objects (λ (e : List ℕ × ℤ). e.1)) at legal.known;
    reports = rw updates-decided reports-are;
    rounds = rw updates-decided certificate.places;
    few_windows =
        omega (arith, certificate.count, rounds-few p.decided (progress_at p s).rounds certificate.places, is.decided, is.few);
    windows = rw updates-decided (λ j d lt. (let w = certificate.disjoint.each j d lt in (omega (arith, w.forward, w.last), w.last)));
  }

-- parts with what a record has stand for it
pub parts-content : {A : Type 0} (r : RecordState) (q : RecordParts A) → q.site ≡ r.site → q.objects ≡ r.objects → q.groups ≡ r.groups
    → q.limits ≡ r.limits → q.log.sets ≡ r.sets → q.rest.items ≡ [] → q.reports.items ≡ r.reports → q.rounds.items ≡ r.rounds
    → q.windows.items ≡ r.windows
    → state_of q ≡ r
parts-content r q site objects groups limits log rest reports rounds windows =
    rw (site, objects, groups, limits, log, rest, reports, rounds, windows, append-nil r.sets) refl

pub parts-are : {A : Type 0} (r : RecordState) (q : RecordParts A) → IsRecord r → state_of q ≡ r
    → q.log.start ≡ initial_state q.objects → q.rest.items ≡ []
    → AreParts q
parts-are r q is same start none = record {
  whole = rw same is;
  start = start;
  rest = λ some. absurd (omega (arith, ap length none));
}

-- a record with what the primary has of a site
pub record HasContent (p : PrimaryState) (s : ℕ) (r : RecordState) : Type 0 where
  pub site : r.site ≡ (record_of p s).site
  pub objects : r.objects ≡ p.setup.objects
  pub groups : r.groups ≡ p.setup.groups
  pub limits : r.limits ≡ limits_at p s
  pub sets : r.sets ≡ take p.decided p.log.sets
  pub reports : r.reports ≡ (record_of p s).reports
  pub rounds : r.rounds ≡ (record_of p s).rounds
  pub windows : r.windows ≡ (record_of p s).windows

-- a record of these parts
abbrev state_with : List ℕ → Objects → GroupList → Entries → List (List Change) → List ReportChange → List ℕ → List Window → RecordState
state_with site objects groups limits sets reports rounds windows = record {
  site = site;
  objects = objects;
  groups = groups;
  limits = limits;
  sets = sets;
  reports = reports;
  rounds = rounds;
  windows = windows;
}

-- it is the record of the site
pub content-is : (p : PrimaryState) (s : ℕ) (r : RecordState) → HasContent p s r → r ≡ record_of p s
content-is p s r has =
    let o = record_of p s in
    let same : state_with r.site r.objects r.groups r.limits r.sets r.reports r.rounds r.windows
    ≡ state_with o.site o.objects o.groups o.limits o.sets o.reports o.rounds o.windows =
    rw (has.site, has.objects, has.groups, has.limits, has.sets, has.reports, has.rounds, has.windows) refl in
    same

pub content-valid : (p : PrimaryState) (s : ℕ) (r : RecordState) → HasContent p s r → IsValid (record_of p s) → IsValid r
content-valid p s r has is = rw (content-is p s r has) is

-- parts of it are lent
pub content-lent : {A : Type 0} (p : PrimaryState) (s : ℕ) (v : LentParts A) → HasContent p s (lent_state v) → IsRecord (record_of p s)
    → v.logged ≤ length v.log.now.sets → IsLent v
content-lent p s v has is logged = record { whole = rw (content-is p s (lent_state v) has) is; logged = logged }
