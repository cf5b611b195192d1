-- What a turn leaves of a book: its primary stays sound.
use Rattle.std.proofs.Common.{◌≡◌, ℕ, zero, suc, ◌+◌, ◌<◌, ◌≤◌, Bool, true, false, List, [], ◌∷◌, length, get_or, min}
use Rattle.std.proofs.Common.{refl, sym, ap, ◌∙◌, subst, arith, inl, inr, ◌⊎◌}
use Rattle.std.specs.Prelude.{Some, None, Result, Ok, Err, slice_get, if◌then◌else◌}
use Rattle.std.proofs.lemmas.Bool.{cases_eq, eq-eqb, and_parts, ltb-true}
use Rattle.std.proofs.lemmas.List.{get_or_default}
use Rattle.ordup_objects.specs.declared.refusal.Refusal.{Refusal}
use Rattle.ordup_objects.specs.declared.refusal.Refusal.TheVariants.{NothingToSettle}
use Rattle.ordup_limits.specs.Entries.{latest}
use Rattle.ordup_limits.proofs.LimitLemmas.{within-later}
use Rattle.ordup_primary.specs.Primaries.{PrimaryState, SiteProgress, IsSiteSound, IsPrimary, first_progress, progress_at, is_within, is_lag_within}
use Rattle.ordup_primary.specs.Primaries.{limits_at, settle_refusal, waits_for}
use Rattle.ordup_primary.proofs.PrimaryLemmas.{IsSiteSound-reported, IsPrimary-decided, IsPrimary-waited}
use Rattle.ordup_feed.specs.Ends.{Sending}
use Rattle.ordup_holds.specs.Books.{BookState, KeepsBook}
use Rattle.ordup_holds.specs.Turning.{AtEachSite, KeptSite, Reported, Sent, SentOut, Settles, Acknowledges, SettlesLast}
use Rattle.ordup_holds.specs.Turning.{send_bound, kept_at}
use Rattle.ordup_holds.specs.Numbering.{IsTurn}
use Rattle.ordup_holds.proofs.BookLemmas.{pushed-count, sent-none}
use Rattle.ordup_world.proofs.StoreLemmas.{acked_after-more}

pub there : {X : Type 0} → (xs : List X) (i : ℕ) → i < length xs → (x : X) × (slice_get xs i ≡ Some x)
there [] i lt = absurd (omega arith)
there (x ∷ xs) zero lt = (x, refl)
there (x ∷ xs) (suc i) lt = there xs i (omega arith)

-- each site of a primary is another one, and sound
IsPrimary-sites : (p : PrimaryState) (sites : List SiteProgress) → IsPrimary p → length sites ≡ length p.sites
    → ((s : ℕ) → s < length p.sites
    → IsSiteSound (is_within p s) (length p.log.sets) p.acked p.decided (get_or sites s first_progress)
    × (is_lag_within p s (get_or sites s first_progress).reported ≡ true))
    → IsPrimary (record p { sites = sites })
IsPrimary-sites p sites is count each = record {
  ready = is.ready;
  start = is.start;
  legal = is.legal;
  few = is.few;
  count = count ∙ is.count;
  tables = is.tables ∙ sym count;
  acked = is.acked;
  next = is.next;
  decided = is.decided;
  known = is.known;
  begun = is.begun;
  lags = λ s lt. (each s (omega (arith, count, lt))).1;
  sites = λ s d lt. rw (get_or_default sites s d first_progress lt) (each s (omega (arith, count, lt))).0;
}

-- what each part of a turn leaves
pub record Stays (b c : BookState) : Type 0 where
  pub setup : c.primary.setup ≡ b.primary.setup
  pub log : c.primary.log ≡ b.primary.log
  pub limits : c.primary.limits ≡ b.primary.limits
  pub acked : b.primary.acked ≤ c.primary.acked
  pub sites : length c.primary.sites ≡ length b.primary.sites
  pub ends : length c.ends ≡ length b.ends
  pub primary : IsPrimary c.primary

stays-more : (b c d : BookState) → Stays b c → Stays c d → Stays b d
stays-more b c d x y = record {
  setup = y.setup ∙ x.setup;
  log = y.log ∙ x.log;
  limits = y.limits ∙ x.limits;
  acked = omega (arith, x.acked, y.acked);
  sites = y.sites ∙ x.sites;
  ends = y.ends ∙ x.ends;
  primary = y.primary;
}

-- a primary whose sites alone are others
stays-at : {Step : ℕ → KeptSite → KeptSite → Type 0} (b c : BookState) → AtEachSite Step b c → IsPrimary c.primary → Stays b c
stays-at b c at is = record {
  setup = ap (λ (p : PrimaryState). p.setup) at.primary;
  log = ap (λ (p : PrimaryState). p.log) at.primary;
  limits = ap (λ (p : PrimaryState). p.limits) at.primary;
  acked = omega (arith, ap (λ (p : PrimaryState). p.acked) at.primary);
  sites = at.sites;
  ends = at.ends;
  primary = is;
}

-- ---- the reports

-- a look at the feed of site s: its end then, and the number that the site reported
pub record LooksAt (p : PrimaryState) (a : BookState) (s : ℕ) : Type 0 where
  pub end : Sending
  pub there : slice_get a.ends s ≡ Some end
  pub place : ℕ
  pub is : progress_at a.primary s ≡ record (progress_at p s) { reported = place }
  pub risen : (progress_at p s).reported ≤ place
  pub sent : place ≤ (progress_at p s).sent
  pub known : place ≤ end.known

pub look-at : (b a : BookState) → IsPrimary b.primary → KeepsBook b.primary b.ends → AtEachSite Reported b a → (s : ℕ)
    → s < length b.primary.sites → LooksAt b.primary a s
look-at b a is kept at s lt =
    let p = b.primary in
    let e = there b.ends s (omega (arith, kept.count, lt)) in
    let f = there a.ends s (omega (arith, kept.count, at.ends, lt)) in
    let r = at.each s e.0 f.0 e.1 f.1 in
    let tied = kept.tied s e.0 e.1 in
    let site = is.sites s first_progress lt in
    let pushed : length f.0.pushed ≡ length e.0.pushed = ap (λ (x : Sending). length x.pushed) r.looked in
    let count : length e.0.pushed ≡ (progress_at p s).sent = pushed-count p s e.0 is lt tied in
    record {
      end = f.0;
      there = f.1;
      place = min f.0.known (length f.0.pushed);
      is = r.reported;
      risen = omega (arith, tied.reported, r.risen, pushed, count, site.reported);
      sent = omega (arith, pushed, count);
      known = omega arith;
    }

pub reports : (b a : BookState) → IsPrimary b.primary → KeepsBook b.primary b.ends → AtEachSite Reported b a → Stays b a
reports b a is kept at =
    let p = b.primary in
    stays-at b a at (subst IsPrimary (sym at.primary) (IsPrimary-sites p a.primary.sites is at.sites (λ s lt.
    let r = look-at b a is kept at s lt in
    subst (λ (x : SiteProgress).
    IsSiteSound (is_within p s) (length p.log.sets) p.acked p.decided x × (is_lag_within p s x.reported ≡ true)) (sym r.is) (
      IsSiteSound-reported p s r.place (progress_at p s) (is.sites s first_progress lt) r.risen r.sent,
      within-later p.log p.setup.groups (latest (limits_at p s)) (progress_at p s).reported r.place p.acked r.risen (is.lags s lt),
    ))))

-- ---- the settlements

-- there is a head
pub some-head : (p : PrimaryState) → IsPrimary p → settle_refusal p ≡ None → p.acked < length p.log.sets
some-head p is allowed = elim (cases_eq p.acked (length p.log.sets)) [
  | inl all ↦ absurd (let no : settle_refusal p ≡ Some NothingToSettle = rw (eq-eqb p.acked (length p.log.sets) all) refl in cc)
  | inr some ↦ omega (arith, some, is.acked, is.decided)
]

-- a book with another primary
abbrev pub book_of : BookState → PrimaryState → BookState
book_of b p = record { primary = p; ends = b.ends }

settles : (b : BookState) (q : PrimaryState) → IsPrimary b.primary → Settles b.primary q → Stays b (book_of b q)
settles b q is settled =
    let p = b.primary in
    elim (cases_eq p.acked p.decided) [
      | inl first ↦ (let d = settled.first first in record {
        setup = d.setup;
        log = d.log;
        limits = d.limits;
        acked = rw d.acked (acked_after-more p.acked _);
        sites = d.count;
        ends = refl;
        primary = IsPrimary-decided p q is first (some-head p is settled.allowed) d;
      })
      | inr other ↦ (let less : p.acked < p.decided = omega (arith, is.acked, other) in
          let later = settled.later less in
          record {
            setup = ap (λ (r : PrimaryState). r.setup) later;
            log = ap (λ (r : PrimaryState). r.log) later;
            limits = ap (λ (r : PrimaryState). r.limits) later;
            acked = rw (ap (λ (r : PrimaryState). r.acked) later) (acked_after-more p.acked _);
            sites = ap (λ (r : PrimaryState). length r.sites) later;
            ends = refl;
            primary = subst IsPrimary (sym later) (IsPrimary-waited p is less);
          })
    ]

stays-same : (b : BookState) (q : PrimaryState) → IsPrimary b.primary → q ≡ b.primary → Stays b (book_of b q)
stays-same b q is same = record {
  setup = ap (λ (r : PrimaryState). r.setup) same;
  log = ap (λ (r : PrimaryState). r.log) same;
  limits = ap (λ (r : PrimaryState). r.limits) same;
  acked = omega (arith, ap (λ (r : PrimaryState). r.acked) same);
  sites = ap (λ (r : PrimaryState). length r.sites) same;
  ends = refl;
  primary = subst IsPrimary (sym same) is;
}

pub acknowledges : (n : ℕ) (b : BookState) (q : PrimaryState) → IsPrimary b.primary → Acknowledges n b.primary q → Stays b (book_of b q)
acknowledges zero b q is same = stays-same b q is same
acknowledges (suc n) b q is h =
    let first = acknowledges n b h.0 is h.1 in
    stays-more b (book_of b h.0) (book_of b q) first (settles (book_of b h.0) q first.primary h.2)

-- the last settlement, if there is one
pub settles-last : (b : BookState) (q : PrimaryState) → IsPrimary b.primary → (q ≡ b.primary) ⊎ Settles b.primary q
    → Stays b (book_of b q)
settles-last b q is last = elim last [
  | inl same ↦ stays-same b q is same
  | inr one ↦ settles b q is one
]

-- ---- what is sent

bound-by : (b : Bool) (a n : ℕ) → (b ≡ true → a ≤ n) → (if b then a else n) ≤ n
bound-by true a n few = few refl
bound-by false a n few = omega arith

bound-few : (p : PrimaryState) (s : ℕ) → IsPrimary p → send_bound p s ≤ length p.log.sets
bound-few p s is = bound-by (waits_for p s) (p.acked + 1) (length p.log.sets) (λ waits.
    omega (arith, ltb-true p.acked p.decided (and_parts _ _ waits).0, is.decided))

-- as many updates were sent to a site as the log has, at most
IsSiteSound-more : (keeps : ℕ → ℕ → Bool) (updates acked decided sent : ℕ) (site : SiteProgress)
    → IsSiteSound keeps updates acked decided site → site.sent ≤ sent → sent ≤ updates
    → IsSiteSound keeps updates acked decided (record site { sent = sent })
IsSiteSound-more keeps updates acked decided sent site is more few = record {
  reported = omega (arith, is.reported);
  sent = few;
  count = is.count;
  risen = is.risen;
  rounds = is.rounds;
  windows = is.windows;
  answered = is.answered;
  rising = is.rising;
  before = is.before;
}

pub sends : (bound : ℕ → ℕ) (b c : BookState) → IsPrimary b.primary → length b.ends ≡ length b.primary.sites
    → ((s : ℕ) → bound s ≤ length b.primary.log.sets) → AtEachSite (Sent bound) b c → Stays b c
sends bound b c is count bounded at =
    let p = b.primary in
    stays-at b c at (subst IsPrimary (sym at.primary) (IsPrimary-sites p c.primary.sites is at.sites (λ s lt.
    let e = there b.ends s (omega (arith, count, lt)) in
    let f = there c.ends s (omega (arith, count, at.ends, lt)) in
    let r = at.each s e.0 f.0 e.1 f.1 in
    let site = is.sites s first_progress lt in
    let sent = (progress_at c.primary s).sent in
    let few : sent ≤ length p.log.sets = omega (arith, r.bounded, bounded s, site.sent) in
    subst (λ (x : SiteProgress).
    IsSiteSound (is_within p s) (length p.log.sets) p.acked p.decided x × (is_lag_within p s x.reported ≡ true)) (sym r.sent) (
      IsSiteSound-more (is_within p s) (length p.log.sets) p.acked p.decided sent (progress_at p s) site r.risen few,
      is.lags s lt,
    ))))

-- ---- a turn

-- The parts of a turn, whether a growth was refused or not: the reports, the settlements that acknowledge the head, the last settlement,
-- if there is one, and what was sent.
pub record Parts (b c : BookState) : Type 0 where
  pub heard : BookState
  pub reported : AtEachSite Reported b heard
  pub count : ℕ
  pub acked : PrimaryState
  pub first : Acknowledges count heard.primary acked
  pub settled : PrimaryState
  pub last : (settled ≡ acked) ⊎ Settles acked settled
  pub sent : AtEachSite (Sent (send_bound settled)) (book_of heard settled) c

some-sent : (bound : ℕ → ℕ) (b c : BookState) → AtEachSite (SentOut bound) b c → AtEachSite (Sent bound) b c
some-sent bound b c at = record {
  primary = at.primary;
  sites = at.sites;
  ends = at.ends;
  each = λ s e f before after. (at.each s e f before after).some;
}

-- nothing was sent
none-sent : (bound : ℕ → ℕ) (b c : BookState) → c.ends ≡ b.ends → c.primary ≡ b.primary → AtEachSite (Sent bound) b c
none-sent bound b c ends primary = record {
  primary = primary ∙ (λ i. record b.primary { sites = ap (λ (p : PrimaryState). p.sites) (sym primary) i });
  sites = ap (λ (p : PrimaryState). length p.sites) primary;
  ends = ap length ends;
  each = λ s e f before after.
      let same : e ≡ f = cc (before, after, ap (λ (l : List Sending). slice_get l s) ends) in
      rw (primary, ← same) (sent-none bound s (kept_at b.primary s e));
}

last-settled : (p q : PrimaryState) → SettlesLast p q → (q ≡ p) ⊎ Settles p q
last-settled p q last = elim last [
  | inl all ↦ inl all.0
  | inr one ↦ inr one.0
]

pub parts : (b c : BookState) (answer : Result ℕ Refusal) → IsTurn b c answer → Parts b c
parts b c (Ok n) turned =
    let t = turned.1 in
    let s = t.3 in
    record {
      heard = t.0;
      reported = t.2;
      count = s.0;
      acked = s.1;
      first = s.2;
      settled = t.1;
      last = last-settled s.1 t.1 s.3;
      sent = some-sent (send_bound t.1) (book_of t.0 t.1) c t.4;
    }
parts b c (Err e) turned =
    let t = turned.1 in
    elim t.2 [
      | inl part ↦ record {
        heard = t.0;
        reported = t.1;
        count = part.1;
        acked = c.primary;
        first = part.2;
        settled = c.primary;
        last = inl refl;
        sent = none-sent (send_bound c.primary) (book_of t.0 c.primary) c part.0 refl;
      }
      | inr part ↦ (let s = part.1 in record {
        heard = t.0;
        reported = t.1;
        count = s.0;
        acked = s.1;
        first = s.2;
        settled = part.0;
        last = last-settled s.1 part.0 s.3;
        sent = part.2;
      })
    ]

-- a turn leaves a sound primary sound
pub turns : (b c : BookState) → IsPrimary b.primary → KeepsBook b.primary b.ends → Parts b c → Stays b c
turns b c is kept t =
    let a = t.heard in
    let x = reports b a is kept t.reported in
    let y = acknowledges t.count a t.acked x.primary t.first in
    let z = settles-last (book_of a t.acked) t.settled y.primary t.last in
    let count : length a.ends ≡ length t.settled.sites = omega (arith, x.ends, x.sites, y.sites, z.sites, kept.count) in
    let w = sends (send_bound t.settled) (book_of a t.settled) c z.primary count (λ s. bound-few t.settled s z.primary) t.sent in
    stays-more b a c x (stays-more a (book_of a t.acked) c y (stays-more (book_of a t.acked) (book_of a t.settled) c z w))
