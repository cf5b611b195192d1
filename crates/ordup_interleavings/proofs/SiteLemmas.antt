-- What each site holds between two holds, and that it keeps its limits.
use Rattle.std.proofs.Common.{◌≡◌, ℕ, ◌+◌, ◌<◌, true, length, map, drop}
use Rattle.std.proofs.Common.{sym, ap, ◌∙◌, subst, arith, take-append-drop}
use Rattle.std.specs.Prelude.{Some, slice_get}
use Rattle.std.proofs.lemmas.Option.{slice_get_within}
use Rattle.std.proofs.lemmas.List.{length-append, map-append}
use Rattle.ordup_objects.specs.Serial.{History, with_more, prefix_of}
use Rattle.ordup_limits.specs.Entries.{latest}
use Rattle.ordup_limits.proofs.LimitLemmas.{within-later}
use Rattle.ordup_primary.specs.Declarations.{Declared}
use Rattle.ordup_primary.specs.Primaries.{first_progress, progress_at, limits_at, is_lag_within}
use Rattle.ordup_primary.proofs.PrimaryLemmas.{HasFewestRounds-sound}
use Rattle.ordup_site.specs.Sites.{SiteState, HasApplied}
use Rattle.ordup_site.proofs.SiteLemmas.{HasApplied-longer}
use Rattle.ordup_feed.specs.Parcels.{PlainParcel, history_of}
use Rattle.ordup_feed.specs.Ends.{Sending}
use Rattle.ordup_holds.specs.Cells.{CellState}
use Rattle.ordup_holds.proofs.BookLemmas.{pushed-count}
use Rattle.ordup_interleavings.specs.Moments.{Moment}
use Rattle.ordup_interleavings.specs.Kept.{IsFeed}
use Rattle.ordup_interleavings.specs.Promises.{HoldsItsPrefix, HoldPrefixes, SitesHoldPrefixes, SitesKeepLimits, SitesHaveFewestRounds}
use Rattle.ordup_interleavings.proofs.TurnLemmas.{there}
use Rattle.ordup_interleavings.proofs.SoundLemmas.{IsSound, always}

-- what was applied of the first updates of a log was applied of the log
applied-of : (x : SiteState) (log : History) (n j : ℕ) → HasApplied x (prefix_of log n) j → HasApplied x log j
applied-of x log n j held =
    subst (λ (h : History). HasApplied x h j)
    (ap (λ sets. let h : History = record { start = log.start; sets = sets } in h) (take-append-drop n log.sets))
    (HasApplied-longer x (prefix_of log n) j (drop n log.sets) held)

-- what was taken of a feed whose pushes are the first updates of a log
taken-of : (e : Sending) (c : CellState) (log : History) (n : ℕ) → IsFeed e c.end → history_of e.start e.pushed ≡ prefix_of log n
    → HasApplied c.site (history_of c.end.start c.end.taken) (length c.end.taken) → HasApplied c.site log (length c.end.taken)
taken-of e c log n feed pushed held =
    let j = length c.end.taken in
    let set = λ (p : PlainParcel). p.set in
    let q = feed.queue in
    let here : HasApplied c.site (history_of e.start c.end.taken) j = rw q.0 at held in
    let longer : HasApplied c.site (with_more (history_of e.start c.end.taken) (map set feed.items)) j =
    HasApplied-longer c.site (history_of e.start c.end.taken) j (map set feed.items) here in
    let all : with_more (history_of e.start c.end.taken) (map set feed.items) ≡ history_of e.start e.pushed =
    ap (λ sets. let h : History = record { start = e.start; sets = sets } in h)
    (sym (map-append set c.end.taken feed.items) ∙ ap (map set) (sym q.1)) in
    applied-of c.site log n j (subst (λ (h : History). HasApplied c.site h j) (all ∙ pushed) longer)

-- the numbers of a site
pub prefix-at : (d : Declared) (m : Moment) → IsSound d m → (s : ℕ) (e : Sending) (c : CellState) → slice_get m.book.ends s ≡ Some e
    → slice_get m.cells s ≡ Some c → HoldsItsPrefix m.book.primary s e c
prefix-at d m is s e c end cell =
    let p = m.book.primary in
    let kept = is.kept in
    let book = kept.book in
    let lt : s < length p.sites = omega (arith, slice_get_within m.book.ends s e end, book.count) in
    let tied = book.tied s e end in
    let feed = kept.feeds s e c end cell in
    let held = kept.cells s c cell in
    let applied = held.applied in
    let all : length e.pushed ≡ length c.end.taken + length feed.items =
    ap length feed.queue.1 ∙ length-append c.end.taken feed.items in
    let count = pushed-count p s e is.primary lt tied in
    let told = is.told s c cell in
    record {
      prefix = subst (HasApplied c.site p.log) (sym applied) (taken-of e c p.log (progress_at p s).sent feed tied.pushed held);
      reported = tied.reported;
      known = feed.told.1;
      told = omega (arith, told, applied);
      applied = omega (arith, applied, all, count);
      sent = (is.primary.sites s first_progress lt).sent;
    }

hold-prefixes : (d : Declared) (m : Moment) → IsSound d m → HoldPrefixes m
hold-prefixes d m is =
    let kept = is.kept in record {
      ends = kept.book.count;
      cells = kept.count ∙ kept.book.count;
      each = prefix-at d m is;
    }

keep-limits : (d : Declared) (m : Moment) → IsSound d m → (s : ℕ) (c : CellState) → slice_get m.cells s ≡ Some c
    → is_lag_within m.book.primary s c.site.applied ≡ true
keep-limits d m is s c cell =
    let p = m.book.primary in
    let kept = is.kept in
    let book = kept.book in
    let inside = slice_get_within m.cells s c cell in
    let lt : s < length p.sites = omega (arith, inside, kept.count, book.count) in
    let e = there m.book.ends s (omega (arith, inside, kept.count)) in
    let at = prefix-at d m is s e.0 c e.1 cell in
    within-later p.log p.setup.groups (latest (limits_at p s)) (progress_at p s).reported c.site.applied p.acked
    (omega (arith, at.reported, at.known, at.told)) (is.primary.lags s lt)

pub sites-hold-prefixes : SitesHoldPrefixes
sites-hold-prefixes = always (λ d m. HoldPrefixes m) hold-prefixes

pub sites-keep-limits : SitesKeepLimits
sites-keep-limits = always _ keep-limits

pub sites-have-fewest-rounds : SitesHaveFewestRounds
sites-have-fewest-rounds = always _ (λ d m is. HasFewestRounds-sound m.book.primary is.primary)
