-- What a turn makes of a book.
use Rattle.std.specs.Prelude.{◌≡◌, ℕ, zero, suc, ◌+◌, ◌<◌, ◌≤◌, ◌⊎◌, Some, None, length, min, max}
use Rattle.std.specs.Prelude.{if◌then◌else◌, slice_get, slice_set}
use Rattle.ordup_primary.specs.Primaries.{PrimaryState, SiteProgress, progress_at, settle_refusal}
use Rattle.ordup_primary.specs.Primaries.{Decides, acked_after, waiting_now, waits_for}
use Rattle.ordup_feed.specs.Ends.{Sending}
use Rattle.ordup_holds.specs.Books.{BookState}

-- a primary that knows this of site s
abbrev pub with_progress : PrimaryState → ℕ → SiteProgress → PrimaryState
with_progress p s site = record p { sites = slice_set p.sites s site }

-- what a book keeps of a site: what the primary knows of it, and the sender's end of its feed
pub record KeptSite : Type 0 where
  pub progress : SiteProgress
  pub end : Sending

-- of site s, whose end this is
abbrev pub kept_at : PrimaryState → ℕ → Sending → KeptSite
kept_at p s e = record { progress = progress_at p s; end = e }

-- Below, a step of site s goes from what is kept of it before, x, to what is kept of it afterwards, y.

-- one look at the feed, whose number the site then reported
pub record Reported (s : ℕ) (x y : KeptSite) : Type 0 where
  pub looked : y.end ≡ record x.end { known = y.end.known }
  pub risen : x.end.known ≤ y.end.known
  pub reported : y.progress ≡ record x.progress { reported = min y.end.known (length y.end.pushed) }

-- updates were pushed, none above the bound of the site
pub record Sent (bound : ℕ → ℕ) (s : ℕ) (x y : KeptSite) : Type 0 where
  pub pushed : y.end ≡ record x.end { pushed = y.end.pushed }
  pub sent : y.progress ≡ record x.progress { sent = y.progress.sent }
  pub risen : x.progress.sent ≤ y.progress.sent
  pub bounded : y.progress.sent ≤ max x.progress.sent (bound s)

-- all up to the bound were pushed; or else as many as the feed can take, at least
pub record SentOut (bound : ℕ → ℕ) (s : ℕ) (x y : KeptSite) : Type 0 where
  pub some : Sent bound s x y
  pub out : (bound s ≤ y.progress.sent) ⊎ (y.end.feed.capacity ≤ y.progress.sent)

-- Each site made such a step, and nothing else of the book changed.
pub record AtEachSite (Step : ℕ → KeptSite → KeptSite → Type 0) (b c : BookState) : Type 0 where
  pub primary : c.primary ≡ record b.primary { sites = c.primary.sites }
  pub sites : length c.primary.sites ≡ length b.primary.sites
  pub ends : length c.ends ≡ length b.ends
  pub each : (s : ℕ) (e f : Sending) → slice_get b.ends s ≡ Some e → slice_get c.ends s ≡ Some f
      → Step s (kept_at b.primary s e) (kept_at c.primary s f)

-- what settlements leave of the primary as it was: what is declared, the log, what was sent to each site and what it reported
pub record SameFeeds (p q : PrimaryState) : Type 0 where
  pub setup : q.setup ≡ p.setup
  pub log : q.log ≡ p.log
  pub count : length q.sites ≡ length p.sites
  pub sent : (s : ℕ) → s < length p.sites → (progress_at q s).sent ≡ (progress_at p s).sent
  pub reported : (s : ℕ) → s < length p.sites → (progress_at q s).reported ≡ (progress_at p s).reported

-- one settlement of the head
pub record Settles (p q : PrimaryState) : Type 0 where
  pub allowed : settle_refusal p ≡ None
  pub first : p.acked ≡ p.decided → Decides p q
  pub later : p.acked < p.decided → q ≡ record p { acked = acked_after p.acked (waiting_now p) }

-- n settlements, each of which acknowledges the head
abbrev pub Acknowledges : ℕ → PrimaryState → PrimaryState → Type 0
Acknowledges zero p q = q ≡ p
Acknowledges (suc n) p q = (m : PrimaryState) × Acknowledges n p m × Settles m q × (q.acked ≡ m.acked + 1)

-- the last settlement does not acknowledge the head, or all updates are acknowledged
abbrev pub SettlesLast : PrimaryState → PrimaryState → Type 0
SettlesLast p q = ((q ≡ p) × (p.acked ≡ length p.log.sets)) ⊎ (Settles p q × (q.acked ≡ p.acked))

-- settlements while they acknowledge the head
abbrev pub SettlesOut : PrimaryState → PrimaryState → Type 0
SettlesOut p q = (n : ℕ) × (m : PrimaryState) × Acknowledges n p m × SettlesLast m q

-- the last update that site s may be sent
abbrev pub send_bound : PrimaryState → ℕ → ℕ
send_bound p s = if waits_for p s then p.acked + 1 else length p.log.sets

-- the reports of all sites, then the settlements, then what all sites are sent
abbrev pub Turned : BookState → BookState → Type 0
Turned b c =
    (a : BookState) × (m : PrimaryState) × AtEachSite Reported b a × SettlesOut a.primary m
    × AtEachSite (SentOut (send_bound m)) (record { primary = m; ends = a.ends }) c

-- the same up to some settlement, or up to some push
abbrev pub TurnedInPart : BookState → BookState → Type 0
TurnedInPart b c =
    (a : BookState) × AtEachSite Reported b a
    × (((c.ends ≡ a.ends) × (n : ℕ) × Acknowledges n a.primary c.primary)
    ⊎ ((m : PrimaryState) × SettlesOut a.primary m × AtEachSite (Sent (send_bound m)) (record { primary = m; ends = a.ends }) c))

-- nothing is left for a turn: all updates are acknowledged, and sent to each site
pub record IsAtRest (p : PrimaryState) : Type 0 where
  pub acked : length p.log.sets ≤ p.acked
  pub sent : (s : ℕ) → s < length p.sites → length p.log.sets ≤ (progress_at p s).sent
