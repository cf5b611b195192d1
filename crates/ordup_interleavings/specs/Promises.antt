-- What holds between any two holds, whatever their order.
use Rattle.std.specs.Prelude.{◌≡◌, ◌⊎◌, ℕ, ◌<◌, ◌≤◌, max, true, false, Some, None, List, [], ◌∷◌, length, map, slice_get, All}
use Rattle.std.specs.Global.{Global}
use Rattle.ordup_objects.specs.States.{value_at}
use Rattle.ordup_objects.specs.Serial.{History, serial, set_at, with_more}
use Rattle.ordup_objects.specs.declared.change.Change.{Change}
use Rattle.ordup_objects.specs.Marks.{AreMarks}
use Rattle.ordup_objects.specs.Weights.{distance}
use Rattle.ordup_limits.specs.Entries.{AreEntries}
use Rattle.ordup_primary.specs.Declarations.{Declared, AreCapacities}
use Rattle.ordup_primary.specs.Primaries.{PrimaryState, IsPrimary, HasFewestRounds, progress_at, is_lag_within}
use Rattle.ordup_query.specs.Imports.{import_of}
use Rattle.ordup_site.specs.Sites.{HasApplied}
use Rattle.ordup_feed.specs.Ends.{Sending}
use Rattle.ordup_world.specs.Queries.{Opened, import_total}
use Rattle.ordup_world.specs.Imports.{KeepsImport}
use Rattle.ordup_world.specs.Events.{AreAnswers, past_after, is_refused}
use Rattle.ordup_world.specs.OpenQueries.{site_at}
use Rattle.ordup_world.specs.Worlds.{WorldState, StandsFor, IsSound}
use Rattle.ordup_world.specs.declared.event.Event.{Event}
use Rattle.ordup_world.specs.declared.event.Answer.{Answer}
use Rattle.ordup_holds.specs.Cells.{CellState}
use Rattle.ordup_holds.specs.Opening.{AreOpened}
use Rattle.ordup_interleavings.specs.Moments.{ReadAt, Asked, Heard, Numbered, Acknowledged, Viewed, Caller, Moment}
use Rattle.ordup_interleavings.specs.Kept.{IsKept}
use Rattle.ordup_interleavings.specs.Holds.{Hold, Leads, Along, last_moment}

-- a store as it was opened, with what the types of its setup, its book and its cells keep; no query began, and no session has seen
-- anything
pub record IsStart (d : Declared) (m : Moment) : Type 0 where
  pub opened : AreOpened d m.book m.cells
  pub primary : IsPrimary m.book.primary
  pub limits : All AreEntries d.limits
  pub capacities : AreCapacities d.sites
  pub kept : IsKept m
  pub queries : (q : ℕ) → m.queries q ≡ None
  pub sessions : (a : ℕ) → m.sessions a ≡ record { seen = 0; heard = [] }

-- a fact at each moment of each list of holds that begins at the opening of a store
abbrev pub Always : (Declared → Moment → Type 0) → Type 0
Always Fact = (d : Declared) (m : Moment) (holds : List (Hold × Moment)) → IsStart d m → Leads m holds → Along (Fact d) m holds

-- ---- sites

-- a site holds the serial result of the first updates of the log, as many as it applied; and the numbers of the site do not pass one
-- another
pub record HoldsItsPrefix (p : PrimaryState) (s : ℕ) (e : Sending) (c : CellState) : Type 0 where
  pub prefix : HasApplied c.site p.log c.site.applied
  pub reported : (progress_at p s).reported ≤ e.known
  pub known : e.known ≤ c.end.told
  pub told : c.end.told ≤ c.site.applied
  pub applied : c.site.applied ≤ (progress_at p s).sent
  pub sent : (progress_at p s).sent ≤ length p.log.sets

-- each site does
pub record HoldPrefixes (m : Moment) : Type 0 where
  pub ends : length m.book.ends ≡ length m.book.primary.sites
  pub cells : length m.cells ≡ length m.book.primary.sites
  pub each : (s : ℕ) (e : Sending) (c : CellState) → slice_get m.book.ends s ≡ Some e → slice_get m.cells s ≡ Some c
      → HoldsItsPrefix m.book.primary s e c

abbrev pub SitesHoldPrefixes : Type 0
SitesHoldPrefixes = Always (λ d m. HoldPrefixes m)

-- the acknowledged updates that a site has not applied weigh at most each of its limits that are in force now
abbrev pub SitesKeepLimits : Type 0
SitesKeepLimits = Always (λ d m. (s : ℕ) (c : CellState) → slice_get m.cells s ≡ Some c
    → is_lag_within m.book.primary s c.site.applied ≡ true)

-- the rounds of each site are the fewest of any schedule that keeps its limits, as its windows show
abbrev pub SitesHaveFewestRounds : Type 0
SitesHaveFewestRounds = Always (λ d m. HasFewestRounds m.book.primary)

-- ---- queries

-- a query as one of a world's: with what its reads were, without how many updates the site had applied at each
abbrev pub opened_of : Asked → Opened
opened_of k = record { site = k.site; place = k.query.place; limit = k.query.limit; reads = map (λ r. r.made) k.reads }

-- A read by a reference has the value after the updates that its site had applied, and imports the weight on the object of those between
-- these and the reference. The value at the reference is no further off.
pub record IsRead (log : History) (place : ℕ) (r : ReadAt) : Type 0 where
  pub applied : r.applied ≤ length log.sets
  pub value : r.made.value ≡ value_at (serial log r.applied) r.made.object
  pub import : r.made.import ≡ import_of log r.made.object r.applied place
  pub near : distance r.made.value (value_at (serial log place) r.made.object) ≤ r.made.import

-- each of these reads is
abbrev pub AreReads : History → ℕ → List ReadAt → Type 0
AreReads log place [] = Unit {0}
AreReads log place (r ∷ reads) = IsRead log place r × AreReads log place reads

-- A query has its reference among the acknowledged updates, with the marks of that log. Its reads are of that log too, add up to its
-- total, and keep its import limit.
pub record KeepsAsked (p : PrimaryState) (k : Asked) : Type 0 where
  pub place : k.query.place ≤ p.acked
  pub count : length k.query.marks ≡ length p.log.start
  pub marks : AreMarks p.log k.query.place k.query.marks
  pub reads : AreReads p.log k.query.place k.reads
  pub total : k.query.total ≡ import_total (opened_of k).reads
  pub import : KeepsImport (serial p.log k.query.place) (opened_of k)

-- each query does, and what its site applied is of that log
pub record KeepsQuery (m : Moment) (k : Asked) : Type 0 where
  pub asked : KeepsAsked m.book.primary k
  pub site : (c : CellState) → slice_get m.cells k.site ≡ Some c → HasApplied c.site m.book.primary.log c.site.applied

abbrev pub QueriesKeepTheirLimits : Type 0
QueriesKeepTheirLimits = Always (λ d m. (q : ℕ) (k : Asked) → m.queries q ≡ Some k → KeepsQuery m k)

-- ---- sessions

-- how many updates there are in the states that a session has seen, and up to those that it heard to be acknowledged, at most
abbrev pub furthest : List Heard → ℕ
furthest [] = 0
furthest (Numbered number set ∷ before) = furthest before
furthest (Acknowledged number ∷ before) = max (furthest before) number
furthest (Viewed s x value applied ∷ before) = max (furthest before) applied

-- the number of its last proposal
abbrev pub last_number : List Heard → ℕ
last_number [] = 0
last_number (Numbered number set ∷ before) = number
last_number (_ ∷ before) = last_number before

-- An answer after those before it, by what the primary holds now. The set has its number, which is above those before. What was
-- acknowledged is so. What was seen is a state with all that was acknowledged to the session or seen by it before.
abbrev pub StaysTrue : PrimaryState → List Heard → Heard → Type 0
StaysTrue p before (Numbered number set) = (last_number before < number) × (number ≤ length p.log.sets) × (set_at p.log number ≡ set)
StaysTrue p before (Acknowledged number) = number ≤ p.acked
StaysTrue p before (Viewed s x value applied) =
    (furthest before ≤ applied) × (applied ≤ length p.log.sets) × (value ≡ value_at (serial p.log applied) x)

-- each of these answers does
abbrev pub StayTrue : PrimaryState → List Heard → Type 0
StayTrue p [] = Unit {0}
StayTrue p (answer ∷ before) = StaysTrue p before answer × StayTrue p before

-- what a session was answered stays true, and it counts what it has seen
pub record KeepsSession (p : PrimaryState) (c : Caller) : Type 0 where
  pub seen : c.seen ≡ furthest c.heard
  pub heard : StayTrue p c.heard

abbrev pub SessionsReadTheirWrites : Type 0
SessionsReadTheirWrites = Always (λ d m. (a : ℕ) → KeepsSession m.book.primary (m.sessions a))

-- a set of the session was answered this number
abbrev pub HasNumber : ℕ → List Heard → Type 0
HasNumber k [] = ⊥
HasNumber k (Numbered number set ∷ before) = (number ≡ k) ⊎ HasNumber k before
HasNumber k (_ ∷ before) = HasNumber k before

-- the number that an answer tells: of its set, of an acknowledged update, or of the last update in a state
abbrev pub number_told : Heard → ℕ
number_told (Numbered number set) = number
number_told (Acknowledged number) = number
number_told (Viewed s x value applied) = applied

-- A number that a session has at a later moment n it had at m; or it is greater than all that any session had been told at m.
abbrev pub ComesLater : Moment → Moment → Type 0
ComesLater m n = (a b k : ℕ) → HasNumber k (n.sessions b).heard
    → HasNumber k (m.sessions b).heard ⊎ All (λ answer. number_told answer < k) (m.sessions a).heard

-- No number was answered to two sessions. A set that is numbered after any session was told a number has a greater one.
pub record ProposalsHaveOneOrder : Type 0 where
  pub one : Always (λ d m. (a b k : ℕ) → HasNumber k (m.sessions a).heard → HasNumber k (m.sessions b).heard → a ≡ b)
  pub later : (d : Declared) (m n : Moment) (before later : List (Hold × Moment)) → IsStart d m → Leads m before
      → n ≡ last_moment m before → Leads n later → Along (ComesLater n) n later

-- updates are only added to the log, and what is acknowledged stays so
pub record GrowsFrom (m n : Moment) : Type 0 where
  pub more : List (List Change)
  pub log : n.book.primary.log ≡ with_more m.book.primary.log more
  pub acked : m.book.primary.acked ≤ n.book.primary.acked

-- from each moment on
abbrev pub LogsGrow : Type 0
LogsGrow =
    (d : Declared) (m n : Moment) (before later : List (Hold × Moment)) → IsStart d m → Leads m before → n ≡ last_moment m before
    → Leads n later → Along (GrowsFrom n) n later

-- ---- runs

-- a site of a world is that of a moment: what is known of it is the same, but that no more was sent to it than it applied; and it
-- applied as many updates and holds the same values
pub record IsSameSite (m : Moment) (w : WorldState) (s : ℕ) (c : CellState) : Type 0 where
  pub known : progress_at w.primary s ≡ record (progress_at m.book.primary s) { sent = c.site.applied }
  pub applied : (site_at w.sites s).applied ≡ c.site.applied
  pub values : (site_at w.sites s).values ≡ c.site.values

-- Events of which none is refused lead a world to the moment: to its declarations and its log, what is acknowledged and decided, the
-- limits, and of each site the reports, rounds, windows and values. What is under way to a site is not sent yet.
pub record IsRun (d : Declared) (m : Moment) : Type 0 where
  pub events : List (Event Global)
  pub answers : List (Answer Global)
  pub world : WorldState
  pub answered : AreAnswers d [] events answers
  pub accepted : All (λ a. is_refused a ≡ false) answers
  pub stands : StandsFor d world (past_after [] events answers)
  pub sound : IsSound world
  pub primary : world.primary ≡ record m.book.primary { sites = world.primary.sites }
  pub count : length world.sites ≡ length m.cells
  pub sites : (s : ℕ) (c : CellState) → slice_get m.cells s ≡ Some c → IsSameSite m world s c

abbrev pub HoldsAreRuns : Type 0
HoldsAreRuns = Always (λ d m. IsRun d m)
