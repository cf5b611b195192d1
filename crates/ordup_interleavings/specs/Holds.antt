-- Holds: what each call under a lock makes of a moment, and lists of them.
use Rattle.std.specs.Prelude.{◌≡◌, ℕ, ◌+◌, ◌<◌, ◌≤◌, max, pos, Some, None, Result, List, [], ◌∷◌, length, slice_get, slice_set}
use Rattle.ordup_objects.specs.declared.change.Change.{Change}
use Rattle.ordup_objects.specs.declared.refusal.Refusal.{Refusal}
use Rattle.ordup_objects.specs.States.{value_at}
use Rattle.ordup_objects.specs.Sets.{IsSet, AreKnown}
use Rattle.ordup_objects.specs.Serial.{serial}
use Rattle.ordup_objects.specs.Marks.{AreMarks}
use Rattle.ordup_log.specs.Appending.{append_refusal}
use Rattle.ordup_log.specs.declared.scope.Scope.{Scope}
use Rattle.ordup_primary.specs.LimitChanges.{limit_change_refusal}
use Rattle.ordup_primary.specs.Primaries.{PrimaryState, site_view}
use Rattle.ordup_query.specs.Queries.{QueryState, begin_refusal}
use Rattle.ordup_query.specs.declared.answer.ReadAnswer.{ReadAnswer}
use Rattle.ordup_world.specs.Worlds.{OpenState}
use Rattle.ordup_world.specs.OpenQueries.{IsAnswered, with_answer}
use Rattle.ordup_feed.specs.Parcels.{history_of}
use Rattle.ordup_holds.specs.Books.{BookState}
use Rattle.ordup_holds.specs.Cells.{CellState, TakesNext}
use Rattle.ordup_holds.specs.Numbering.{with_numbered, IsTurn}
use Rattle.ordup_holds.specs.Relimiting.{with_changed_limit}
use Rattle.ordup_interleavings.specs.Moments.{Asked, Heard, Numbered, Acknowledged, Viewed, Moment, but_at}
use Rattle.ordup_interleavings.specs.Kept.{IsKept}

-- one hold of a lock: who calls, and what for
pub data Hold : Type 0 where
  -- `number`, for a session
  Number : (session : ℕ) (set : List Change) → Hold
  -- `number_and_turn`, for a session
  NumberAndTurn : (session : ℕ) (set : List Change) → Hold
  -- `turn`
  Turn : Hold
  -- a session hears that the update with this number is acknowledged
  Hear : (session number : ℕ) → Hold
  -- `relimit`
  Relimit : (site : ℕ) (scope : Scope) (amount : ℕ) → Hold
  -- `begin`, for a query at a site
  Begin : (query site limit : ℕ) → Hold
  -- `take`
  Take : (site : ℕ) → Hold
  -- `view`, for a session
  View : (session site object : ℕ) → Hold
  -- a query's read
  Read : (query object : ℕ) → Hold

-- a log takes the set
pub record MayNumber (p : PrimaryState) (set : List Change) : Type 0 where
  pub is : IsSet set
  pub known : AreKnown (length p.log.start) set
  pub allowed : append_refusal p.log set ≡ None

-- a session with one answer more, after which it has seen this many updates
abbrev pub with_heard : Moment → ℕ → ℕ → Heard → Moment
with_heard m a seen answer = record m {
  sessions = but_at m.sessions a (record { seen = seen; heard = answer ∷ (m.sessions a).heard });
}

-- a session that proposed a set: it has the next number
abbrev pub with_number : Moment → ℕ → List Change → Moment
with_number m a set = with_heard m a (m.sessions a).seen (Numbered (length m.book.primary.log.sets + 1) set)

-- a moment with another book
abbrev pub with_book : Moment → BookState → Moment
with_book m b = record m { book = b }

-- a query that begins at the acknowledged updates of a primary
pub record Begins (p : PrimaryState) (limit : ℕ) (k : QueryState) : Type 0 where
  pub query : k ≡ record { place = p.acked; marks = k.marks; limit = limit; sum = pos 0; total = 0; reads = 0 }
  pub count : length k.marks ≡ length p.log.start
  pub marks : AreMarks p.log p.acked k.marks
  pub allowed : begin_refusal limit ≡ None

-- the query and its site, as an open query of a world
abbrev pub open_of : Asked → OpenState
open_of k = record { site = k.site; query = k.query }

-- a query with one read more
abbrev pub with_read : Asked → ℕ → ℕ → ReadAnswer → Asked
with_read k applied x a = record {
  site = k.site;
  query = (with_answer (open_of k) a).query;
  reads = record { made = record { object = x; value = a.value; import = a.import }; applied = applied } ∷ k.reads;
}

-- What a hold makes of a moment.
abbrev pub Makes : Moment → Hold → Moment → Type 0
Makes old (Number a set) new = MayNumber old.book.primary set × (new ≡ with_book (with_number old a set) (with_numbered old.book set))
Makes old (NumberAndTurn a set) new =
    MayNumber old.book.primary set × (answer : Result ℕ Refusal) × IsTurn (with_numbered old.book set) new.book answer
    × (new ≡ with_book (with_number old a set) new.book)
Makes old Turn new = (answer : Result ℕ Refusal) × IsTurn old.book new.book answer × (new ≡ with_book old new.book)
Makes old (Hear a number) new =
    (number ≤ old.book.primary.acked) × (new ≡ with_heard old a (max (old.sessions a).seen number) (Acknowledged number))
Makes old (Relimit s scope amount) new =
    (limit_change_refusal (site_view old.book.primary s) scope amount ≡ None)
    × (new ≡ with_book old (with_changed_limit old.book s scope amount))
Makes old (Begin q s limit) new =
    (k : QueryState) × Begins old.book.primary limit k
    × (new ≡ record old { queries = but_at old.queries q (Some (record { site = s; query = k; reads = [] })) })
Makes old (Take s) new =
    (c d : CellState) × (number : ℕ) × (slice_get old.cells s ≡ Some c) × TakesNext c d number
    × (new ≡ record old { cells = slice_set old.cells s d })
Makes old (View a s x) new =
    (c : CellState) × (slice_get old.cells s ≡ Some c) × (x < length c.end.start) × ((old.sessions a).seen ≤ length c.end.taken)
    × (new ≡ with_heard old a (length c.end.taken)
    (Viewed s x (value_at (serial (history_of c.end.start c.end.taken) (length c.end.taken)) x) (length c.end.taken)))
Makes old (Read q x) new =
    (k : Asked) × (c : CellState) × (a : ReadAnswer) × (old.queries q ≡ Some k) × (slice_get old.cells k.site ≡ Some c)
    × (x < length k.query.marks) × IsAnswered (open_of k) c.site x a
    × (new ≡ record old { queries = but_at old.queries q (Some (with_read k c.site.applied x a)) })

-- one step: what the hold makes, of which the types keep their facts
pub record Steps (old : Moment) (h : Hold) (new : Moment) : Type 0 where
  pub makes : Makes old h new
  pub kept : IsKept new

-- a list of holds, each with the moment after it: each is a step from the moment before
abbrev pub Leads : Moment → List (Hold × Moment) → Type 0
Leads old [] = Unit {0}
Leads old (x ∷ later) = Steps old x.0 x.1 × Leads x.1 later

-- it holds at first, and after each of these holds
abbrev pub Along : (Moment → Type 0) → Moment → List (Hold × Moment) → Type 0
Along Fact old [] = Fact old
Along Fact old (x ∷ later) = Fact old × Along Fact x.1 later

-- the last of these moments
abbrev pub last_moment : Moment → List (Hold × Moment) → Moment
last_moment old [] = old
last_moment old (x ∷ later) = last_moment x.1 later
