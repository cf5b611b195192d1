-- Short stories worked out by hand, and wrong steps: each breaks what the definitions say of it.
use Rattle.std.proofs.Common.{◌≡◌, ℕ, ◌<◌, ◌≤◌, List, [], ◌∷◌, length, pos, refl, ap, arith, sym, ◌∙◌, inl, inr}
use Rattle.std.specs.Prelude.{All, Some, None, codes, slice_get, slice_index_or}
use Rattle.ordup_objects.specs.declared.change.Change.{Change}
use Rattle.ordup_objects.specs.declared.change.Op.TheVariants.{Add}
use Rattle.ordup_objects.specs.declared.refusal.Refusal.TheVariants.{HeadPending}
use Rattle.ordup_objects.specs.States.{value_at, after}
use Rattle.ordup_objects.specs.Serial.{History, serial}
use Rattle.ordup_log.specs.declared.scope.Scope.TheVariants.{Object}
use Rattle.ordup_limits.specs.Entries.{entry_of}
use Rattle.ordup_primary.specs.Primaries.{PrimaryState, IsPrimary, progress_at}
use Rattle.ordup_query.specs.Queries.{QueryState}
use Rattle.ordup_query.specs.declared.answer.ReadAnswer.{ReadAnswer}
use Rattle.ordup_world.specs.OpenQueries.{IsAnswered}
use Rattle.ordup_world.specs.Worlds.{OpenState}
use Rattle.ordup_feed.specs.Parcels.{PlainParcel, history_of}
use Rattle.ordup_feed.specs.Ends.{Sending, Taking}
use Rattle.ordup_holds.specs.Numbering.{with_numbered}
use Rattle.ordup_holds.proofs.BookLemmas.{keeps-numbered}
use Rattle.ordup_holds.specs.Cells.{CellState, HoldsTaken, TakesNext}
use Rattle.ordup_holds.specs.Turning.{KeptSite, Sent, Settles}
use Rattle.ordup_site.specs.Sites.{SiteState}
use Rattle.ordup_interleavings.specs.Moments.{Heard, Numbered, Acknowledged, Viewed, Moment, but_at}
use Rattle.ordup_interleavings.specs.Kept.{IsFeed, IsKept}
use Rattle.ordup_interleavings.specs.Holds.{Number, Hear, Relimit, View, MayNumber, Makes, Begins, Steps, with_book, with_number, with_heard}
use Rattle.ordup_interleavings.specs.Promises.{furthest, StayTrue, HoldsItsPrefix, GrowsFrom, HasNumber, ComesLater, number_told}

-- ---- a store of one site, worked out by hand

-- 3 more of x, or 1 fewer
abbrev up : List Change
up = record { object = 0; op = Add (pos 3) } ∷ []

abbrev more : List Change
more = record { object = 0; op = Add (pos 1) } ∷ []

-- The object x begins at 0, and the site a has a limit of 2 on it. Of two updates, which add 3 and 1, so many are acknowledged and
-- decided. The first forced the site, which has reported so many.
abbrev primary : ℕ → ℕ → ℕ → PrimaryState
primary acked decided reported = record {
  setup = record {
    objects = (codes "x", pos 0) ∷ [];
    groups = [];
    sites = (codes "a", 4) ∷ [];
    limits = (entry_of (Object 0) 2 1 ∷ []) ∷ [];
  };
  log = record { start = pos 0 ∷ []; sets = up ∷ more ∷ [] };
  acked = acked;
  decided = decided;
  sites = record { sent = 1; reported = reported; reports = 0 ∷ []; rounds = 1 ∷ []; windows = record { from = 0; to = 1 } ∷ [] } ∷ [];
  limits = (entry_of (Object 0) 2 1 ∷ []) ∷ [];
}

-- a session proposed the first set, heard that it is acknowledged, and read at the site: 3 after one update, 4 after two
abbrev story : List Heard
story = Viewed 0 0 (pos 4) 2 ∷ Viewed 0 0 (pos 3) 1 ∷ Acknowledged 1 ∷ Numbered 1 up ∷ []

true-story : StayTrue (primary 1 1 1) story
true-story =
    ((omega arith, omega arith, refl), ((omega arith, omega arith, refl), (omega arith, ((omega arith, omega arith, refl), tt))))

-- how far it has seen
seen-by : (furthest story ≡ 2) × (furthest (Acknowledged 5 ∷ story) ≡ 5) × (furthest (Numbered 7 up ∷ story) ≡ 2)
seen-by = (refl, refl, refl)

-- one number alone has another value
one-other : (but_at (λ n. n) 3 9 3 ≡ 9) × (but_at (λ n. n) 3 9 4 ≡ 4)
one-other = (refl, refl)

-- ---- wrong steps of sessions

-- a session reads a state without an update that was acknowledged to it
reads-too-early : StayTrue (primary 1 1 1) (Viewed 0 0 (pos 0) 0 ∷ Acknowledged 1 ∷ []) → ⊥
reads-too-early are = let le : 1 ≤ 0 = are.0.0 in absurd (omega (arith, le))

-- a session reads an older state than before
goes-back : StayTrue (primary 1 1 1) (Viewed 0 0 (pos 0) 0 ∷ Viewed 0 0 (pos 3) 1 ∷ []) → ⊥
goes-back are = let le : 1 ≤ 0 = are.0.0 in absurd (omega (arith, le))

-- a session reads another value than that of the state
reads-another-value : StayTrue (primary 1 1 1) (Viewed 0 0 (pos 4) 1 ∷ []) → ⊥
reads-another-value are = absurd (let is : pos 4 ≡ pos 3 = are.0.2 in cc)

-- a number is given twice
numbers-twice : StayTrue (primary 1 1 1) (Numbered 1 up ∷ Numbered 1 up ∷ []) → ⊥
numbers-twice are = let lt = are.0.0 in absurd (omega (arith, lt))

-- another set has the number
numbers-another : StayTrue (primary 1 1 1) (Numbered 2 up ∷ []) → ⊥
numbers-another are =
    let is : more ≡ up = are.0.2 in
    absurd (let no : pos 1 ∷ [] ≡ pos 3 ∷ [] = ap (λ set. after set (pos 0 ∷ [])) is in cc)

-- a set that is numbered later comes before one of which a session was told
comes-before : (m n : Moment) → (m.sessions 0).heard ≡ Numbered 2 up ∷ [] → (m.sessions 1).heard ≡ [] → (n.sessions 1).heard ≡ Numbered 1 up ∷ []
    → ComesLater m n → ⊥
comes-before m n told none one later =
    let has : HasNumber 1 (n.sessions 1).heard = rw one (inl refl) in
    elim (later 0 1 1 has) [
      | inl had ↦ absurd (rw none at had)
      | inr above ↦
          (let below : All (λ answer. number_told answer < 1) (Numbered 2 up ∷ []) = rw told at above in
          let lt : 2 < 1 = below 0 (Numbered 2 up) (omega arith) in
          absurd (omega (arith, lt)))
    ]

-- a session hears of an acknowledgement before the settlement
hears-too-early : (old new : Moment) → old.book.primary.acked ≡ 0 → Makes old (Hear 0 1) new → ⊥
hears-too-early old new none makes = absurd (omega (arith, none, makes.0))

-- a session that has seen 2 updates reads at a site that took 1, as one that has seen none may
reads-for-another : (old new : Moment) (s x : ℕ) → (old.sessions 0).seen ≡ 2 → (old.sessions 1).seen ≡ 0
    → ((c : CellState) → slice_get old.cells s ≡ Some c → length c.end.taken ≡ 1) → Makes old (View 0 s x) new → ⊥
reads-for-another old new s x first second one makes =
    absurd (omega (arith, first, one makes.0 makes.1, makes.3))

-- ---- wrong steps of the book

-- the head waits for the site, and a settlement acknowledges it all the same
acknowledges-too-early : (q : PrimaryState) → Settles (primary 0 1 0) q → q.acked ≡ 1 → ⊥
acknowledges-too-early q settles is =
    let same : q.acked ≡ 0 = ap (λ (p : PrimaryState). p.acked) (settles.later (omega arith)) in
    absurd (omega (arith, same, is))

-- a limit changes while the head waits
changes-a-pending-limit : (old new : Moment) → old.book.primary ≡ primary 0 1 0 → Makes old (Relimit 0 (Object 0) 9) new → ⊥
changes-a-pending-limit old new is makes = absurd (let no : Some HeadPending ≡ None = rw is at makes.0 in cc)

-- an update takes the place of another one
changes-the-log : (m n : Moment) → m.book.primary.log.sets ≡ up ∷ [] → n.book.primary.log.sets ≡ more ∷ [] → GrowsFrom m n → ⊥
changes-the-log m n old new grows =
    let is : more ∷ [] ≡ up ∷ grows.more = sym new ∙ ap (λ (h : History). h.sets) grows.log ∙ rw old refl in
    absurd (let no : pos 1 ∷ [] ≡ pos 3 ∷ [] = ap (λ sets. after (slice_index_or sets 0 []) (pos 0 ∷ [])) is in cc)

-- more is sent to a site than it may be
sends-past-the-head : (x y : KeptSite) → x.progress.sent ≡ 0 → y.progress.sent ≡ 2 → Sent (λ s. 1) 0 x y → ⊥
sends-past-the-head x y none two sent = absurd (omega (arith, none, two, sent.bounded))

-- ---- wrong steps of feeds and sites

-- a look finds more than the site told
looks-too-far : (e : Sending) (t : Taking) → e.known ≡ 2 → t.told ≡ 1 → IsFeed e t → ⊥
looks-too-far e t known told feed = absurd (omega (arith, known, told, feed.told.1))

-- a site reports more than the book knows
reports-too-much : (p : PrimaryState) (s : ℕ) (e : Sending) (c : CellState) → (progress_at p s).reported ≡ 1 → e.known ≡ 0
    → HoldsItsPrefix p s e c → ⊥
reports-too-much p s e c reported known is = absurd (omega (arith, reported, known, is.reported))

-- the second update is sent first
sends-out-of-order : (e : Sending) (t : Taking) (p : PlainParcel) → p.number ≡ 2 → e.pushed ≡ p ∷ [] → IsFeed e t → ⊥
sends-out-of-order e t p two pushed feed =
    let order = rw pushed at feed.queue.2 in
    let first : p.number ≡ 1 = order.numbers 0 p (omega arith) in
    absurd (omega (arith, two, first))

-- an update is sent twice
sends-twice : (e : Sending) (t : Taking) (p : PlainParcel) → e.pushed ≡ p ∷ p ∷ [] → IsFeed e t → ⊥
sends-twice e t p pushed feed =
    let order = rw pushed at feed.queue.2 in
    let first : p.number ≡ 1 = order.numbers 0 p (omega arith) in
    let second : p.number ≡ 2 = order.numbers 1 p (omega arith) in
    absurd (omega (arith, first, second))

-- a site that took one parcel applied two updates
applies-twice : (c : CellState) → c.site.applied ≡ 2 → length c.end.taken ≡ 1 → HoldsTaken c → ⊥
applies-twice c two one held = absurd (omega (arith, two, one, held.applied))

-- the first parcel is skipped
skips-one : (c d : CellState) → c.end.taken ≡ [] → TakesNext c d 2 → ⊥
skips-one c d none takes =
    let next = takes.2.next in
    let first : takes.0.number ≡ 1 = next ∙ rw none refl in
    absurd (omega (arith, first, takes.1))

-- ---- wrong steps of queries

-- a query that begins after the first update has the marks of the book before it
marks-of-an-older-book : (k : QueryState) → k.marks ≡ 0 ∷ [] → Begins (primary 1 1 1) 9 k → ⊥
marks-of-an-older-book k marks begins =
    let at = rw marks at begins.marks in
    let is : 0 ≡ 3 = at 0 (omega arith) in
    absurd (omega (arith, is))

-- a read at a site that is ahead by 3 is charged nothing
reads-for-nothing : (o : OpenState) (site : SiteState) (a : ReadAnswer) → o.query.marks ≡ 0 ∷ [] → site.travelled ≡ 3 ∷ [] → a.import ≡ 0
    → IsAnswered o site 0 a → ⊥
reads-for-nothing o site a marks travelled none is =
    let charged : a.import ≡ 3 = is.import ∙ rw (marks, travelled) refl in
    absurd (omega (arith, none, charged))

-- a read passes the import limit
reads-past-the-limit : (o : OpenState) (site : SiteState) (a : ReadAnswer)
    → o.query ≡ record { place = 0; marks = 0 ∷ []; limit = 2; sum = pos 0; total = 0; reads = 0 } → site.travelled ≡ 3 ∷ []
    → IsAnswered o site 0 a → ⊥
reads-past-the-limit o site a query travelled is = absurd (let no = rw (query, travelled) at is.allowed in cc)

-- ---- steps that there are

-- a set that the log takes is numbered
numbers-next : (m : Moment) (a : ℕ) (set : List Change) → IsPrimary m.book.primary → IsKept m → MayNumber m.book.primary set
    → Steps m (Number a set) (with_book (with_number m a set) (with_numbered m.book set))
numbers-next m a set is kept may = record {
  makes = (may, refl);
  kept = record {
    book = keeps-numbered m.book.primary m.book.ends set is kept.book;
    count = kept.count;
    cells = kept.cells;
    feeds = kept.feeds;
  };
}

-- a session that has seen nothing reads at each site
views-next : (m : Moment) (a s x : ℕ) (c : CellState) → IsKept m → slice_get m.cells s ≡ Some c → x < length c.end.start
    → (m.sessions a).seen ≡ 0
    → (new : Moment) × Steps m (View a s x) new
views-next m a s x c kept at known none = (
  with_heard m a (length c.end.taken)
      (Viewed s x (value_at (serial (history_of c.end.start c.end.taken) (length c.end.taken)) x) (length c.end.taken)),
  record {
    makes = (c, at, known, omega (arith, none), refl);
    kept = record { book = kept.book; count = kept.count; cells = kept.cells; feeds = kept.feeds };
  },
)
