-- What is kept from hold to hold: the primary is sound, and each site told what it took.
use Rattle.std.proofs.Common.{◌≡◌, ℕ, ◌+◌, ◌<◌, ◌≤◌, Bool, true, false, not, List, [], ◌∷◌, ◌++◌, length}
use Rattle.std.proofs.Common.{refl, sym, ap, ◌∙◌, subst, arith, inl, inr, ⊎_elim, ◌⊎◌, ◌≢◌, All, append-nil, append_assoc}
use Rattle.std.specs.Prelude.{Option, Some, None, slice_get, slice_set, nat_lt, if◌then◌else◌}
use Rattle.std.specs.Option.{option_or}
use Rattle.std.proofs.lemmas.Bool.{ltb-true}
use Rattle.std.proofs.lemmas.Option.{slice_get_within}
use Rattle.std.proofs.lemmas.List.{length_push}
use Rattle.std.proofs.lemmas.List.Elements.{All-set}
use Rattle.ordup_objects.specs.declared.change.Change.{Change}
use Rattle.ordup_objects.specs.declared.refusal.Refusal.{Refusal}
use Rattle.ordup_objects.specs.declared.refusal.Refusal.TheVariants.{UnknownObject, UnknownGroup, UnknownSite}
use Rattle.ordup_objects.specs.Serial.{History, with_more}
use Rattle.ordup_log.specs.Groups.{GroupList}
use Rattle.ordup_log.specs.Spans.{IsScopeKnown}
use Rattle.ordup_log.specs.declared.scope.Scope.{Scope}
use Rattle.ordup_log.specs.declared.scope.Scope.TheVariants.{Object, Group, All as Everything, Count}
use Rattle.ordup_limits.specs.Limits.{scope_refusal}
use Rattle.ordup_limits.specs.Entries.{AreEntries, entry_of, changed, change_refusal}
use Rattle.ordup_limits.proofs.EntryLemmas.{AreEntries-changed, change-allowed}
use Rattle.ordup_primary.specs.Declarations.{Declared}
use Rattle.ordup_primary.specs.LimitChanges.{limit_change_refusal, site_change_refusal}
use Rattle.ordup_primary.specs.Primaries.{PrimaryState, IsPrimary, limits_at, site_view, relimit_refusal}
use Rattle.ordup_primary.proofs.PrimaryLemmas.{IsPrimary-proposed}
use Rattle.ordup_primary.proofs.RelimitLemmas.{IsPrimary-relimited}
use Rattle.ordup_holds.specs.Books.{BookState, KeepsBook}
use Rattle.ordup_holds.specs.Cells.{CellState, TakesNext}
use Rattle.ordup_holds.specs.Numbering.{with_numbered}
use Rattle.ordup_holds.specs.Relimiting.{with_changed_limit}
use Rattle.ordup_holds.proofs.BookLemmas.{keeps-numbered, at-set}
use Rattle.ordup_interleavings.specs.Moments.{Moment}
use Rattle.ordup_interleavings.specs.Kept.{IsKept}
use Rattle.ordup_interleavings.specs.Holds.{Hold, Number, NumberAndTurn, Turn, Hear, Relimit, Begin, Take, View, Read, MayNumber, Makes, Steps}
use Rattle.ordup_interleavings.specs.Holds.{Leads, Along, last_moment}
use Rattle.ordup_interleavings.specs.Promises.{IsStart, Always, GrowsFrom, LogsGrow}
use Rattle.ordup_interleavings.proofs.TurnLemmas.{Stays, turns, parts, there}

-- ---- books

-- what a hold leaves of a book: updates are only added to the log, and what is acknowledged stays so
pub record Grew (b c : BookState) : Type 0 where
  pub setup : c.primary.setup ≡ b.primary.setup
  pub more : List (List Change)
  pub log : c.primary.log ≡ with_more b.primary.log more
  pub acked : b.primary.acked ≤ c.primary.acked
  pub sites : length c.primary.sites ≡ length b.primary.sites
  pub primary : IsPrimary c.primary
  pub limits : All AreEntries c.primary.limits

pub no-more : (h : History) → h ≡ with_more h []
no-more h = sym (ap (λ sets. let longer : History = record { start = h.start; sets = sets } in longer) (append-nil h.sets))

grew-stays : (b c : BookState) → All AreEntries b.primary.limits → Stays b c → Grew b c
grew-stays b c limits s = record {
  setup = s.setup;
  more = [];
  log = s.log ∙ no-more b.primary.log;
  acked = s.acked;
  sites = s.sites;
  primary = s.primary;
  limits = rw s.limits limits;
}

grew-same : (b c : BookState) → IsPrimary b.primary → All AreEntries b.primary.limits → c ≡ b → Grew b c
grew-same b c is limits same = rw same (record {
  setup = refl;
  more = [];
  log = no-more b.primary.log;
  acked = omega arith;
  sites = refl;
  primary = is;
  limits = limits;
})

grew-more : (b c d : BookState) → Grew b c → Stays c d → Grew b d
grew-more b c d x s = record {
  setup = s.setup ∙ x.setup;
  more = x.more;
  log = s.log ∙ x.log;
  acked = omega (arith, x.acked, s.acked);
  sites = s.sites ∙ x.sites;
  primary = s.primary;
  limits = rw s.limits x.limits;
}

grew-numbered : (b : BookState) (set : List Change) → IsPrimary b.primary → All AreEntries b.primary.limits → MayNumber b.primary set
    → Grew b (with_numbered b set)
grew-numbered b set is limits may = record {
  setup = refl;
  more = set ∷ [];
  log = refl;
  acked = omega arith;
  sites = refl;
  primary = IsPrimary-proposed b.primary set is may.is may.known may.allowed;
  limits = limits;
}

-- ---- limits

pub or_none : (o p : Option Refusal) → option_or o p ≡ None → (o ≡ None) × (p ≡ None)
or_none None p e = (refl, e)
or_none (Some r) p e = absurd cc

-- what a test decides, where one of its ends is no refusal
pub test-passed : (b : Bool) (r : Refusal) (o : Option Refusal) → (if b then o else Some r) ≡ None → (b ≡ true) × (o ≡ None)
test-passed true r o e = (refl, e)
test-passed false r o e = absurd cc

test-failed : (b : Bool) (r : Refusal) (o : Option Refusal) → (if not b then Some r else o) ≡ None → (b ≡ true) × (o ≡ None)
test-failed true r o e = (refl, e)
test-failed false r o e = absurd cc

scope-known : (n : ℕ) (groups : GroupList) (scope : Scope) → scope_refusal n groups scope ≡ None → IsScopeKnown n groups scope
scope-known n groups (Object x) e = ltb-true x n (test-passed (nat_lt x n) UnknownObject None e).0
scope-known n groups (Group g) e = ltb-true g (length groups) (test-passed (nat_lt g (length groups)) UnknownGroup None e).0
scope-known n groups Everything e = tt
scope-known n groups Count e = tt

-- what a change of a limit that is not refused is: the scope and the site are there, and the primary allows it
pub record MayRelimit (p : PrimaryState) (s : ℕ) (scope : Scope) (amount : ℕ) : Type 0 where
  pub unrefused : scope_refusal (length p.setup.objects) p.setup.groups scope ≡ None
  pub known : IsScopeKnown (length p.setup.objects) p.setup.groups scope
  pub site : s < length p.setup.sites
  pub allowed : relimit_refusal p s scope amount ≡ None

pub may-relimit : (p : PrimaryState) (s : ℕ) (scope : Scope) (amount : ℕ) → limit_change_refusal (site_view p s) scope amount ≡ None
    → MayRelimit p s scope amount
may-relimit p s scope amount e =
    let both = or_none (scope_refusal (length p.setup.objects) p.setup.groups scope) _ e in
    let rest = test-failed (nat_lt s (length p.setup.sites)) UnknownSite (site_change_refusal (site_view p s) scope amount) both.1 in
    record {
      unrefused = both.0;
      known = scope-known (length p.setup.objects) p.setup.groups scope both.0;
      site = ltb-true s (length p.setup.sites) rest.0;
      allowed = rest.1;
    }

grew-relimited : (b : BookState) (s : ℕ) (scope : Scope) (amount : ℕ) → IsPrimary b.primary → All AreEntries b.primary.limits
    → limit_change_refusal (site_view b.primary s) scope amount ≡ None → Grew b (with_changed_limit b s scope amount)
grew-relimited b s scope amount is limits e =
    let p = b.primary in
    let may = may-relimit p s scope amount e in
    let lt : s < length p.sites = omega (arith, may.site, is.count) in
    let there : s < length p.limits = omega (arith, lt, is.tables) in
    let entry = entry_of scope amount (p.acked + 1) in
    let change = or_none (change_refusal (length p.setup.objects) p.setup.groups (limits_at p s) entry) _ may.allowed in
    let fine = change-allowed (length p.setup.objects) p.setup.groups (limits_at p s) entry change.0 in
    record {
      setup = refl;
      more = [];
      log = no-more p.log;
      acked = omega arith;
      sites = refl;
      primary = IsPrimary-relimited p s scope amount is lt (limits s [] there) may.known may.allowed;
      limits =
          All-set AreEntries p.limits s (changed (limits_at p s) entry)
          (AreEntries-changed (limits_at p s) entry (limits s [] there) (is.begun s [] there) (omega arith) fine.0 fine.1) limits;
    }

-- ---- moments

pub record IsSound (d : Declared) (m : Moment) : Type 0 where
  pub setup : m.book.primary.setup ≡ d
  pub primary : IsPrimary m.book.primary
  pub limits : All AreEntries m.book.primary.limits
  pub told : (s : ℕ) (c : CellState) → slice_get m.cells s ≡ Some c → c.end.told ≡ length c.end.taken
  pub kept : IsKept m

book-same : (old new same : Moment) → IsPrimary old.book.primary → All AreEntries old.book.primary.limits → same.book ≡ old.book
    → new ≡ same → Grew old.book new.book
book-same old new same is limits book is_same =
    grew-same old.book new.book is limits (ap (λ (m : Moment). m.book) is_same ∙ book)

grew : (old : Moment) (h : Hold) (new : Moment) → IsPrimary old.book.primary → All AreEntries old.book.primary.limits
    → KeepsBook old.book.primary old.book.ends → Makes old h new → Grew old.book new.book
grew old (Number a set) new is limits kept makes =
    subst (Grew old.book) (sym (ap (λ (m : Moment). m.book) makes.1)) (grew-numbered old.book set is limits makes.0)
grew old (NumberAndTurn a set) new is limits kept makes =
    let b = with_numbered old.book set in
    let first = grew-numbered old.book set is limits makes.0 in
    let keeps = keeps-numbered old.book.primary old.book.ends set is kept in
    grew-more old.book b new.book first (turns b new.book first.primary keeps (parts b new.book makes.1 makes.2))
grew old Turn new is limits kept makes =
    grew-stays old.book new.book limits (turns old.book new.book is kept (parts old.book new.book makes.0 makes.1))
grew old (Hear a n) new is limits kept makes = book-same old new _ is limits refl makes.1
grew old (Relimit s scope amount) new is limits kept makes =
    subst (Grew old.book) (sym (ap (λ (m : Moment). m.book) makes.1)) (grew-relimited old.book s scope amount is limits makes.0)
grew old (Begin q s limit) new is limits kept makes = book-same old new _ is limits refl makes.2
grew old (Take s) new is limits kept makes = book-same old new _ is limits refl makes.5
grew old (View a s x) new is limits kept makes = book-same old new _ is limits refl makes.4
grew old (Read q x) new is limits kept makes = book-same old new _ is limits refl makes.7

-- ---- cells

-- a hold leaves the cells as they were, or one of them takes the next parcel
pub record Took (old new : Moment) : Type 0 where
  pub site : ℕ
  pub before : CellState
  pub after : CellState
  pub number : ℕ
  pub there : slice_get old.cells site ≡ Some before
  pub takes : TakesNext before after number
  pub cells : new.cells ≡ slice_set old.cells site after

cells-same : (old new same : Moment) → same.cells ≡ old.cells → new ≡ same → (new.cells ≡ old.cells) ⊎ Took old new
cells-same old new same cells is = inl (ap (λ (m : Moment). m.cells) is ∙ cells)

pub took : (old : Moment) (h : Hold) (new : Moment) → Makes old h new → (new.cells ≡ old.cells) ⊎ Took old new
took old (Number a set) new makes = cells-same old new _ refl makes.1
took old (NumberAndTurn a set) new makes = cells-same old new _ refl makes.3
took old Turn new makes = cells-same old new _ refl makes.2
took old (Hear a n) new makes = cells-same old new _ refl makes.1
took old (Relimit s scope amount) new makes = cells-same old new _ refl makes.1
took old (Begin q s limit) new makes = cells-same old new _ refl makes.2
took old (Take s) new makes = inr (record {
  site = s;
  before = makes.0;
  after = makes.1;
  number = makes.2;
  there = makes.3;
  takes = makes.4;
  cells = ap (λ (m : Moment). m.cells) makes.5;
})
took old (View a s x) new makes = cells-same old new _ refl makes.4
took old (Read q x) new makes = cells-same old new _ refl makes.7

-- one parcel more was taken, and told
pub took-one : (c d : CellState) (n : ℕ) → TakesNext c d n
    → (length d.end.taken ≡ length c.end.taken + 1) × (d.end.told ≡ length c.end.taken + 1)
took-one c d n takes = (
  ap (λ e. length e.taken) takes.3 ∙ length_push c.end.taken takes.0,
  ap (λ e. e.told) takes.3,
)

told-still : (old new : Moment) → ((s : ℕ) (c : CellState) → slice_get old.cells s ≡ Some c → c.end.told ≡ length c.end.taken)
    → (new.cells ≡ old.cells) ⊎ Took old new
    → (s : ℕ) (c : CellState) → slice_get new.cells s ≡ Some c → c.end.told ≡ length c.end.taken
told-still old new told either s c at = elim either [
  | inl same ↦ told s c (rw same at at)
  | inr took ↦
      ⊎_elim
      (λ (here : (s ≡ took.site) × (took.after ≡ c)).
      let one = took-one took.before took.after took.number took.takes in
      rw (← here.1) (one.1 ∙ sym one.0))
      (λ (other : (s ≢ took.site) × (slice_get old.cells s ≡ Some c)). told s c other.1)
      (at-set old.cells took.site s took.after c (rw took.cells at at))
]

-- ---- lists of holds

pub sound-step : (d : Declared) (old : Moment) (h : Hold) (new : Moment) → IsSound d old → Steps old h new
    → IsSound d new × Grew old.book new.book
sound-step d old h new is step =
    let g = grew old h new is.primary is.limits is.kept.book step.makes in (
      record {
        setup = g.setup ∙ is.setup;
        primary = g.primary;
        limits = g.limits;
        told = told-still old new is.told (took old h new step.makes);
        kept = step.kept;
      },
      g,
    )

pub sound-start : (d : Declared) (m : Moment) → IsStart d m → IsSound d m
sound-start d m start = record {
  setup = ap (λ (p : PrimaryState). p.setup) start.opened.primary;
  primary = start.primary;
  limits = rw start.opened.primary start.limits;
  told = λ s c at.
      let kept = start.kept in
      let e = there m.book.ends s (omega (arith, kept.count, slice_get_within m.cells s c at)) in
      let made = start.opened.feeds.each s e.0 e.1 in
      let same : made.0 ≡ c = cc (made.1, at) in
      rw (← same, made.2.taker) refl;
  kept = start.kept;
}

module _ (Kept : Declared → Moment → Type 0) (Fact : Declared → Moment → Type 0)
    (next : (d : Declared) (old : Moment) (h : Hold) (new : Moment) → IsSound d old → IsSound d new → Grew old.book new.book
    → Steps old h new → Kept d old → Kept d new)
    (gives : (d : Declared) (m : Moment) → IsSound d m → Kept d m → Fact d m) where
  pub along-from : (d : Declared) (m : Moment) (holds : List (Hold × Moment)) → IsSound d m → Kept d m → Leads m holds
      → Along (Fact d) m holds
  along-from d m [] is kept leads = gives d m is kept
  along-from d m (x ∷ later) is kept leads =
      let step = sound-step d m x.0 x.1 is leads.0 in
      (gives d m is kept, along-from d x.1 later step.0 (next d m x.0 x.1 is step.0 step.1 leads.0 kept) leads.1)

  -- what is kept from hold to hold of sound moments holds of each moment
  pub along : ((d : Declared) (m : Moment) → IsStart d m → IsSound d m → Kept d m) → Always Fact
  along first d m holds start leads =
      let sound = sound-start d m start in
      along-from d m holds sound (first d m start sound) leads

-- where nothing else is kept
pub always : (Fact : Declared → Moment → Type 0) → ((d : Declared) (m : Moment) → IsSound d m → Fact d m) → Always Fact
always Fact gives =
    along (λ d m. Unit {0}) Fact (λ d old h new is after grown step kept. tt) (λ d m is kept. gives d m is) (λ d m start is. tt)

-- ---- logs

pub last-sound : (d : Declared) (m : Moment) (holds : List (Hold × Moment)) → IsSound d m → Leads m holds → IsSound d (last_moment m holds)
last-sound d m [] is leads = is
last-sound d m (x ∷ later) is leads = last-sound d x.1 later (sound-step d m x.0 x.1 is leads.0).0 leads.1

grows-more : (m n o : Moment) → GrowsFrom m n → Grew n.book o.book → GrowsFrom m o
grows-more m n o grows grew = record {
  more = grows.more ++ grew.more;
  log =
      grew.log ∙ ap (λ (h : History). let longer : History = with_more h grew.more in longer) grows.log
      ∙ ap (λ sets. let h : History = record { start = m.book.primary.log.start; sets = sets } in h)
      (append_assoc m.book.primary.log.sets grows.more grew.more);
  acked = omega (arith, grows.acked, grew.acked);
}

grows-along : (d : Declared) (m n : Moment) (later : List (Hold × Moment)) → IsSound d n → Leads n later → GrowsFrom m n
    → Along (GrowsFrom m) n later
grows-along d m n [] is leads grows = grows
grows-along d m n (x ∷ later) is leads grows =
    let step = sound-step d n x.0 x.1 is leads.0 in
    (grows, grows-along d m x.1 later step.0 leads.1 (grows-more m n x.1 grows step.1))

pub logs-grow : LogsGrow
logs-grow d m n before later start first same leads =
    let is : IsSound d n = rw same (last-sound d m before (sound-start d m start) first) in
    grows-along d n n later is leads (record { more = []; log = no-more n.book.primary.log; acked = omega arith })
