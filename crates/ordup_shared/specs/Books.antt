-- What the calls on a book leave and answer.
use Rattle.std.specs.Prelude.{◌≡◌, ◌↔◌, ◌⊎◌, ℕ, ◌+◌, ◌<◌, ◌≤◌, ◌==◌, List, ◌∷◌, [], ◌++◌, length, map, sum_by, nat_lt, slice_get}
use Rattle.std.specs.Prelude.{Option, Some, None, Result, Ok, Err, MatchOption, MatchResult, if◌then◌else◌}
use Rattle.ordup_objects.specs.declared.refusal.Refusal.{Refusal}
use Rattle.ordup_objects.specs.declared.change.Change.{Change}
use Rattle.ordup_objects.specs.declared.refusal.Refusal.TheVariants.{NoMemory, OutOfRange, Syntax, UnknownSite}
use Rattle.ordup_objects.specs.Serial.{History, serial}
use Rattle.ordup_objects.specs.Tables.{initial_state, names_of}
use Rattle.ordup_log.specs.Appending.{append_refusal}
use Rattle.ordup_log.specs.Spans.{span}
use Rattle.ordup_limits.specs.Entries.{latest}
use Rattle.ordup_limits.specs.declared.limit.Limit.{Limit}
use Rattle.ordup_primary.specs.Declarations.{Declared, start_refusal}
use Rattle.ordup_primary.specs.LimitChanges.{limit_change_refusal}
use Rattle.ordup_primary.specs.Primaries.{PrimaryState, limits_at, progress_at, site_view}
use Rattle.ordup_primary.specs.Successors.{limits_from_start, successor_refusal}
use Rattle.ordup_holds.specs.Agreement.{Agrees}
use Rattle.ordup_holds.specs.Books.{BookState}
use Rattle.ordup_conditions.specs.Conditions.{AreMet}
use Rattle.ordup_holds.specs.declared.proposal_error.ProposalError.{ProposalError}
use Rattle.ordup_holds.specs.declared.proposal_error.ProposalError.TheVariants.{Refused, Unmet}
use Rattle.ordup_holds.specs.Numbering.{IsNotNumbered, IsTurn, with_numbered}
use Rattle.ordup_holds.specs.Opening.{AreOpened}
use Rattle.ordup_holds.specs.Relimiting.{with_changed_limit}
use Rattle.ordup_holds.specs.Turning.{IsAtRest}
use Rattle.ordup_shapes.specs.Changes.{change_of, changes_refusal}
use Rattle.ordup_shapes.specs.Conditions.{condition_of, conditions_refusal}
use Rattle.ordup_shapes.specs.Scopes.{id_of, kind_of, scope_of}
use Rattle.ordup_shapes.specs.declared.scope.TheConstants.{OF_COUNT}
use Rattle.ordup_shapes.specs.declared.change.RawChange.{RawChange}
use Rattle.ordup_shapes.specs.declared.condition.RawCondition.{RawCondition}
use Rattle.ordup_shapes.specs.declared.told.Lag.{Lag}
use Rattle.ordup_shapes.specs.declared.told.Progress.{Progress}
use Rattle.ordup_shapes.specs.declared.told.Told.{Told}
use Rattle.ordup_shared.specs.declared.open_book.OpenBook.{OpenBook}
use Rattle.ordup_shared.specs.declared.open_site.OpenSite.{OpenSite}
use Rattle.ordup_shared.specs.declared.thing.Thing.{Thing}
use Rattle.ordup_shared.specs.Statuses.{IsRefused, status_of}
use Rattle.ordup_shared.specs.Things.{MatchBool, OnHandle, Opened, OpensHandle, of_kind, book_of, setup_of, site_of}
use Rattle.ordup_shared.specs.declared.status.TheConstants.{DONE, FOREIGN, MIXED, NO_MEMORY, OPEN, UNMET}

-- ---- a book is opened

-- a store of these declarations in which nothing has happened, whose host gave it this number
pub record IsFirstBook (d : Declared) (given : ℕ) (b : OpenBook) : Type 0 where
  pub opened : AreOpened d b.book b.cells.items
  pub cluster : b.cluster ≡ given
  pub allowed : start_refusal d ≡ None

-- the book of what is declared was opened
abbrev pub OpensBook : Option Thing → ℕ → Option Thing → Option Thing → ℕ → Type 0
OpensBook setup cluster old new status =
    OpensHandle old new status (MatchResult (of_kind setup_of setup)
    (λ d. Opened book_of new status (IsRefused (start_refusal d) status) (IsFirstBook d cluster))
    (λ why. (status ≡ why) × (new ≡ None)))

-- ---- holds of a book

-- 0 where a turn ended well, and 1 where a growth was refused
abbrev pub starved : Result ℕ Refusal → ℕ
starved (Ok acked) = 0
starved (Err e) = 1

-- what a hold leaves: the number of the update that it numbered, or 0, and how far the primary is
pub record TellsOf (p : PrimaryState) (numbered : ℕ) (turn : Result ℕ Refusal) (told : Told) : Type 0 where
  pub number : told.number ≡ numbered
  pub acked : told.acked ≡ p.acked
  pub logged : told.logged ≡ length p.log.sets
  pub sent : told.sent ≡ sum_by (λ site. site.sent) p.sites
  pub unmet : told.unmet ≡ 0
  pub is_starved : told.is_starved ≡ starved turn
  pub has_work : (told.has_work ≡ 0) ↔ IsAtRest p
  pub flag : told.has_work < 2

-- the book made such a step, and what else lies behind the handle stayed
pub record StepsBook (b c : OpenBook) (Step : BookState → BookState → Type 0) : Type 0 where
  pub step : Step b.book c.book
  pub cells : c.cells ≡ b.cells
  pub cluster : c.cluster ≡ b.cluster

-- a turn was made
abbrev pub Turns : OpenBook → OpenBook → Told → ℕ → Type 0
Turns b c told status =
    (status ≡ DONE) × (turn : Result ℕ Refusal) × StepsBook b c (λ x y. IsTurn x y turn) × TellsOf c.book.primary 0 turn told

-- a proposal is refused for this reason, if there is one, or for want of memory
abbrev pub IsRefusedFor : Option Refusal → ProposalError → Type 0
IsRefusedFor refusal e = (r : Refusal) × (e ≡ Refused r) × ((refusal ≡ Some r) ⊎ (r ≡ NoMemory))

-- why a set is not numbered under these conditions: they are refused; or they are none that the set keeps, or it is refused
abbrev pub IsNotNumberedUnder : History → List Change → List RawCondition → ProposalError → Type 0
IsNotNumberedUnder log set conditions e =
    IsRefusedFor (conditions_refusal (length log.start) conditions) e
    ⊎ ((conditions_refusal (length log.start) conditions ≡ None) × IsNotNumbered log set (map condition_of conditions) e)

-- why these changes are not numbered: they are no message set; or they are one, which is not numbered
abbrev pub IsNotProposed : History → List RawChange → List RawCondition → ProposalError → Type 0
IsNotProposed log changes conditions e =
    IsRefusedFor (changes_refusal (length log.start) changes) e
    ⊎ ((changes_refusal (length log.start) changes ≡ None) × IsNotNumberedUnder log (map change_of changes) conditions e)

-- just this set was numbered, the state after it meets the conditions, and a turn was made after it
pub record IsProposed (b c : BookState) (changes : List RawChange) (conditions : List RawCondition) (given : ℕ) (turn : Result ℕ Refusal) : Type 0 where
  pub set : changes_refusal (length b.primary.log.start) changes ≡ None
  pub bounds : conditions_refusal (length b.primary.log.start) conditions ≡ None
  pub allowed : append_refusal b.primary.log (map change_of changes) ≡ None
  pub number : given ≡ length b.primary.log.sets + 1
  pub turned : IsTurn (with_numbered b (map change_of changes)) c turn
  pub met : AreMet (serial c.primary.log given) (map condition_of conditions)

-- what is told of a proposal that was not numbered
abbrev pub TellsError : ProposalError → Told → Told → ℕ → Type 0
TellsError (Refused r) old new status = (status ≡ status_of r) × (new ≡ old)
TellsError (Unmet index) old new status = (status ≡ UNMET) × (new ≡ record old { unmet = index })

-- a set was numbered; or it was not, and nothing changed
abbrev pub Proposes : OpenBook → OpenBook → List RawChange → List RawCondition → Told → Told → ℕ → Type 0
Proposes b c changes conditions old new status =
    ((status ≡ DONE) × (turn : Result ℕ Refusal)
    × StepsBook b c (λ x y. IsProposed x y changes conditions new.number turn) × TellsOf c.book.primary new.number turn new)
    ⊎ ((e : ProposalError) × IsNotProposed b.book.primary.log changes conditions e × (c ≡ b) × TellsError e old new status)

-- why a change of a limit is refused, if it is
abbrev pub relimit_refusal : PrimaryState → ℕ → ℕ → ℕ → ℕ → Option Refusal
relimit_refusal p site kind id amount =
    if nat_lt OF_COUNT kind then Some Syntax else limit_change_refusal (site_view p site) (scope_of kind id) amount

-- a limit of a site was changed from the head on, whose place is told; or that is refused, and nothing changed
abbrev pub Relimits : OpenBook → OpenBook → ℕ → ℕ → ℕ → ℕ → ℕ → ℕ → ℕ → Type 0
Relimits b c site kind id amount old_place new_place status =
    ((status ≡ DONE) × (relimit_refusal b.book.primary site kind id amount ≡ None)
    × StepsBook b c (λ x y. y ≡ with_changed_limit x site (scope_of kind id) amount) × (new_place ≡ b.book.primary.acked + 1))
    ⊎ (IsRefused (relimit_refusal b.book.primary site kind id amount) status × (c ≡ b) × (new_place ≡ old_place))

-- ---- what the primary knows

-- what the primary knows of a site, or there is no such site
abbrev pub TellsProgress : PrimaryState → ℕ → Progress → Progress → ℕ → Type 0
TellsProgress p site old new status =
    ((site < length p.sites) × (status ≡ DONE)
    × (new ≡ record { sent = (progress_at p site).sent; reported = (progress_at p site).reported; rounds = length (progress_at p site).rounds }))
    ⊎ ((length p.sites ≤ site) × (status ≡ status_of UnknownSite) × (new ≡ old))

-- a limit as it is now, and what the acknowledged updates weigh on its scope that the site has not reported
abbrev pub lag_of : PrimaryState → ℕ → Limit → Lag
lag_of p site limit = record {
  kind = kind_of limit.scope;
  id = id_of limit.scope;
  amount = limit.amount;
  weight = span p.log p.setup.groups limit.scope (progress_at p site).reported p.acked;
}

-- the limit of a site by its index among the limits as they are now; or there is no such site, or no such limit
abbrev pub TellsLag : PrimaryState → ℕ → ℕ → Lag → Lag → ℕ → Type 0
TellsLag p site index old new status =
    MatchBool (nat_lt site (length p.sites))
    (MatchOption (slice_get (latest (limits_at p site)) index) ((status ≡ status_of OutOfRange) × (new ≡ old))
    (λ limit. (status ≡ DONE) × (new ≡ lag_of p site limit)))
    ((status ≡ status_of UnknownSite) × (new ≡ old))

-- ---- a book and its sites

-- the last cell that no handle had was taken out of the book, and is that of the site
pub record OpensLast (b c : OpenBook) (site : OpenSite) : Type 0 where
  pub book : c.book ≡ b.book
  pub cells : b.cells.items ≡ c.cells.items ++ site.cell ∷ []
  pub index : site.index ≡ length c.cells.items
  pub belongs : (site.cluster ≡ b.cluster) × (c.cluster ≡ b.cluster)

-- why no site is opened, if none is: each has a handle
abbrev pub last_site_refusal : OpenBook → Option Refusal
last_site_refusal b = if length b.cells.items == 0 then Some UnknownSite else None

-- A site was opened, and its index told. Where that is refused the book keeps its cell.
abbrev pub OpensSite : OpenBook → OpenBook → Option Thing → ℕ → ℕ → ℕ → Type 0
OpensSite b c new old_index new_index status =
    Opened site_of new status (IsRefused (last_site_refusal b) status × (c ≡ b) × (new_index ≡ old_index))
    (λ site. OpensLast b c site × (new_index ≡ site.index))

-- a site of a book was opened; a handle that is open, or a book that is none, changes nothing
abbrev pub OpensSiteOf : Option Thing → Option Thing → Option Thing → Option Thing → ℕ → ℕ → ℕ → Type 0
OpensSiteOf book book_after (Some thing) new old_index new_index status =
    (status ≡ OPEN) × (book_after ≡ book) × (new ≡ Some thing) × (new_index ≡ old_index)
OpensSiteOf book book_after None new old_index new_index status =
    OnHandle book_of book book_after status ((new ≡ None) × (new_index ≡ old_index)) (λ b c. OpensSite b c new old_index new_index status)

-- whether a site holds what the log says of it, between what it reported and what it was sent; or that is not found out
abbrev pub Compares : OpenBook → OpenSite → ℕ → Type 0
Compares b site status =
    MatchBool (site.cluster == b.cluster)
    (MatchBool (nat_lt site.index (length b.book.primary.sites))
    (((status ≡ DONE) × Agrees b.book.primary site.index site.cell.site)
    ⊎ (((status ≡ MIXED) × (Agrees b.book.primary site.index site.cell.site → ⊥)) ⊎ (status ≡ NO_MEMORY)))
    (status ≡ status_of UnknownSite))
    (status ≡ FOREIGN)

-- ---- a successor

-- declarations that begin with what a primary ended with
pub record IsSuccessor (p : PrimaryState) (d : Declared) : Type 0 where
  pub allowed : successor_refusal p ≡ None
  pub objects : names_of d.objects ≡ names_of p.setup.objects
  pub values : initial_state d.objects ≡ serial p.log (length p.log.sets)
  pub groups : d.groups ≡ p.setup.groups
  pub sites : d.sites ≡ p.setup.sites
  pub limits : d.limits ≡ limits_from_start p.limits

-- the declarations of the successor were opened
abbrev pub OpensSuccessor : Option Thing → Option Thing → Option Thing → ℕ → Type 0
OpensSuccessor book old new status =
    OpensHandle old new status (MatchResult (of_kind book_of book)
    (λ b. Opened setup_of new status (IsRefused (successor_refusal b.book.primary) status) (IsSuccessor b.book.primary))
    (λ why. (status ≡ why) × (new ≡ None)))
