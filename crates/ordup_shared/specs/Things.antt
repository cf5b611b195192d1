-- What the calls on a handle leave and answer, whatever they are.
use Rattle.std.specs.Prelude.{◌≡◌, ℕ, Bool, true, false, Option, Some, None, MatchOption, MatchResult, Result, Ok, Err}
use Rattle.ordup_primary.specs.Declarations.{Declared}
use Rattle.ordup_shared.specs.declared.open_book.OpenBook.{OpenBook}
use Rattle.ordup_shared.specs.declared.open_site.OpenSite.{OpenSite}
use Rattle.ordup_shared.specs.declared.open_query.OpenQuery.{OpenQuery}
use Rattle.ordup_shared.specs.declared.thing.Thing.{Thing}
use Rattle.ordup_shared.specs.declared.thing.Kind.{Kind}
use Rattle.ordup_shared.specs.declared.thing.Kind.TheVariants.{OfSetup, OfBook, OfSite, OfQuery}
use Rattle.ordup_shared.specs.declared.status.TheConstants.{DONE, CLOSED, OPEN, OTHER}

-- P where a test holds, and else Q
abbrev pub MatchBool : Bool → Type 0 → Type 0 → Type 0
MatchBool true P Q = P
MatchBool false P Q = Q

-- the declarations that a handle is of, if it is of such
abbrev pub setup_of : Kind → Option Declared
setup_of (OfSetup d) = Some d
setup_of (OfBook b) = None
setup_of (OfSite s) = None
setup_of (OfQuery q) = None

-- the book
abbrev pub book_of : Kind → Option OpenBook
book_of (OfSetup d) = None
book_of (OfBook b) = Some b
book_of (OfSite s) = None
book_of (OfQuery q) = None

-- the site
abbrev pub site_of : Kind → Option OpenSite
site_of (OfSetup d) = None
site_of (OfBook b) = None
site_of (OfSite s) = Some s
site_of (OfQuery q) = None

-- the query
abbrev pub query_of : Kind → Option OpenQuery
query_of (OfSetup d) = None
query_of (OfBook b) = None
query_of (OfSite s) = None
query_of (OfQuery q) = Some q

-- what is wanted, or the status that says that the handle is of another kind
abbrev pub or_other : {X : Type 0} → Option X → Result X ℕ
or_other None = Err OTHER
or_other (Some x) = Ok x

-- what a handle is of, where it is open and of the kind that a call wants, or the status that says that it is not
abbrev pub of_kind : {X : Type 0} → (Kind → Option X) → Option Thing → Result X ℕ
of_kind part None = Err CLOSED
of_kind part (Some thing) = or_other (part thing.kind)

-- a call that changes what a handle is of, from x to y; or the handle is not of that, and the call does nothing, as the status says
abbrev pub OnHandle : {X : Type 0} → (Kind → Option X) → Option Thing → Option Thing → ℕ → Type 0 → (X → X → Type 0) → Type 0
OnHandle part old new status Same Makes =
    MatchResult (of_kind part old) (λ x. MatchResult (of_kind part new) (λ y. Makes x y) (λ _. ⊥))
    (λ why. (status ≡ why) × (new ≡ old) × Same)

-- a call that looks at what a handle is of; or the handle is not of that, as the status says
abbrev pub AtHandle : {X : Type 0} → (Kind → Option X) → Option Thing → ℕ → Type 0 → (X → Type 0) → Type 0
AtHandle part thing status Same Tells = MatchResult (of_kind part thing) Tells (λ why. (status ≡ why) × Same)

-- the same of what a thing is, which is open
abbrev pub OnKind : {X : Type 0} → (Kind → Option X) → Kind → Kind → ℕ → Type 0 → (X → X → Type 0) → Type 0
OnKind part old new status Same Makes =
    MatchOption (part old) ((status ≡ OTHER) × (new ≡ old) × Same) (λ x. MatchOption (part new) ⊥ (λ y. Makes x y))

abbrev pub AtKind : {X : Type 0} → (Kind → Option X) → Kind → ℕ → Type 0 → (X → Type 0) → Type 0
AtKind part kind status Same Tells = MatchOption (part kind) ((status ≡ OTHER) × Same) Tells

-- A call that opens a handle: one that is open stays as it was, as the status says.
abbrev pub OpensHandle : Option Thing → Option Thing → ℕ → Type 0 → Type 0
OpensHandle None new status Opens = Opens
OpensHandle (Some thing) new status Opens = (status ≡ OPEN) × (new ≡ Some thing)

-- a handle that was closed was opened on such a thing, or it stayed closed, with such a status
abbrev pub Opened : {X : Type 0} → (Kind → Option X) → Option Thing → ℕ → Type 0 → (X → Type 0) → Type 0
Opened part None status Refused Makes = Refused
Opened part (Some thing) status Refused Makes = (status ≡ DONE) × MatchOption (part thing.kind) ⊥ Makes
