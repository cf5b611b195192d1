-- What the calls on a query leave and answer.
use Rattle.std.specs.Prelude.{◌≡◌, ℕ, pos, ◌+◌, ◌+ℤ◌, ◌==◌, ◌&&◌, not, Bool, Option, Some, None, MatchOption, MatchResult, length, nat_le, nat_lt, if◌then◌else◌, option_map}
use Rattle.ordup_objects.specs.declared.refusal.Refusal.TheVariants.{UnknownObject}
use Rattle.ordup_objects.specs.Marks.{AreMarks}
use Rattle.ordup_objects.specs.States.{value_at}
use Rattle.ordup_query.specs.Imports.{charge}
use Rattle.ordup_query.specs.Queries.{begin_refusal, refusal_at}
use Rattle.ordup_shapes.specs.Changes.{greatest_object}
use Rattle.ordup_shapes.specs.declared.told.Charged.{Charged}
use Rattle.ordup_shapes.specs.declared.told.Ended.{Ended}
use Rattle.ordup_shared.specs.declared.open_book.OpenBook.{OpenBook}
use Rattle.ordup_shared.specs.declared.open_site.OpenSite.{OpenSite}
use Rattle.ordup_shared.specs.declared.open_query.OpenQuery.{OpenQuery}
use Rattle.ordup_shared.specs.declared.thing.Thing.{Thing}
use Rattle.ordup_shared.specs.Statuses.{IsRefused, status_of}
use Rattle.ordup_shared.specs.Things.{Opened, OpensHandle, of_kind, book_of, query_of}
use Rattle.ordup_shared.specs.declared.status.TheConstants.{DONE, FOREIGN}

-- a query of a book that made no read, whose reference is what is acknowledged
pub record IsFirstQuery (b : OpenBook) (limit : ℕ) (q : OpenQuery) : Type 0 where
  pub allowed : begin_refusal limit ≡ None
  pub query : q.query ≡ record { place = b.book.primary.acked; marks = q.query.marks; limit = limit; sum = pos 0; total = 0; reads = 0 }
  pub count : length q.query.marks ≡ length b.book.primary.log.start
  pub marks : AreMarks b.book.primary.log b.book.primary.acked q.query.marks
  pub cluster : q.cluster ≡ b.cluster

-- a query was opened
abbrev pub OpensQuery : Option Thing → ℕ → Option Thing → Option Thing → ℕ → Type 0
OpensQuery book limit old new status =
    OpensHandle old new status (MatchResult (of_kind book_of book)
    (λ b. Opened query_of new status (IsRefused (begin_refusal limit) status) (IsFirstQuery b limit))
    (λ why. (status ≡ why) × (new ≡ None)))

-- whether the query and the site have such an object
abbrev pub has_mark : OpenQuery → OpenSite → ℕ → Bool
has_mark q s object = nat_le object greatest_object && nat_lt object (length q.query.marks) && nat_lt object (length s.cell.site.values)

-- why a read is refused, as a status, if it is
abbrev pub read_status : OpenQuery → OpenSite → ℕ → Option ℕ
read_status q s object =
    if not (s.cluster == q.cluster) then Some FOREIGN else
    if not (has_mark q s object) then Some (status_of UnknownObject) else option_map status_of (refusal_at q.query s.cell.site object)

-- the answer to an accepted read, which the query counts
pub record Charges (q r : OpenQuery) (s : OpenSite) (object : ℕ) (out : Charged) : Type 0 where
  pub value : out.value ≡ value_at s.cell.site.values object
  pub import : out.import ≡ charge s.cell.site q.query.marks object
  pub total : out.total ≡ q.query.total + out.import
  pub place : out.place ≡ q.query.place
  pub reads : out.reads ≡ q.query.reads + 1
  pub query : r ≡ record q { query = record q.query { sum = q.query.sum +ℤ out.value; total = out.total; reads = out.reads } }

-- a read of a query at a site, or why there is none
abbrev pub ReadsFor : OpenQuery → OpenQuery → OpenSite → ℕ → Charged → Charged → ℕ → Type 0
ReadsFor q r s object old new status =
    MatchOption (read_status q s object) ((status ≡ DONE) × Charges q r s object new)
    (λ why. (status ≡ why) × (r ≡ q) × (new ≡ old))

-- a query ended, and its handle is closed
abbrev pub Ends : Option Thing → Option Thing → Ended → Ended → ℕ → Type 0
Ends old new old_out new_out status =
    MatchResult (of_kind query_of old)
    (λ q. (status ≡ DONE) × (new ≡ None)
    × (new_out ≡ record { place = q.query.place; sum = q.query.sum; total = q.query.total; reads = q.query.reads }))
    (λ why. (status ≡ why) × (new ≡ old) × (new_out ≡ old_out))
