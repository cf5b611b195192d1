-- A store of one object and one site from its opening on, worked out by hand: each kind of hold is a step that can be made.
use Rattle.std.proofs.Common.{◌≡◌, ℕ, zero, suc, ◌<◌, ◌≤◌, List, [], ◌∷◌, length, pos, refl, sym, arith, inl}
use Rattle.std.specs.Prelude.{Some, None, Ok, IfSome, All, codes, slice_get, slice_index_or}
use Rattle.std.proofs.lemmas.List.Elements.{All-nil, All-cons}
use Rattle.std.proofs.lemmas.Option.{slice_get_within}
use Rattle.ordup_objects.specs.declared.change.Change.{Change}
use Rattle.ordup_objects.specs.declared.change.Op.TheVariants.{Add}
use Rattle.ordup_objects.specs.Ops.{number_of}
use Rattle.ordup_objects.specs.Serial.{IsLegalHistory}
use Rattle.ordup_objects.specs.Sets.{IsSet, IsKnown, AreKnown}
use Rattle.ordup_objects.specs.States.{IsInRange}
use Rattle.ordup_log.specs.declared.scope.Scope.TheVariants.{Object}
use Rattle.ordup_limits.specs.Entries.{AreEntries, AreEntriesKnown, HoldFrom}
use Rattle.ordup_objects.specs.Sizes.{greatest_capacity}
use Rattle.ordup_objects.specs.Weights.{object_span}
use Rattle.ordup_primary.specs.Declarations.{Declared, AreDeclared, capacity_of}
use Rattle.ordup_primary.specs.Primaries.{PrimaryState, IsPrimary, SiteProgress, decided_at, is_within, progress_at}
use Rattle.ordup_primary.proofs.PrimaryLemmas.{IsPrimary-new}
use Rattle.ordup_query.specs.Queries.{QueryState}
use Rattle.ordup_query.specs.declared.answer.ReadAnswer.{ReadAnswer}
use Rattle.ordup_feed.specs.Parcels.{PlainParcel, AreInOrder, IsNext}
use Rattle.ordup_feed.specs.Ends.{AreNewEnds, FeedId, Sending}
use Rattle.ordup_feed.proofs.ParcelLemmas.{in-order-push}
use Rattle.ordup_holds.specs.Books.{BookState, IsTied}
use Rattle.ordup_holds.specs.Cells.{CellState, HoldsTaken}
use Rattle.ordup_holds.specs.Numbering.{with_numbered}
use Rattle.ordup_holds.specs.Relimiting.{with_changed_limit}
use Rattle.ordup_holds.specs.Turning.{AtEachSite, Reported, SentOut, SettlesOut, kept_at, send_bound}
use Rattle.ordup_interleavings.specs.Moments.{Acknowledged, Asked, Moment, Viewed, but_at}
use Rattle.ordup_interleavings.specs.Kept.{IsFeed, IsKept}
use Rattle.ordup_interleavings.specs.Holds.{Begin, Hear, Number, Read, Relimit, Take, Turn, View, Steps, with_book, with_heard, with_number, with_read}
use Rattle.ordup_interleavings.specs.Promises.{IsStart}

just : {X : Type 0} (P : X → Type 0) (x : X) → P x → All P (x ∷ [])
just P x is = All-cons P x [] is (All-nil P)

-- what holds of the only site's holds of each
at-one : {X : Type 0} (P : ℕ → X → Type 0) (x : X) → P 0 x → (s : ℕ) (y : X) → slice_get (x ∷ []) s ≡ Some y → P s y
at-one P x is zero y at = let same : x ≡ y = cc at in rw (← same) is
at-one P x is (suc s) y at = absurd (omega (arith, slice_get_within (x ∷ []) (suc s) y at))

-- ---- the store

-- 3 more of x
abbrev change : Change
change = record { object = 0; op = Add (pos 3) }

abbrev up : List Change
up = change ∷ []

-- The object x begins at 0. The site a has room for four updates, and no limit.
abbrev opened : Declared
opened = record { objects = (codes "x", pos 0) ∷ []; groups = []; sites = (codes "a", 4) ∷ []; limits = [] ∷ [] }

-- so much is known of the site
abbrev site : ℕ → List ℕ → SiteProgress
site sent reports = record { sent = sent; reported = 0; reports = reports; rounds = []; windows = [] }

-- with these sets, so many of them acknowledged
abbrev primary : List (List Change) → ℕ → SiteProgress → PrimaryState
primary sets acked known = record {
  setup = opened;
  log = record { start = pos 0 ∷ []; sets = sets };
  acked = acked;
  decided = acked;
  sites = known ∷ [];
  limits = [] ∷ [];
}

abbrev parcel : PlainParcel
parcel = record { number = 1; set = up }

abbrev pushed : FeedId → List PlainParcel → Sending
pushed f parcels = record { feed = f; start = pos 0 ∷ []; pushed = parcels; known = 0 }

-- the site took nothing, or the parcel
abbrev before : FeedId → CellState
before f = record {
  site = record { applied = 0; values = pos 0 ∷ []; travelled = 0 ∷ [] };
  end = record { feed = f; start = pos 0 ∷ []; taken = []; told = 0 };
}

abbrev after : FeedId → CellState
after f = record {
  site = record { applied = 1; values = pos 3 ∷ []; travelled = 3 ∷ [] };
  end = record { feed = f; start = pos 0 ∷ []; taken = parcel ∷ []; told = 1 };
}

abbrev book : FeedId → PrimaryState → List PlainParcel → BookState
book f p parcels = record { primary = p; ends = pushed f parcels ∷ [] }

-- ---- facts of these

is-set : IsSet up
is-set = record {
  some = omega arith;
  few = omega arith;
  numbers = just (λ (c : Change). IfSome (number_of c.op) IsInRange) change (omega arith);
  distinct = refl;
}

is-known : AreKnown 1 up
is-known = just (IsKnown 1) change (omega arith, tt)

legal-none : IsLegalHistory (record { start = pos 0 ∷ []; sets = [] })
legal-none = record {
  start = just IsInRange (pos 0) (omega arith);
  sets = All-nil IsSet;
  known = All-nil (AreKnown 1);
  legal = λ k lt. absurd (omega arith);
}

none-in-order : AreInOrder (pos 0 ∷ []) []
none-in-order = record { numbers = λ i d lt. absurd (omega arith); few = omega arith; legal = legal-none }

is-next : IsNext (pos 0 ∷ []) [] parcel
is-next = record { next = refl; few = omega arith; known = is-known; legal = refl }

in-order : AreInOrder (pos 0 ∷ []) (parcel ∷ [])
in-order = in-order-push (pos 0 ∷ []) [] parcel none-in-order is-next is-set

travelled-none : (x : ℕ) → let n : ℕ = slice_index_or (0 ∷ []) x 0 in n ≡ 0
travelled-none zero = refl
travelled-none (suc x) = refl

holds-none : (f : FeedId) → HoldsTaken (before f)
holds-none f = record { within = omega arith; applied = refl; values = refl; travelled = travelled-none }

-- only x moves, by 3
travelled-one : (x : ℕ) → let n : ℕ = slice_index_or (3 ∷ []) x 0 in n ≡ object_span (record { start = pos 0 ∷ []; sets = up ∷ [] }) x 0 1
travelled-one zero = refl
travelled-one (suc x) = refl

holds-one : (f : FeedId) → HoldsTaken (after f)
holds-one f = record { within = omega arith; applied = refl; values = refl; travelled = travelled-one }

-- what is between two holds keeps its facts, where the end of the book and that of the cell do
kept : (m : Moment) (p : PrimaryState) (e : Sending) (c : CellState) → m.book ≡ record { primary = p; ends = e ∷ [] } → m.cells ≡ c ∷ []
    → length p.sites ≡ 1 → IsTied p 0 e → HoldsTaken c → IsFeed e c.end → IsKept m
kept m p e c book cells one tied holds feed = record {
  book = rw book (record { count = sym one; tied = at-one (IsTied p) e tied });
  count = rw (book, cells) refl;
  cells = rw cells (at-one (λ s. HoldsTaken) c holds);
  feeds = rw (book, cells) (λ s x d here there.
      at-one (λ s d. IsFeed x d.end) c (at-one (λ s x. IsFeed x c.end) e feed s x here) s d there);
}

module _ (f : FeedId) (four : f.capacity ≡ 4) where
  -- ---- the opening

  abbrev start : Moment
  start = record {
    book = book f (primary [] 0 (site 0 [])) [];
    cells = before f ∷ [];
    queries = λ q. None;
    sessions = λ a. record { seen = 0; heard = [] };
  }

  nothing-pushed : IsFeed (pushed f []) (before f).end
  nothing-pushed = record { items = []; counter = 0 ∷ []; queue = (refl, refl, none-in-order); told = (refl, omega arith) }

  start-kept : IsKept start
  start-kept =
      kept start (primary [] 0 (site 0 [])) (pushed f []) (before f) refl refl refl
      (record { capacity = four; pushed = refl; reported = omega arith }) (holds-none f) nothing-pushed

  declared : AreDeclared opened
  declared = record {
    few = omega arith;
    capacities = just (λ (e : List ℕ × ℕ). (1 ≤ e.1) × (e.1 ≤ greatest_capacity)) (codes "a", 4) (omega arith, omega arith);
    count = refl;
    members = All-nil _;
    first = just (HoldFrom 1) [] (All-nil _);
    known = just (AreEntriesKnown 1 []) [] (All-nil _);
  }

  start-primary : IsPrimary start.book.primary
  start-primary = IsPrimary-new start.book.primary declared refl refl legal-none refl refl refl refl

  -- a table without limits
  no-limits : AreEntries []
  no-limits = record {
    scopes = omega arith;
    few = omega arith;
    amounts = All-nil _;
    begun = All-nil _;
    rising = λ i j d lt there. absurd (omega arith);
    distinct = search;
  }

  start-is-one : IsStart opened start
  start-is-one = record {
    opened = record {
      primary = refl;
      feeds = record {
        end_count = refl;
        cell_count = refl;
        each = at-one
            (λ s e. (c : CellState) × (slice_get (before f ∷ []) s ≡ Some c) × AreNewEnds (pos 0 ∷ []) (capacity_of opened s) e c.end)
            (pushed f []) (before f, refl, record { sender = refl; taker = refl; holds = four });
      };
    };
    primary = start-primary;
    limits = just AreEntries [] no-limits;
    capacities = declared.capacities;
    kept = start-kept;
    queries = λ q. refl;
    sessions = λ a. refl;
  }

  -- ---- the set is numbered

  abbrev one : Moment
  one = with_book (with_number start 0 up) (with_numbered start.book up)

  numbers : Steps start (Number 0 up) one
  numbers = record {
    makes = (record { is = is-set; known = is-known; allowed = refl }, refl);
    kept =
        kept one (primary (up ∷ []) 0 (site 0 [])) (pushed f []) (before f) refl refl refl
        (record { capacity = four; pushed = refl; reported = omega arith }) (holds-none f) nothing-pushed;
  }

  -- ---- a turn acknowledges it, and sends it

  abbrev settled : PrimaryState
  settled = primary (up ∷ []) 1 (site 0 (0 ∷ []))

  abbrev sent : BookState
  sent = book f (primary (up ∷ []) 1 (site 1 (0 ∷ []))) (parcel ∷ [])

  abbrev two : Moment
  two = with_book one sent

  looks : AtEachSite Reported one.book one.book
  looks = record {
    primary = refl;
    sites = refl;
    ends = refl;
    each = λ s e x here there.
        at-one (λ s x. (e : Sending) → slice_get (pushed f [] ∷ []) s ≡ Some e → Reported s (kept_at one.book.primary s e) (kept_at one.book.primary s x))
        (pushed f []) (λ e at. let same : pushed f [] ≡ e = cc at in rw (← same) (record { looked = refl; risen = omega arith; reported = refl }))
        s x there e here;
  }

  decided-site : (s : ℕ) (d : SiteProgress) → s < 1 → slice_index_or settled.sites s d
      ≡ decided_at (is_within one.book.primary s (progress_at one.book.primary s).reported 1) 1 (slice_index_or one.book.primary.sites s d)
  decided-site zero d lt = refl
  decided-site (suc s) d lt = absurd (omega (arith, lt))

  settles : SettlesOut one.book.primary settled
  settles = (
    1,
    settled,
    (
      one.book.primary,
      refl,
      record {
        allowed = refl;
        first = λ same. record { setup = refl; log = refl; limits = refl; acked = refl; decided = refl; count = refl; sites = decided-site };
        later = λ lt. absurd (omega (arith, lt));
      },
      refl,
    ),
    inl (refl, refl),
  )

  sends : AtEachSite (SentOut (send_bound settled)) (record { primary = settled; ends = one.book.ends }) sent
  sends = record {
    primary = refl;
    sites = refl;
    ends = refl;
    each = λ s e x here there.
        at-one (λ s x. (e : Sending) → slice_get (pushed f [] ∷ []) s ≡ Some e → SentOut (send_bound settled) s (kept_at settled s e) (kept_at sent.primary s x))
        (pushed f (parcel ∷ []))
        (λ e at. let same : pushed f [] ≡ e = cc at in
        let bound : send_bound settled 0 ≡ 1 = refl in
        rw (← same) (record {
          some = record { pushed = refl; sent = refl; risen = omega arith; bounded = omega (arith, bound) };
          out = inl (omega (arith, bound));
        }))
        s x there e here;
  }

  one-pushed : IsFeed (pushed f (parcel ∷ [])) (before f).end
  one-pushed = record { items = parcel ∷ []; counter = 0 ∷ []; queue = (refl, refl, in-order); told = (refl, omega arith) }

  one-tied : IsTied sent.primary 0 (pushed f (parcel ∷ []))
  one-tied = record { capacity = four; pushed = refl; reported = omega arith }

  takes-a-turn : Steps one Turn two
  takes-a-turn = record {
    makes = (Ok 1, (refl, (one.book, settled, looks, settles, sends)), refl);
    kept = kept two sent.primary (pushed f (parcel ∷ [])) (before f) refl refl refl one-tied (holds-none f) one-pushed;
  }

  -- ---- the session hears of it; a query begins, and reads before the site has it

  abbrev three : Moment
  three = with_heard two 0 1 (Acknowledged 1)

  hears : Steps two (Hear 0 1) three
  hears = record {
    makes = (omega arith, refl);
    kept = kept three sent.primary (pushed f (parcel ∷ [])) (before f) refl refl refl one-tied (holds-none f) one-pushed;
  }

  abbrev query : QueryState
  query = record { place = 1; marks = 3 ∷ []; limit = 5; sum = pos 0; total = 0; reads = 0 }

  abbrev asked : Asked
  asked = record { site = 0; query = query; reads = [] }

  abbrev four-asked : Moment
  four-asked = record three { queries = but_at three.queries 0 (Some asked) }

  begins : Steps three (Begin 0 0 5) four-asked
  begins = record {
    makes = (
      query,
      record { query = refl; count = refl; marks = λ x lt. travelled-one x; allowed = refl },
      refl,
    );
    kept = kept four-asked sent.primary (pushed f (parcel ∷ [])) (before f) refl refl refl one-tied (holds-none f) one-pushed;
  }

  abbrev answer : ReadAnswer
  answer = record { value = pos 0; import = 3; total = 3 }

  abbrev five : Moment
  five = record four-asked { queries = but_at four-asked.queries 0 (Some (with_read asked 0 0 answer)) }

  reads : Steps four-asked (Read 0 0) five
  reads = record {
    makes = (
      asked,
      before f,
      answer,
      refl,
      refl,
      omega arith,
      record { allowed = refl; value = refl; import = refl; total = refl },
      refl,
    );
    kept = kept five sent.primary (pushed f (parcel ∷ [])) (before f) refl refl refl one-tied (holds-none f) one-pushed;
  }

  -- ---- the site takes it, and the session reads

  abbrev six : Moment
  six = record five { cells = after f ∷ [] }

  one-taken : IsFeed (pushed f (parcel ∷ [])) (after f).end
  one-taken = record { items = []; counter = 1 ∷ []; queue = (refl, refl, in-order); told = (refl, omega arith) }

  takes : Steps five (Take 0) six
  takes = record {
    makes = (before f, after f, 1, refl, (parcel, refl, is-next, refl), refl);
    kept = kept six sent.primary (pushed f (parcel ∷ [])) (after f) refl refl refl one-tied (holds-one f) one-taken;
  }

  abbrev seven : Moment
  seven = with_heard six 0 1 (Viewed 0 0 (pos 3) 1)

  views : Steps six (View 0 0 0) seven
  views = record {
    makes = (after f, refl, omega arith, omega arith, refl);
    kept = kept seven sent.primary (pushed f (parcel ∷ [])) (after f) refl refl refl one-tied (holds-one f) one-taken;
  }

  -- ---- and a limit changes, to what the site lags by

  abbrev eight : Moment
  eight = with_book seven (with_changed_limit seven.book 0 (Object 0) 3)

  changes : Steps seven (Relimit 0 (Object 0) 3) eight
  changes = record {
    makes = (refl, refl);
    kept =
        kept eight eight.book.primary (pushed f (parcel ∷ [])) (after f) refl refl refl
        (record { capacity = four; pushed = refl; reported = omega arith }) (holds-one f) one-taken;
  }
