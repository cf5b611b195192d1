-- Entries and the limits that are in force.
use Rattle.std.specs.Prelude.{Option, Some, None, nat_lt, if◌then◌else◌}
use Rattle.std.specs.Option.{option_or}
use Rattle.ordup_objects.specs.Serial.{History}
use Rattle.ordup_objects.specs.declared.refusal.Refusal.{Refusal}
use Rattle.ordup_objects.specs.declared.refusal.Refusal.TheVariants.{OutOfRange, TooMany}
use Rattle.std.proofs.Common.{◌≡◌, ℕ, zero, suc, take, drop, get_or, ◌+◌, ◌-◌, ◌<◌, ◌≤◌, Bool, true, false, [], ◌∷◌, ◌++◌, length}
use Rattle.std.proofs.Common.{arith, refl, sym, ap, ◌∙◌, inl, inr}
use Rattle.std.specs.Prelude.{◌==◌, nat_le, All, fold, filter}
use Rattle.std.specs.List.{list_any, position_or_len}
use Rattle.std.specs.List.Sorted.{IsNonDecreasingBy}
use Rattle.std.proofs.lemmas.Bool.{cases_Bool, cases_eq, cases_lt, and_parts, or_parts, or_left, or_right, le-leb, lt-leb, leb-true}
use Rattle.std.proofs.lemmas.Bool.{ltb-false, eqb-true, eq-eqb, false≢true}
use Rattle.std.proofs.Math.ListN.{set, length-set}
use Rattle.std.proofs.lemmas.List.{append-nil, take-append-drop, length_push, length-drop, get_or-drop, get_or_read, get_or-set_other}
use Rattle.std.proofs.lemmas.List.Sorted.{IsNonDecreasingBy-push}
use Rattle.std.proofs.lemmas.Grind.{get_or-set_at}
use Rattle.std.proofs.lemmas.List.Elements.{All-filter, All-head, All-tail, All-nil, filter-append}
use Rattle.std.proofs.lemmas.List.Sums.{fold_more, fold-append, passes_at_first}
use Rattle.ordup_log.specs.Groups.{GroupList}
use Rattle.ordup_log.specs.Spans.{IsScopeKnown}
use Rattle.ordup_log.specs.declared.scope.Scope.{Scope}
use Rattle.ordup_log.specs.declared.scope.Scope.TheVariants.{Object, Group, All as Everything, Count}
use Rattle.ordup_objects.specs.Repeats.{repeats}
use Rattle.ordup_limits.specs.declared.limit.Limit.{Limit}
use Rattle.ordup_limits.specs.declared.limit_entry.LimitEntry.{LimitEntry}
use Rattle.ordup_limits.specs.Limits.{Limits, is_same_scope, are_on_one_scope, AreScopesKnown, keeps_limit, within, scope_refusal}
use Rattle.ordup_limits.specs.Entries.{change_refusal}
use Rattle.ordup_limits.specs.Entries.{Entries, put, latest, in_force, are_one_entry, changed, has_few, HoldFrom, AreEntries}
use Rattle.ordup_limits.specs.Entries.{AreEntriesKnown, LimitsInForceAreALimitTest, LimitsInForceKeepTheirNumbers}
use Rattle.ordup_limits.specs.Sizes.{most_limits, most_entries, greatest_amount}
use Rattle.ordup_limits.proofs.PutLemmas.{put-length, put-found, put-new, position-absent, list_any-put, repeats-put, All-put}
use Rattle.ordup_limits.proofs.LimitLemmas.{within-empty, within-later}

-- ---- scopes

pub same_scope : (s t : Scope) → is_same_scope s t ≡ true → s ≡ t
same_scope (Object x) (Object y) e = ap Object (eqb-true x y e)
same_scope (Group g) (Group h) e = ap Group (eqb-true g h e)
same_scope Everything Everything e = refl
same_scope Count Count e = refl
same_scope (Object x) (Group h) e = absurd cc
same_scope (Object x) Everything e = absurd cc
same_scope (Object x) Count e = absurd cc
same_scope (Group g) (Object y) e = absurd cc
same_scope (Group g) Everything e = absurd cc
same_scope (Group g) Count e = absurd cc
same_scope Everything (Object y) e = absurd cc
same_scope Everything (Group h) e = absurd cc
same_scope Everything Count e = absurd cc
same_scope Count (Object y) e = absurd cc
same_scope Count (Group h) e = absurd cc
same_scope Count Everything e = absurd cc

pub is_same_scope-refl : (s : Scope) → is_same_scope s s ≡ true
is_same_scope-refl (Object x) = eq-eqb x x refl
is_same_scope-refl (Group g) = eq-eqb g g refl
is_same_scope-refl Everything = refl
is_same_scope-refl Count = refl

-- other scopes are other, asked either way
other_scope : (s t : Scope) → is_same_scope s t ≡ false → is_same_scope t s ≡ false
other_scope s t other = elim (cases_Bool (is_same_scope t s)) [
  | inl e ↦ absurd (false≢true (sym other ∙ rw (same_scope t s e) (is_same_scope-refl s)))
  | inr e ↦ e
]

-- ---- limits that are put in

-- a limit that takes the place of one that was just put in
put-twice : (limits : Limits) (l m : Limit) → is_same_scope l.scope m.scope ≡ true
    → put are_on_one_scope (put are_on_one_scope limits l) m ≡ put are_on_one_scope limits m
put-twice [] l m same = rw same refl
put-twice (k ∷ limits) l m same =
    let e : l.scope ≡ m.scope = same_scope l.scope m.scope same in
    elim (cases_Bool (is_same_scope k.scope m.scope)) [
      | inl here ↦ (let there : is_same_scope k.scope l.scope ≡ true = rw e here in rw (there, here) (rw same refl))
      | inr other ↦ (let there : is_same_scope k.scope l.scope ≡ false = rw e other in
          rw (there, other) (ap (λ ls. k ∷ ls) (put-twice limits l m same)))
    ]

-- limits have one on a scope
abbrev pub has_scope : Scope → Limits → Bool
has_scope s limits = list_any (λ l. is_same_scope l.scope s) limits

-- a limit on a scope that there is, and one on another scope, in either order
put-other : (limits : Limits) (l m : Limit) → has_scope m.scope limits ≡ true → is_same_scope l.scope m.scope ≡ false
    → put are_on_one_scope (put are_on_one_scope limits l) m ≡ put are_on_one_scope (put are_on_one_scope limits m) l
put-other [] l m has other = absurd (false≢true has)
put-other (k ∷ limits) l m has other =
    let back : is_same_scope m.scope l.scope ≡ false = other_scope l.scope m.scope other in
    elim (cases_Bool (is_same_scope k.scope m.scope)) [
      | inl here ↦ (let apart : is_same_scope k.scope l.scope ≡ false = rw (same_scope k.scope m.scope here) back in
          rw (here, apart) (rw (here, back) refl))
      | inr there ↦ (let rest : has_scope m.scope limits ≡ true = rw there at has in
          elim (cases_Bool (is_same_scope k.scope l.scope)) [
            | inl same ↦ rw (same, there) (rw (same, other) refl)
            | inr apart ↦ rw (there, apart) (rw there (ap (λ ls. k ∷ ls) (put-other limits l m rest other)))
          ])
    ]

-- a limit that is put in is there
has_scope-put : (limits : Limits) (l : Limit) (s : Scope) → is_same_scope l.scope s ≡ true
    → has_scope s (put are_on_one_scope limits l) ≡ true
has_scope-put [] l s same = rw same refl
has_scope-put (k ∷ limits) l s same = elim (cases_Bool (is_same_scope k.scope l.scope)) [
  | inl here ↦ rw (here, same) refl
  | inr there ↦ rw (there, has_scope-put limits l s same) (or_right (is_same_scope k.scope s) true refl)
]

-- and those that are there stay
has_scope-kept : (limits : Limits) (l : Limit) (s : Scope) → has_scope s limits ≡ true
    → has_scope s (put are_on_one_scope limits l) ≡ true
has_scope-kept [] l s has = absurd (false≢true has)
has_scope-kept (k ∷ limits) l s has = elim (cases_Bool (is_same_scope k.scope l.scope)) [
  | inl here ↦ rw here (rw (same_scope k.scope l.scope here) at has)
  | inr there ↦ rw there (elim (cases_Bool (is_same_scope k.scope s)) [
    | inl e ↦ or_left _ _ e
    | inr e ↦ (let rest : has_scope s limits ≡ true = rw e at has in or_right _ _ (has_scope-kept limits l s rest))
  ])
]

-- ---- the last of each scope

abbrev latest_from : Limits → Entries → Limits
latest_from limits entries = fold (λ ls e. put are_on_one_scope ls e.limit) limits entries

-- a limit on a scope that there is, and entries of other scopes, in either order
latest-other : (limits : Limits) (entries : Entries) (m : Limit) → has_scope m.scope limits ≡ true
    → list_any (λ e. is_same_scope e.limit.scope m.scope) entries ≡ false
    → put are_on_one_scope (latest_from limits entries) m ≡ latest_from (put are_on_one_scope limits m) entries
latest-other limits [] m has none = refl
latest-other limits (e ∷ entries) m has none =
    let parts = or_parts (is_same_scope e.limit.scope m.scope) (list_any (λ f. is_same_scope f.limit.scope m.scope) entries) none in
    latest-other (put are_on_one_scope limits e.limit) entries m (has_scope-kept limits e.limit m.scope has) parts.1
    ∙ ap (λ ls. latest_from ls entries) (put-other limits e.limit m has parts.0)

-- entries of one place and no repeat of an entry of it are of other scopes
others : (e : LimitEntry) (entries : Entries) → list_any (are_one_entry e) entries ≡ false → All (λ f. f.place ≡ e.place) entries
    → list_any (λ f. is_same_scope f.limit.scope e.limit.scope) entries ≡ false
others e [] none here = refl
others e (f ∷ entries) none here =
    let parts = or_parts (are_one_entry e f) (list_any (are_one_entry e) entries) none in
    let place : (e.place == f.place) ≡ true = eq-eqb e.place f.place (sym (All-head (λ g. g.place ≡ e.place) f entries here)) in
    let apart : is_same_scope e.limit.scope f.limit.scope ≡ false =
    elim (cases_Bool (is_same_scope e.limit.scope f.limit.scope)) [
      | inl same ↦ absurd (false≢true (sym parts.0 ∙ rw (same, place) refl))
      | inr other ↦ other
    ] in
    rw (other_scope e.limit.scope f.limit.scope apart, others e entries parts.1 (All-tail (λ g. g.place ≡ e.place) f entries here)) refl

-- the last of each scope after a change
latest-put : (limits : Limits) (entries : Entries) (e : LimitEntry) → repeats are_one_entry entries ≡ false
    → IsNonDecreasingBy (λ f. f.place) entries → HoldFrom e.place entries
    → latest_from limits (changed entries e) ≡ put are_on_one_scope (latest_from limits entries) e.limit
latest-put limits [] e distinct rising hold = refl
latest-put limits (f ∷ entries) e distinct rising hold =
    let parts = or_parts (list_any (are_one_entry f) entries) (repeats are_one_entry entries) distinct in
    elim (cases_Bool (are_one_entry f e)) [
      | inl one ↦ (let both = and_parts (is_same_scope f.limit.scope e.limit.scope) (f.place == e.place) one in
          let place : f.place ≡ e.place = eqb-true f.place e.place both.1 in
          let here : All (λ g. g.place ≡ f.place) entries =
          λ k d lt. omega (arith, rising 0 (suc k) d (omega arith) (omega arith), hold (suc k) d (omega arith), place) in
          let apart = rw (same_scope f.limit.scope e.limit.scope both.0) at (others f entries parts.0 here) in
          rw one (sym (latest-other (put are_on_one_scope limits f.limit) entries e.limit (has_scope-put limits f.limit e.limit.scope both.0) apart
          ∙ ap (λ ls. latest_from ls entries) (put-twice limits f.limit e.limit both.0))))
      | inr other ↦ rw other (latest-put (put are_on_one_scope limits f.limit) entries e parts.1
          (λ i j d le lt. rising (suc i) (suc j) d (omega arith) (omega arith)) (All-tail (λ g. g.place ≤ e.place) f entries hold))
    ]

pub latest-changed : (entries : Entries) (e : LimitEntry) → repeats are_one_entry entries ≡ false
    → IsNonDecreasingBy (λ f. f.place) entries → HoldFrom e.place entries
    → latest (changed entries e) ≡ put are_on_one_scope (latest entries) e.limit
latest-changed entries e distinct rising hold = latest-put [] entries e distinct rising hold

-- with entries more there are no fewer scopes
latest-length : (limits : Limits) (entries : Entries) → length limits ≤ length (latest_from limits entries)
latest-length limits [] = omega arith
latest-length limits (e ∷ entries) =
    omega (arith, put-length are_on_one_scope limits e.limit, latest-length (put are_on_one_scope limits e.limit) entries)

-- the first entries have no more scopes than all
pub latest-take : (entries : Entries) (n : ℕ) → length (latest (take n entries)) ≤ length (latest entries)
latest-take entries n =
    let all : latest entries ≡ latest_from (latest (take n entries)) (drop n entries) =
    ap latest (sym (take-append-drop n entries)) ∙ fold-append _ [] (take n entries) (drop n entries) in
    omega (arith, ap (λ (ls : Limits). length ls) all, latest-length (latest (take n entries)) (drop n entries))

-- each of the last limits has what the limits of all entries have
All-latest_from : (P : Limit → Type 0) (limits : Limits) (entries : Entries) → All P limits → All (λ e. P e.limit) entries
    → All P (latest_from limits entries)
All-latest_from P limits [] have all = have
All-latest_from P limits (e ∷ entries) have all =
    All-latest_from P (put are_on_one_scope limits e.limit) entries
    (All-put P are_on_one_scope limits e.limit have (All-head (λ f. P f.limit) e entries all))
    (All-tail (λ f. P f.limit) e entries all)

pub All-latest : (P : Limit → Type 0) (entries : Entries) → All (λ e. P e.limit) entries → All P (latest entries)
All-latest P entries all = All-latest_from P [] entries (All-nil P) all

-- so have those in force
pub All-in_force : (P : Limit → Type 0) (entries : Entries) (k : ℕ) → All (λ e. P e.limit) entries → All P (in_force entries k)
All-in_force P entries k all =
    All-latest P (filter (λ e. nat_le e.place k) entries) (All-filter (λ e. nat_le e.place k) (λ e. P e.limit) entries all)

pub latest-known : (n : ℕ) (groups : GroupList) (entries : Entries) → AreEntriesKnown n groups entries
    → AreScopesKnown n groups (latest entries)
latest-known n groups entries known = All-latest (λ l. IsScopeKnown n groups l.scope) entries known

pub in_force-known : (n : ℕ) (groups : GroupList) (entries : Entries) (k : ℕ) → AreEntriesKnown n groups entries
    → AreScopesKnown n groups (in_force entries k)
in_force-known n groups entries k known = All-in_force (λ l. IsScopeKnown n groups l.scope) entries k known

-- ---- places

filter-all : (k : ℕ) (entries : Entries) → HoldFrom k entries → filter (λ e. nat_le e.place k) entries ≡ entries
filter-all k [] hold = refl
filter-all k (e ∷ entries) hold =
    rw (le-leb e.place k (All-head (λ f. f.place ≤ k) e entries hold), filter-all k entries (All-tail (λ f. f.place ≤ k) e entries hold)) refl

filter-none : (k : ℕ) (entries : Entries) → All (λ e. k < e.place) entries → filter (λ e. nat_le e.place k) entries ≡ []
filter-none k [] later = refl
filter-none k (e ∷ entries) later =
    rw (lt-leb e.place k (All-head (λ f. k < f.place) e entries later), filter-none k entries (All-tail (λ f. k < f.place) e entries later))
    refl

-- where no entry holds from later, the last ones are in force
pub in_force-latest : (entries : Entries) (k : ℕ) → HoldFrom k entries → in_force entries k ≡ latest entries
in_force-latest entries k hold = ap latest (filter-all k entries hold)

-- where the others hold from later, the last ones of the first n are in force
pub in_force-first : (entries : Entries) (k n : ℕ) → HoldFrom k (take n entries) → All (λ e. k < e.place) (drop n entries)
    → in_force entries k ≡ latest (take n entries)
in_force-first entries k n hold later =
    let first : filter (λ (e : LimitEntry). nat_le e.place k) (take n entries ++ drop n entries) ≡ take n entries =
    filter-append (λ (e : LimitEntry). nat_le e.place k) (take n entries) (drop n entries)
    ∙ rw (filter-all k (take n entries) hold, filter-none k (drop n entries) later) (append-nil (take n entries)) in
    ap latest (rw (take-append-drop n entries) at first)

-- a change from a later place leaves what is in force before it
filter-changed : (entries : Entries) (e : LimitEntry) (k : ℕ) → k < e.place
    → filter (λ f. nat_le f.place k) (changed entries e) ≡ filter (λ f. nat_le f.place k) entries
filter-changed [] e k lt = rw (lt-leb e.place k lt) refl
filter-changed (f ∷ entries) e k lt = elim (cases_Bool (are_one_entry f e)) [
  | inl one ↦ (let place : f.place ≡ e.place =
      eqb-true f.place e.place (and_parts (is_same_scope f.limit.scope e.limit.scope) (f.place == e.place) one).1 in
      rw one (rw (lt-leb e.place k lt, lt-leb f.place k (omega arith)) refl))
  | inr other ↦ rw other (rw (filter-changed entries e k lt) refl)
]

pub in_force-before : (entries : Entries) (e : LimitEntry) (k : ℕ) → k < e.place → in_force (changed entries e) k ≡ in_force entries k
in_force-before entries e k lt = ap latest (filter-changed entries e k lt)

-- the limits in force at the end of a span are what is asked of a test of limits
pub in_force-test : LimitsInForceAreALimitTest
in_force-test h groups entries = record {
  later = λ a b c le is. within-later h groups (in_force entries c) a b c le is;
  empty = λ a b le. within-empty h groups (in_force entries b) a b le;
}

-- ---- what each table keeps

-- the last of each scope with one entry more
pub latest-more : (entries : Entries) (i : ℕ) (d : LimitEntry) → i < length entries
    → latest (take (i + 1) entries) ≡ put are_on_one_scope (latest (take i entries)) (get_or entries i d).limit
latest-more entries i d lt = fold_more _ [] entries i d lt

-- entries from one that holds from later on hold from later
pub later-drop : (entries : Entries) (k i : ℕ) (e : LimitEntry) → IsNonDecreasingBy (λ f. f.place) entries → i < length entries
    → e ≡ get_or entries i e → k < e.place → All (λ f. k < f.place) (drop i entries)
later-drop entries k i e rising lt is late = λ j d below.
    (let at = get_or-drop i entries j d in
    omega (
      arith,
      rising i (i + j) d (omega arith) (omega (arith, below, length-drop i entries)),
      ap (λ (f : LimitEntry). f.place) at,
      ap (λ (f : LimitEntry). f.place) (get_or_read entries i e lt is d),
    ))

-- the places of entries with a change are in order
rising-changed : (entries : Entries) (e : LimitEntry) → IsNonDecreasingBy (λ f. f.place) entries → HoldFrom e.place entries
    → IsNonDecreasingBy (λ f. f.place) (changed entries e)
rising-changed entries e rising hold = elim (cases_lt (position_or_len (λ f. are_one_entry f e) entries) (length entries)) [
  | inl lt ↦ (let i = position_or_len (λ f. are_one_entry f e) entries in
      let same : (j : ℕ) (d : LimitEntry) → (get_or (set entries i e) j d).place ≡ (get_or entries j d).place =
      λ j d. elim (cases_eq j i) [
        | inl here ↦ (let one = passes_at_first (λ f. are_one_entry f e) entries d lt in
            let place = eqb-true (get_or entries i d).place e.place
            (and_parts (is_same_scope (get_or entries i d).limit.scope e.limit.scope) ((get_or entries i d).place == e.place) one).1 in
            ap (λ (f : LimitEntry). f.place) (get_or-set_at entries i j e d here lt) ∙ sym place
            ∙ ap (λ k. (get_or entries k d).place) (sym here))
        | inr other ↦ ap (λ (f : LimitEntry). f.place) (get_or-set_other entries i j e d other)
      ] in
      rw (put-found are_one_entry entries e lt) (λ j k d le below.
      omega (arith, same j d, same k d, rising j k d le (omega (arith, below, length-set entries i e)))))
  | inr le ↦ rw (put-new are_one_entry entries e le)
      (IsNonDecreasingBy-push (λ (f : LimitEntry). f.place) entries e rising (λ d some. hold (length entries - 1) d (omega arith)))
]

are_one_entry-alike : (e f g : LimitEntry) → are_one_entry e f ≡ true → are_one_entry f g ≡ are_one_entry e g
are_one_entry-alike e f g one =
    let both = and_parts (is_same_scope e.limit.scope f.limit.scope) (e.place == f.place) one in
    let place : e.place ≡ f.place = eqb-true e.place f.place both.1 in
    rw (same_scope e.limit.scope f.limit.scope both.0, place) refl

-- a table keeps all that with a change for which it has an entry to spare
pub AreEntries-changed : (entries : Entries) (e : LimitEntry) → AreEntries entries → HoldFrom e.place entries → 0 < e.place
    → e.limit.amount ≤ greatest_amount → has_few (changed entries e) ≡ true → AreEntries (changed entries e)
AreEntries-changed entries e are hold begun amount few =
    let spare = and_parts (nat_le (length (latest (changed entries e))) most_limits) (nat_le (length (changed entries e)) most_entries) few in
    record {
      scopes = leb-true (length (latest (changed entries e))) most_limits spare.0;
      few = leb-true (length (changed entries e)) most_entries spare.1;
      amounts = All-put (λ (f : LimitEntry). f.limit.amount ≤ greatest_amount) are_one_entry entries e are.amounts amount;
      begun = All-put (λ (f : LimitEntry). 0 < f.place) are_one_entry entries e are.begun begun;
      rising = rising-changed entries e are.rising hold;
      distinct = repeats-put are_one_entry entries e (λ f g one. are_one_entry-alike f e g one) are.distinct;
    }

-- ---- entries that hold from the start

-- where no entry is of a scope, the one at a place is not
list_any_at-false : (entries : Entries) (e : LimitEntry) (k : ℕ) (d : LimitEntry) → k < length entries
    → list_any (λ f. is_same_scope f.limit.scope e.limit.scope) entries ≡ false
    → is_same_scope (get_or entries k d).limit.scope e.limit.scope ≡ false
list_any_at-false [] e k d lt none = absurd (omega arith)
list_any_at-false (f ∷ entries) e zero d lt none =
    (or_parts (is_same_scope f.limit.scope e.limit.scope) (list_any (λ g. is_same_scope g.limit.scope e.limit.scope) entries) none).0
list_any_at-false (f ∷ entries) e (suc k) d lt none =
    list_any_at-false entries e k d (omega arith)
    (or_parts (is_same_scope f.limit.scope e.limit.scope) (list_any (λ g. is_same_scope g.limit.scope e.limit.scope) entries) none).1

-- of entries that all hold from the start, each is on a scope of its own
first-length : (limits : Limits) (entries : Entries) → All (λ e. e.place ≡ 1) entries → repeats are_one_entry entries ≡ false
    → All (λ e. has_scope e.limit.scope limits ≡ false) entries → length (latest_from limits entries) ≡ length limits + length entries
first-length limits [] first distinct apart = omega arith
first-length limits (e ∷ entries) first distinct apart =
    let parts = or_parts (list_any (are_one_entry e) entries) (repeats are_one_entry entries) distinct in
    let place = All-head (λ f. f.place ≡ 1) e entries first in
    let rest = All-tail (λ f. f.place ≡ 1) e entries first in
    let none = others e entries parts.0 (λ k d lt. rest k d lt ∙ sym place) in
    let new = put-new are_on_one_scope limits e.limit
    (position-absent (λ l. is_same_scope l.scope e.limit.scope) limits (All-head (λ f. has_scope f.limit.scope limits ≡ false) e entries apart)) in
    let next : All (λ f. has_scope f.limit.scope (put are_on_one_scope limits e.limit) ≡ false) entries =
    λ k d lt. list_any-put (λ l. is_same_scope l.scope (get_or entries k d).limit.scope) are_on_one_scope limits e.limit
    (All-tail (λ f. has_scope f.limit.scope limits ≡ false) e entries apart k d lt)
    (other_scope (get_or entries k d).limit.scope e.limit.scope (list_any_at-false entries e k d lt none)) in
    omega (
      arith,
      first-length (put are_on_one_scope limits e.limit) entries rest parts.1 next,
      ap (λ (ls : Limits). length ls) new,
      length_push limits e.limit,
    )

pub latest-first : (entries : Entries) → AreEntries entries → HoldFrom 1 entries → length (latest entries) ≡ length entries
latest-first entries are hold =
    omega (arith, first-length [] entries (λ k d lt. omega (arith, are.begun k d lt, hold k d lt)) are.distinct (λ k d lt. refl))

-- the scopes of limits stay with entries more
has_scope-latest : (s : Scope) (limits : Limits) (entries : Entries) → has_scope s limits ≡ true
    → has_scope s (latest_from limits entries) ≡ true
has_scope-latest s limits [] has = has
has_scope-latest s limits (e ∷ entries) has =
    has_scope-latest s (put are_on_one_scope limits e.limit) entries (has_scope-kept limits e.limit s has)

-- entries of other scopes are other entries
not_one : (entries : Entries) (e : LimitEntry) → list_any (λ f. is_same_scope f.limit.scope e.limit.scope) entries ≡ false
    → list_any (λ f. are_one_entry f e) entries ≡ false
not_one [] e none = refl
not_one (f ∷ entries) e none =
    let parts = or_parts (is_same_scope f.limit.scope e.limit.scope) (list_any (λ g. is_same_scope g.limit.scope e.limit.scope) entries) none in
    rw (parts.0, not_one entries e parts.1) refl

-- a scope that the last limits do not have is on no entry
absent-latest : (s : Scope) (limits : Limits) (entries : Entries) → has_scope s (latest_from limits entries) ≡ false
    → list_any (λ e. is_same_scope e.limit.scope s) entries ≡ false
absent-latest s limits [] none = refl
absent-latest s limits (e ∷ entries) none =
    let rest = absent-latest s (put are_on_one_scope limits e.limit) entries none in
    elim (cases_Bool (is_same_scope e.limit.scope s)) [
      | inl same ↦ absurd (false≢true (sym none ∙ has_scope-latest s (put are_on_one_scope limits e.limit) entries
          (has_scope-put limits e.limit s same)))
      | inr other ↦ rw (other, rest) refl
    ]

-- so a limit on it that holds from the start is added as the last
pub changed-new : (entries : Entries) (e : LimitEntry) → has_scope e.limit.scope (latest entries) ≡ false
    → changed entries e ≡ entries ++ e ∷ []
changed-new entries e none = put-new are_one_entry entries e
    (position-absent (λ f. are_one_entry f e) entries (not_one entries e (absent-latest e.limit.scope [] entries none)))

-- ---- changes that are allowed

or_none : (o p : Option Refusal) → option_or o p ≡ None → p ≡ None
or_none None p e = e
or_none (Some r) p e = absurd cc

-- a change that is allowed has a small amount, and an entry to spare
pub change-allowed : (n : ℕ) (groups : GroupList) (entries : Entries) (e : LimitEntry) → change_refusal n groups entries e ≡ None
    → (e.limit.amount ≤ greatest_amount) × (has_few (changed entries e) ≡ true)
change-allowed n groups entries e allowed =
    let rest = or_none (scope_refusal n groups e.limit.scope) (
    if nat_lt greatest_amount e.limit.amount then Some OutOfRange else
    if has_few (changed entries e) then None else Some TooMany) allowed in
    elim (cases_Bool (nat_lt greatest_amount e.limit.amount)) [
      | inl large ↦ absurd (let no : Some OutOfRange ≡ None = rw large at rest in cc)
      | inr small ↦ elim (cases_Bool (has_few (changed entries e))) [
        | inl spare ↦ (ltb-false greatest_amount e.limit.amount small, spare)
        | inr full ↦ absurd (let no : Some TooMany ≡ None = rw (small, full) at rest in cc)
      ]
    ]

-- limits that a span keeps, with one more that it keeps
pub within-put : (h : History) (groups : GroupList) (limits : Limits) (l : Limit) (a b : ℕ) → within h groups limits a b ≡ true
    → keeps_limit h groups a b l ≡ true → within h groups (put are_on_one_scope limits l) a b ≡ true
within-put h groups [] l a b all here = rw here refl
within-put h groups (m ∷ limits) l a b all here =
    let parts = and_parts (keeps_limit h groups a b m) (within h groups limits a b) all in
    elim (cases_Bool (is_same_scope m.scope l.scope)) [
      | inl same ↦ rw same (rw (here, parts.1) refl)
      | inr other ↦ rw other (rw (parts.0, within-put h groups limits l a b parts.1 here) refl)
    ]

-- ---- the numbers of the limits in force

-- a limit that is put in leaves each scope where it was
put-scope : (limits : Limits) (l : Limit) (i : ℕ) (d : Limit) → i < length limits
    → (get_or (put are_on_one_scope limits l) i d).scope ≡ (get_or limits i d).scope
put-scope [] l i d lt = absurd (omega arith)
put-scope (k ∷ limits) l zero d lt = elim (cases_Bool (is_same_scope k.scope l.scope)) [
  | inl here ↦ rw here (sym (same_scope k.scope l.scope here))
  | inr there ↦ rw there refl
]
put-scope (k ∷ limits) l (suc i) d lt = elim (cases_Bool (is_same_scope k.scope l.scope)) [
  | inl here ↦ rw here refl
  | inr there ↦ rw there (put-scope limits l i d (omega arith))
]

latest-scope : (limits : Limits) (entries : Entries) (i : ℕ) (d : Limit) → i < length limits
    → (get_or (latest_from limits entries) i d).scope ≡ (get_or limits i d).scope
latest-scope limits [] i d lt = refl
latest-scope limits (e ∷ entries) i d lt =
    latest-scope (put are_on_one_scope limits e.limit) entries i d (omega (arith, put-length are_on_one_scope limits e.limit))
    ∙ put-scope limits e.limit i d lt

numbers-from : (limits : Limits) (entries : Entries) (k i : ℕ) (d : Limit) → IsNonDecreasingBy (λ e. e.place) entries
    → i < length (latest_from limits (filter (λ e. nat_le e.place k) entries))
    → (i < length (latest_from limits entries))
    × ((get_or (latest_from limits (filter (λ e. nat_le e.place k) entries)) i d).scope ≡ (get_or (latest_from limits entries) i d).scope)
numbers-from limits [] k i d rising lt = (lt, refl)
numbers-from limits (e ∷ entries) k i d rising lt = elim (cases_lt k e.place) [
  | inl later ↦ (let all : All (λ f. k < f.place) (e ∷ entries) = λ j f below. omega (arith, rising 0 j f (omega arith) below) in
      let none : filter (λ (f : LimitEntry). nat_le f.place k) (e ∷ entries) ≡ [] = filter-none k (e ∷ entries) all in
      let here : i < length limits = rw none at lt in
      rw none (omega (arith, latest-length limits (e ∷ entries)), sym (latest-scope limits (e ∷ entries) i d here)))
  | inr begun ↦ (let kept : nat_le e.place k ≡ true = le-leb e.place k begun in
      let rest : IsNonDecreasingBy (λ (f : LimitEntry). f.place) entries =
      λ m n f le below. rising (suc m) (suc n) f (omega arith) (omega arith) in
      rw kept (numbers-from (put are_on_one_scope limits e.limit) entries k i d rest (rw kept at lt)))
]

pub in_force-numbers : LimitsInForceKeepTheirNumbers
in_force-numbers entries k i d rising lt = numbers-from [] entries k i d rising lt
