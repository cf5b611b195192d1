-- Declarations that grow.
use Rattle.std.proofs.Common.{◌≡◌, ℕ, ◌<◌, ◌≤◌, ◌==◌, ℤ, Bool, true, false, not, List, [], ◌∷◌, ◌++◌, length, arith, refl, ap, sym, subst, ◌∙◌}
use Rattle.std.specs.Bool.{Decides}
use Rattle.std.specs.Prelude.{Some, None, nat_lt, is_some, ◌||◌, Result, Ok, Err, IfOk, OnOk, IfErr, All}
use Rattle.ordup_objects.specs.declared.refusal.Refusal.{Refusal}
use Rattle.std.proofs.Math.ListN.{set, length-set, get_or}
use Rattle.std.proofs.lemmas.Bool.{false≢true, not-true, not-false, eq-eqb, ne_eqb}
use Rattle.std.proofs.lemmas.Bool.Decides.{nat_tests}
use Rattle.std.proofs.lemmas.List.{length_push, length-map}
use Rattle.std.proofs.lemmas.List.Elements.{All-map, All-push, All-nil, All-set, All-weaker}
use Rattle.ordup_objects.specs.declared.refusal.Refusal.TheVariants.{NameTaken, OutOfRange, TooMany}
use Rattle.ordup_objects.specs.Names.{is_name}
use Rattle.ordup_objects.specs.Sizes.{most_sites, greatest_capacity}
use Rattle.ordup_objects.specs.Tables.{index_of, names_of}
use Rattle.ordup_log.specs.Spans.{IsScopeKnown}
use Rattle.ordup_log.specs.Groups.{GroupList, AreMembersKnown}
use Rattle.ordup_log.specs.declared.scope.Scope.{Scope}
use Rattle.ordup_log.specs.declared.scope.Scope.TheVariants.{Object, Group, All as Everything, Count}
use Rattle.ordup_limits.specs.declared.limit_entry.LimitEntry.{LimitEntry}
use Rattle.ordup_limits.specs.Entries.{Entries, AreEntriesKnown, HoldFrom, from_start, latest}
use Rattle.ordup_limits.proofs.LatestLemmas.{HoldFrom-from_start, known-from_start}
use Rattle.ordup_primary.specs.Declarations.{Declared, AreDeclared, is_ready, site_refusal, start_refusal}
use Rattle.ordup_primary.specs.Successors.{limits_from_start}

-- ---- why a site is refused

-- by the tests in their order
pub taken-refused : (sites : List (List ℕ × ℕ)) (name : List ℕ) (capacity : ℕ) → is_name name ≡ true → true ≡ is_some (index_of name sites)
    → Some NameTaken ≡ site_refusal sites name capacity
taken-refused sites name capacity named taken = rw (named, ← taken) refl

pub capacity-refused : (sites : List (List ℕ × ℕ)) (name : List ℕ) (capacity : ℕ) → is_name name ≡ true → false ≡ is_some (index_of name sites)
    → false ≡ not (capacity == 0 || nat_lt greatest_capacity capacity) → Some OutOfRange ≡ site_refusal sites name capacity
capacity-refused sites name capacity named free out =
    rw (named, ← free, not-false (capacity == 0 || nat_lt greatest_capacity capacity) (sym out)) refl

pub many-refused : (sites : List (List ℕ × ℕ)) (name : List ℕ) (capacity : ℕ) → is_name name ≡ true → false ≡ is_some (index_of name sites)
    → true ≡ not (capacity == 0 || nat_lt greatest_capacity capacity) → length sites ≡ most_sites
    → Some TooMany ≡ site_refusal sites name capacity
many-refused sites name capacity named free fits full =
    rw (named, ← free, not-true (capacity == 0 || nat_lt greatest_capacity capacity) (sym fits), eq-eqb (length sites) most_sites full) refl

pub none-refused : (sites : List (List ℕ × ℕ)) (name : List ℕ) (capacity : ℕ) → is_name name ≡ true → false ≡ is_some (index_of name sites)
    → true ≡ not (capacity == 0 || nat_lt greatest_capacity capacity) → (length sites ≡ most_sites → ⊥)
    → None ≡ site_refusal sites name capacity
none-refused sites name capacity named free fits spare =
    rw (named, ← free, not-true (capacity == 0 || nat_lt greatest_capacity capacity) (sym fits), ne_eqb (length sites) most_sites spare) refl

-- what holds of a site that is not refused
pub site_allowed : (sites : List (List ℕ × ℕ)) (name : List ℕ) (capacity : ℕ) → site_refusal sites name capacity ≡ None
    → length sites ≤ most_sites
    → (length sites < most_sites) × ((1 ≤ capacity) × (capacity ≤ greatest_capacity))
site_allowed sites name capacity allowed few = grind (arith, nat_tests)

-- and its name is not taken
pub name-free : (sites : List (List ℕ × ℕ)) (name : List ℕ) (capacity : ℕ) → site_refusal sites name capacity ≡ None
    → index_of name sites ≡ None
name-free sites name capacity allowed = grind (arith, nat_tests)

-- ---- sites and their limits

-- one site more, without limits
pub AreDeclared-site : (d : Declared) (name : List ℕ) (capacity : ℕ) (sites : List (List ℕ × ℕ)) (limits : List Entries)
    → AreDeclared d → length d.sites < most_sites → (1 ≤ capacity) × (capacity ≤ greatest_capacity)
    → sites ≡ d.sites ++ (name, capacity) ∷ [] → limits ≡ d.limits ++ [] ∷ []
    → AreDeclared (record { objects = d.objects; groups = d.groups; sites = sites; limits = limits })
AreDeclared-site d name capacity sites limits is spare some e f = record {
  few = omega (arith, ap length e, length_push d.sites (name, capacity));
  capacities =
      rw e (All-push (λ (s : List ℕ × ℕ). (1 ≤ s.1) × (s.1 ≤ greatest_capacity)) d.sites (name, capacity) is.capacities some);
  count = omega (arith, ap length e, ap length f, length_push d.sites (name, capacity), length_push d.limits [], is.count);
  members = is.members;
  first = rw f (All-push (HoldFrom 1) d.limits [] is.first (All-nil (λ (e : LimitEntry). e.place ≤ 1)));
  known = rw f (All-push (AreEntriesKnown (length d.objects) d.groups) d.limits [] is.known
      (All-nil (λ (e : LimitEntry). IsScopeKnown (length d.objects) d.groups e.limit.scope)));
}

-- the limits of a site in the place of others, which hold from the start too
pub AreDeclared-limits : (d : Declared) (s : ℕ) (entries : Entries) (limits : List Entries) → AreDeclared d → limits ≡ set d.limits s entries
    → HoldFrom 1 entries → AreEntriesKnown (length d.objects) d.groups entries
    → AreDeclared (record { objects = d.objects; groups = d.groups; sites = d.sites; limits = limits })
AreDeclared-limits d s entries limits is e first known = record {
  few = is.few;
  capacities = is.capacities;
  count = ap length e ∙ length-set d.limits s entries ∙ is.count;
  members = is.members;
  first = rw e (All-set (HoldFrom 1) d.limits s entries first is.first);
  known = rw e (All-set (AreEntriesKnown (length d.objects) d.groups) d.limits s entries known is.known);
}

-- what a call leaves that adds one more or is refused
pub kept-added : {X Y : Type 0} (P : List Y → Type 0) (r : Result X Refusal) (old new : List Y) (e : Y) → P old → P (old ++ e ∷ [])
    → OnOk r (new ≡ old ++ e ∷ []) → IfErr r (λ _. new ≡ old)
    → P new
kept-added P (Ok u) old new e have more is same = subst P (sym is) more
kept-added P (Err x) old new e have more is same = subst P (sym same) have

-- ---- objects and groups

-- a scope that is there stays so with more of them
scope-more : (n m : ℕ) (groups more : GroupList) (scope : Scope) → n ≤ m → length groups ≤ length more → IsScopeKnown n groups scope
    → IsScopeKnown m more scope
scope-more n m groups more (Object x) le few known = omega arith
scope-more n m groups more (Group g) le few known = omega arith
scope-more n m groups more Everything le few known = known
scope-more n m groups more Count le few known = known

known-more : (n m : ℕ) (groups more : GroupList) (limits : List Entries) → n ≤ m → length groups ≤ length more
    → All (AreEntriesKnown n groups) limits → All (AreEntriesKnown m more) limits
known-more n m groups more limits le few =
    All-weaker (AreEntriesKnown n groups) (AreEntriesKnown m more) (λ entries.
    All-weaker (λ (e : LimitEntry). IsScopeKnown n groups e.limit.scope) (λ (e : LimitEntry). IsScopeKnown m more e.limit.scope)
    (λ e. scope-more n m groups more e.limit.scope le few) entries) limits

-- one object more
pub AreDeclared-object : (d : Declared) (object : List ℕ × ℤ) → AreDeclared d
    → AreDeclared (record d { objects = d.objects ++ object ∷ [] })
AreDeclared-object d object is =
    let n = length d.objects in
    let m = length (d.objects ++ object ∷ []) in
    let le : n ≤ m = omega (arith, length_push d.objects object) in
    record {
      few = is.few;
      capacities = is.capacities;
      count = is.count;
      members = All-weaker (λ (g : List ℕ × List ℕ). AreMembersKnown n g.1) (λ (g : List ℕ × List ℕ). AreMembersKnown m g.1)
          (λ g. All-weaker (λ x. x < n) (λ x. x < m) (λ x lt. omega arith) g.1) d.groups is.members;
      first = is.first;
      known = known-more n m d.groups d.groups d.limits le (omega arith) is.known;
    }

-- what a call leaves that adds a group or is refused
pub AreDeclared-group : {X : Type 0} (d : Declared) (r : Result X Refusal) (groups : GroupList) (group : List ℕ × List ℕ)
    → AreDeclared d → OnOk r (AreMembersKnown (length d.objects) group.1) → OnOk r (groups ≡ d.groups ++ group ∷ [])
    → IfErr r (λ _. groups ≡ d.groups)
    → AreDeclared (record d { groups = groups })
AreDeclared-group d (Ok u) groups group is members more same =
    let n = length d.objects in
    record {
      few = is.few;
      capacities = is.capacities;
      count = is.count;
      members = rw more (All-push (λ (g : List ℕ × List ℕ). AreMembersKnown n g.1) d.groups group is.members members);
      first = is.first;
      known = known-more n n d.groups groups d.limits (omega arith) (omega (arith, ap length more, length_push d.groups group)) is.known;
    }
AreDeclared-group d (Err x) groups group is members more same = rw same is

-- ---- a successor

length-names : {V W : Type 0} (xs : List (List ℕ × V)) (ys : List (List ℕ × W)) → names_of xs ≡ names_of ys → length xs ≡ length ys
length-names xs ys same = sym (length-map xs (λ e. e.0)) ∙ ap length same ∙ length-map ys (λ e. e.0)

pub AreDeclared-successor : (d next : Declared) (tables : List Entries) → AreDeclared d
    → names_of next.objects ≡ names_of d.objects → next.groups ≡ d.groups → next.sites ≡ d.sites
    → next.limits ≡ limits_from_start tables → length tables ≡ length d.sites
    → All (AreEntriesKnown (length d.objects) d.groups) tables → AreDeclared next
AreDeclared-successor d next tables are names groups sites limits count known =
    let many : length next.objects ≡ length d.objects = length-names next.objects d.objects names in
    rw (groups, sites, limits) (record {
      few = are.few;
      capacities = are.capacities;
      count = length-map tables (λ entries. from_start (latest entries)) ∙ count;
      members = rw many are.members;
      first = All-map (HoldFrom 1) (λ entries. from_start (latest entries)) tables (λ i e lt. HoldFrom-from_start (latest (get_or tables i e)));
      known = rw many (All-map (AreEntriesKnown (length d.objects) d.groups) (λ entries. from_start (latest entries)) tables
          (λ i e lt. known-from_start (length d.objects) d.groups (get_or tables i e) (known i e lt)));
    })

-- it is ready where the one before it was
pub successor-ready : (d : Declared) (r : Result Declared Refusal) → is_ready d ≡ true → IfOk r (λ e. names_of e.objects ≡ names_of d.objects)
    → IfOk r (λ e. e.sites ≡ d.sites) → IfOk r (λ e. start_refusal e ≡ None)
successor-ready d (Err e) ready names sites = tt
successor-ready d (Ok e) ready names sites =
    let same : is_ready e ≡ is_ready d = rw (length-names e.objects d.objects names, sites) refl in
    rw (same, ready) refl

-- ---- declarations that are the same

-- they are where their parts are; the last test says so of the limits
pub same-declared : (d e : Declared) → d.objects ≡ e.objects → d.groups ≡ e.groups → d.sites ≡ e.sites → (r : Bool)
    → Decides r (d.limits ≡ e.limits) → Decides r (d ≡ e)
same-declared d e objects groups sites r limits = (
  λ is i. record { objects = objects i; groups = groups i; sites = sites i; limits = limits.0 is i },
  λ same. limits.1 (ap (λ (f : Declared). f.limits) same),
)

-- they are not where the sites are others
pub other-sites : (d e : Declared) (r : Bool) → Decides r (d.sites ≡ e.sites) → r ≡ false → Decides false (d ≡ e)
other-sites d e r sites none = (λ is. absurd (false≢true is), λ same. sym none ∙ sites.1 (ap (λ (f : Declared). f.sites) same))
