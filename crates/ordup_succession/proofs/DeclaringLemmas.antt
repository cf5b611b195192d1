-- The lines of a setup declare it, one after another.
use Rattle.ordup_audit.proofs.Common.{◌++◌, ◌<◌, ◌==◌, ◌^◌, ◌∙◌, ◌∷◌, ◌≡◌, ◌≤◌, [], All, All-cons, All-nil, All-tail, ap, append-nil, append_assoc, arith}
use Rattle.ordup_audit.proofs.Common.{AreDistinct, AreEntries, AreEntriesKnown, AreMembersKnown, AreNames}
use Rattle.ordup_audit.proofs.Common.{Bool, codes, Entries, false, get_or, greatest_amount, group_refusal, GroupList, HoldFrom, in_range}
use Rattle.ordup_audit.proofs.Common.{initial_state, is_name, IsGroup, IsInRange, IsScopeKnown, IsState, length, length-append, List}
use Rattle.ordup_audit.proofs.Common.{list_any, map, map-append, most_groups, most_limits, most_members, most_objects, nat_lt}
use Rattle.ordup_audit.proofs.Common.{None, object_refusal, Objects, or_parts, refl, repeats, subst, sym, true}
use Rattle.ordup_audit.proofs.Common.{unsigned_abs, ℕ, ℤ, list_any-append, nat_tests, lt-ltb, length-map, length_push, Scope, Object, Group, Everything, Count, ◌&&◌, ◌||◌}
use Rattle.std.proofs.Math.ListN.{length-set, set}
use Rattle.std.specs.Prelude.{fold}
use Rattle.std.proofs.lemmas.List.Sums.{fold-append}
use Rattle.std.proofs.lemmas.List.{get_or_at, get_or-set_same, set-get_or, set-set}
use Rattle.std.proofs.lemmas.List.Elements.{All-head}
use Rattle.ordup_objects.specs.Sizes.{greatest_capacity, most_sites}
use Rattle.ordup_log.specs.Groups.{are_members_known}
use Rattle.ordup_limits.specs.Entries.{are_one_entry, entry_of, from_start, latest, put}
use Rattle.ordup_limits.specs.Limits.{Limits, are_on_one_scope, scope_refusal}
use Rattle.ordup_limits.proofs.PutLemmas.{position-absent, put-new}
use Rattle.ordup_limits.proofs.EntryLemmas.{All-latest, latest-known}
use Rattle.ordup_limits.proofs.SiteLemmas.{latest-distinct}
use Rattle.ordup_limits.specs.declared.limit.Limit.{Limit}
use Rattle.ordup_primary.specs.Declarations.{AreCapacities, Declared, limits_of, site_limit_refusal, site_refusal}
use Rattle.ordup_primary.specs.Declarations.{with_limit, with_object, with_group, with_site}
use Rattle.ordup_primary.specs.Successors.{limits_from_start}
use Rattle.ordup_answers.specs.ScriptStates.{declaring, first_state, running}
use Rattle.ordup_rows.specs.Rows.{name_at}
use Rattle.ordup_rows.proofs.Names.{absent_before}
use Rattle.ordup_succession.proofs.Words.{state_by}
use Rattle.ordup_succession.proofs.Tables.{HasTables}
use Rattle.ordup_succession.specs.DeclaringLines.{declaring_lines, group_words, limit_lines, limit_words, object_words, site_words}
use Rattle.ordup_succession.proofs.StepLemmas.{group_line, limit_line, object_line, site_line, start_line}

-- what holds of all elements holds of the one behind the first of them
pub at_seam : {X : Type 0} (P : X → Type 0) (done : List X) (x : X) (more : List X) → All P (done ++ x ∷ more) → P x
at_seam P [] x more all = All-head P x more all
at_seam P (y ∷ done) x more all = at_seam P done x more (All-tail P y (done ++ x ∷ more) all)

-- a list is shorter than one with more behind it
seam_shorter : {X : Type 0} (done : List X) (x : X) (more : List X) → length done < length (done ++ x ∷ more)
seam_shorter done x more = omega (arith, length-append done (x ∷ more))

-- ---- objects

in_range-true : (z : ℤ) → IsInRange z → in_range z ≡ true
in_range-true z range = grind (arith, nat_tests)

object_allowed : (done : Objects) (e : List ℕ × ℤ) (more : Objects) → AreNames (done ++ e ∷ more) → AreDistinct (done ++ e ∷ more)
    → All (λ o. in_range o.1 ≡ true) (done ++ e ∷ more) → length (done ++ e ∷ more) ≤ most_objects
    → object_refusal done e.0 e.1 ≡ None
object_allowed done e more names distinct state few =
    let name = at_seam (λ o. is_name o.0 ≡ true) done e more names in
    let range = at_seam (λ o. in_range o.1 ≡ true) done e more state in
    let shorter = seam_shorter done e more in
    let spare : (length done == most_objects) ≡ false = grind (arith, nat_tests, shorter, few) in
    rw (name, absent_before done e more distinct, range, spare) refl

pub in_range_values : (objects : Objects) → IsState (initial_state objects) → All (λ o. in_range o.1 ≡ true) objects
in_range_values [] state = All-nil (λ (o : List ℕ × ℤ). in_range o.1 ≡ true)
in_range_values (o ∷ objects) state =
    All-cons (λ (o : List ℕ × ℤ). in_range o.1 ≡ true) o objects (in_range-true o.1 (All-head IsInRange o.1 (initial_state objects) state))
    (in_range_values objects (All-tail IsInRange o.1 (initial_state objects) state))

-- a value in range has few digits
pub in_range-small : (z : ℤ) → in_range z ≡ true → unsigned_abs z < 10 ^ 19
in_range-small z range = grind (arith, nat_tests)

module _ {A : Type 0} where
  pub objects_declared : (d : Declared) (es : Objects) (more : List (List (List ℕ))) → AreNames (d.objects ++ es)
      → AreDistinct (d.objects ++ es) → All (λ o. in_range o.1 ≡ true) (d.objects ++ es) → length (d.objects ++ es) ≤ most_objects
      → state_by {A = A} (declaring d) (map object_words es ++ more) ≡ state_by (declaring (record d { objects = d.objects ++ es })) more
  objects_declared d [] more names distinct state few =
      ap (λ objects. state_by {A = A} (declaring (record d { objects = objects })) more) (sym (append-nil d.objects))
  objects_declared d (e ∷ es) more names distinct state few =
      let step = object_line {A = A} d e (in_range-small e.1 (at_seam (λ o. in_range o.1 ≡ true) d.objects e es state))
      (object_allowed d.objects e es names distinct state few) in
      let all : (d.objects ++ e ∷ []) ++ es ≡ d.objects ++ e ∷ es = append_assoc d.objects (e ∷ []) es in
      ap (λ s. state_by s (map object_words es ++ more)) step
      ∙ objects_declared (with_object d e.0 e.1) es more (subst AreNames (sym all) names) (subst AreDistinct (sym all) distinct)
      (subst (All (λ o. in_range o.1 ≡ true)) (sym all) state) (subst (λ (l : Objects). length l ≤ most_objects) (sym all) few)
      ∙ ap (λ objects. state_by {A = A} (declaring (record d { objects = objects })) more) all

-- ---- groups

members_known : (n : ℕ) (members : List ℕ) → AreMembersKnown n members → are_members_known n members ≡ true
members_known n [] known = refl
members_known n (m ∷ members) known =
    rw (lt-ltb m n (All-head (λ x. x < n) m members known), members_known n members (All-tail (λ x. x < n) m members known)) refl

group_allowed : (n : ℕ) (done : GroupList) (g : List ℕ × List ℕ) (more : GroupList) → AreNames (done ++ g ∷ more)
    → AreDistinct (done ++ g ∷ more) → All (λ g. IsGroup g.1) (done ++ g ∷ more) → AreMembersKnown n g.1
    → length (done ++ g ∷ more) ≤ most_groups
    → group_refusal n done g.0 g.1 ≡ None
group_allowed n done g more names distinct groups known few =
    let name = at_seam (λ h. is_name h.0 ≡ true) done g more names in
    let group = at_seam (λ h. IsGroup h.1) done g more groups in
    let shorter = seam_shorter done g more in
    let spare : (length done == most_groups || nat_lt most_members (length g.1)) ≡ false =
    grind (arith, nat_tests, shorter, few, group.few) in
    let some : (length g.1 == 0) ≡ false = grind (arith, nat_tests, group.some) in
    rw (name, absent_before done g more distinct, members_known n g.1 known, spare, some, group.distinct) refl

module _ {A : Type 0} where
  pub groups_declared : (d : Declared) (gs : GroupList) (more : List (List (List ℕ))) → AreDistinct d.objects
      → AreNames (d.groups ++ gs) → AreDistinct (d.groups ++ gs) → All (λ g. IsGroup g.1) (d.groups ++ gs)
      → All (λ g. AreMembersKnown (length d.objects) g.1) gs → length (d.groups ++ gs) ≤ most_groups
      → state_by {A = A} (declaring d) (map (group_words d.objects) gs ++ more)
      ≡ state_by (declaring (record d { groups = d.groups ++ gs })) more
  groups_declared d [] more objects names distinct groups known few =
      ap (λ groups. state_by {A = A} (declaring (record d { groups = groups })) more) (sym (append-nil d.groups))
  groups_declared d (g ∷ gs) more objects names distinct groups known few =
      let members = All-head (λ h. AreMembersKnown (length d.objects) h.1) g gs known in
      let step = group_line {A = A} d g objects members
      (group_allowed (length d.objects) d.groups g gs names distinct groups members few) in
      let all : (d.groups ++ g ∷ []) ++ gs ≡ d.groups ++ g ∷ gs = append_assoc d.groups (g ∷ []) gs in
      ap (λ s. state_by s (map (group_words d.objects) gs ++ more)) step
      ∙ groups_declared (with_group d g.0 g.1) gs more objects (subst AreNames (sym all) names) (subst AreDistinct (sym all) distinct)
      (subst (All (λ g. IsGroup g.1)) (sym all) groups) (All-tail (λ h. AreMembersKnown (length d.objects) h.1) g gs known)
      (subst (λ (l : GroupList). length l ≤ most_groups) (sym all) few)
      ∙ ap (λ groups. state_by {A = A} (declaring (record d { groups = groups })) more) all

-- ---- sites

site_allowed : (done : List (List ℕ × ℕ)) (e : List ℕ × ℕ) (more : List (List ℕ × ℕ)) → AreNames (done ++ e ∷ more)
    → AreDistinct (done ++ e ∷ more) → AreCapacities (done ++ e ∷ more) → length (done ++ e ∷ more) ≤ most_sites
    → site_refusal done e.0 e.1 ≡ None
site_allowed done e more names distinct capacities few =
    let name = at_seam (λ o. is_name o.0 ≡ true) done e more names in
    let capacity = at_seam (λ (o : List ℕ × ℕ). (1 ≤ o.1) × (o.1 ≤ greatest_capacity)) done e more capacities in
    let shorter = seam_shorter done e more in
    let size : (e.1 == 0 || nat_lt greatest_capacity e.1) ≡ false = grind (arith, nat_tests, capacity.0, capacity.1) in
    let spare : (length done == most_sites) ≡ false = grind (arith, nat_tests, shorter, few) in
    rw (name, absent_before done e more distinct, size, spare) refl

-- no limits, for each site
abbrev pub no_limits : List (List ℕ × ℕ) → List Entries
no_limits sites = map (λ s. []) sites

-- what is declared, with these sites more
abbrev with_sites : Declared → List (List ℕ × ℕ) → Declared
with_sites d sites = record d { sites = d.sites ++ sites; limits = d.limits ++ no_limits sites }

module _ {A : Type 0} where
  pub sites_declared : (d : Declared) (es : List (List ℕ × ℕ)) (more : List (List (List ℕ))) → AreNames (d.sites ++ es)
      → AreDistinct (d.sites ++ es) → AreCapacities (d.sites ++ es) → length (d.sites ++ es) ≤ most_sites
      → state_by {A = A} (declaring d) (map site_words es ++ more) ≡ state_by (declaring (with_sites d es)) more
  sites_declared d [] more names distinct capacities few =
      ap (λ sites. state_by {A = A} (declaring (record d { sites = sites })) more) (sym (append-nil d.sites))
      ∙ ap (λ limits. state_by {A = A} (declaring (record d { sites = d.sites ++ []; limits = limits })) more) (sym (append-nil d.limits))
  sites_declared d (e ∷ es) more names distinct capacities few =
      let capacity = at_seam (λ (o : List ℕ × ℕ). (1 ≤ o.1) × (o.1 ≤ greatest_capacity)) d.sites e es capacities in
      let step = site_line {A = A} d e (omega (arith, capacity.1)) (site_allowed d.sites e es names distinct capacities few) in
      let all : (d.sites ++ e ∷ []) ++ es ≡ d.sites ++ e ∷ es = append_assoc d.sites (e ∷ []) es in
      let limits : (d.limits ++ [] ∷ []) ++ no_limits es ≡ d.limits ++ [] ∷ no_limits es = append_assoc d.limits ([] ∷ []) (no_limits es) in
      ap (λ s. state_by s (map site_words es ++ more)) step
      ∙ sites_declared (with_site d e.0 e.1) es more (subst AreNames (sym all) names) (subst AreDistinct (sym all) distinct)
      (subst AreCapacities (sym all) capacities) (subst (λ (l : List (List ℕ × ℕ)). length l ≤ most_sites) (sym all) few)
      ∙ ap (λ sites. state_by {A = A} (declaring (record d { sites = sites; limits = (d.limits ++ [] ∷ []) ++ no_limits es })) more) all
      ∙ ap (λ limits. state_by {A = A} (declaring (record d { sites = d.sites ++ e ∷ es; limits = limits })) more) limits

-- ---- limits

-- none of the elements before one is the same as it, where nothing comes twice
before_repeat : {X : Type 0} (same : X → X → Bool) (xs : List X) (y : X) (ys : List X) → repeats same (xs ++ y ∷ ys) ≡ false
    → list_any (λ x. same x y) xs ≡ false
before_repeat same [] y ys distinct = refl
before_repeat same (x ∷ xs) y ys distinct =
    let parts = or_parts (list_any (same x) (xs ++ y ∷ ys)) (repeats same (xs ++ y ∷ ys)) distinct in
    let others : (list_any (same x) xs || (same x y || list_any (same x) ys)) ≡ false = sym (list_any-append (same x) xs (y ∷ ys)) ∙ parts.0 in
    let behind = or_parts (list_any (same x) xs) (same x y || list_any (same x) ys) others in
    let here = or_parts (same x y) (list_any (same x) ys) behind.1 in
    rw (here.0, before_repeat same xs y ys parts.1) refl

-- a limit on a scope of its own is put behind the others
put_last : (done : Limits) (l : Limit) (later : Limits) → repeats are_on_one_scope (done ++ l ∷ later) ≡ false
    → put are_on_one_scope done l ≡ done ++ l ∷ []
put_last done l later distinct = put-new are_on_one_scope done l
    (position-absent (λ m. are_on_one_scope m l) done (before_repeat are_on_one_scope done l later distinct))

-- limits of distinct scopes, in force from the start, are the last ones
latest_added : (done limits : Limits) → repeats are_on_one_scope (done ++ limits) ≡ false
    → fold (λ ls e. put are_on_one_scope ls e.limit) done (from_start limits) ≡ done ++ limits
latest_added done [] distinct = sym (append-nil done)
latest_added done (l ∷ limits) distinct =
    let last = put_last done l limits distinct in
    let all : (done ++ l ∷ []) ++ limits ≡ done ++ l ∷ limits = append_assoc done (l ∷ []) limits in
    ap (λ (ls : Limits). fold (λ ms e. put are_on_one_scope ms e.limit) ls (from_start limits)) last
    ∙ latest_added (done ++ l ∷ []) limits (subst (λ (ls : Limits). repeats are_on_one_scope ls ≡ false) (sym all) distinct) ∙ all

alike_here : (b : Bool) → (b && true) ≡ b
alike_here true = refl
alike_here false = refl

others_apart : (l : Limit) (limits : Limits)
    → list_any (are_one_entry (record { limit = l; place = 1 })) (from_start limits) ≡ list_any (are_on_one_scope l) limits
others_apart l [] = refl
others_apart l (m ∷ limits) = rw (alike_here (are_on_one_scope l m), others_apart l limits) refl

repeats_from_start : (limits : Limits) → repeats are_one_entry (from_start limits) ≡ repeats are_on_one_scope limits
repeats_from_start [] = refl
repeats_from_start (l ∷ limits) = rw (others_apart l limits, repeats_from_start limits) refl

-- entries that hold from the start are those of their limits
of_places : (entries : Entries) → All (λ e. e.place ≡ 1) entries → from_start (map (λ e. e.limit) entries) ≡ entries
of_places [] first = refl
of_places (e ∷ entries) first =
    ap (λ p. record { limit = e.limit; place = p } ∷ from_start (map (λ f. f.limit) entries)) (sym (All-head (λ f. f.place ≡ 1) e entries first))
    ∙ ap (λ l. e ∷ l) (of_places entries (All-tail (λ f. f.place ≡ 1) e entries first))

-- the last limits of entries that hold from the start are all of them
pub from_start-latest : (entries : Entries) → AreEntries entries → HoldFrom 1 entries → from_start (latest entries) ≡ entries
from_start-latest entries are hold =
    let places : All (λ e. e.place ≡ 1) entries = λ k d lt. omega (arith, are.begun k d lt, hold k d lt) in
    let limits : Limits = map (λ e. e.limit) entries in
    let same = of_places entries places in
    let apart : repeats are_on_one_scope limits ≡ false =
    sym (repeats_from_start limits) ∙ ap (repeats are_one_entry) same ∙ are.distinct in
    ap (λ (es : Entries). from_start (latest es)) (sym same) ∙ ap from_start (latest_added [] limits apart) ∙ same

limits_kept : (tables : List Entries) → All AreEntries tables → All (HoldFrom 1) tables → limits_from_start tables ≡ tables
limits_kept [] are hold = refl
limits_kept (t ∷ tables) are hold =
    ap (λ (e : Entries). e ∷ limits_from_start tables)
    (from_start-latest t (All-head AreEntries t tables are) (All-head (HoldFrom 1) t tables hold))
    ∙ ap (λ l. t ∷ l) (limits_kept tables (All-tail AreEntries t tables are) (All-tail (HoldFrom 1) t tables hold))

scope_allowed : (n : ℕ) (groups : GroupList) (scope : Scope) → IsScopeKnown n groups scope → scope_refusal n groups scope ≡ None
scope_allowed n groups (Object x) known = rw (lt-ltb x n known) refl
scope_allowed n groups (Group g) known = rw (lt-ltb g (length groups) known) refl
scope_allowed n groups Everything known = refl
scope_allowed n groups Count known = refl

limit_allowed : (d : Declared) (s : ℕ) (done : Limits) (l : Limit) (later : Limits) → s < length d.sites
    → IsScopeKnown (length d.objects) d.groups l.scope → l.amount ≤ greatest_amount
    → repeats are_on_one_scope (done ++ l ∷ later) ≡ false → length (done ++ l ∷ later) ≤ most_limits → latest (limits_of d s) ≡ done
    → site_limit_refusal d s l.scope l.amount ≡ None
limit_allowed d s done l later there known amount distinct few is =
    let shorter = seam_shorter done l later in
    let size : nat_lt greatest_amount l.amount ≡ false = grind (arith, nat_tests, amount) in
    let spare : (length done == most_limits) ≡ false = grind (arith, nat_tests, shorter, few) in
    rw (
      scope_allowed (length d.objects) d.groups l.scope known,
      lt-ltb s (length d.sites) there,
      is,
      size,
      spare,
      before_repeat are_on_one_scope done l later distinct,
    ) refl

-- a list with an element in the place of the one behind the first of them
set_at_seam : {X : Type 0} (done : List X) (x y : X) (more : List X) → set (done ++ x ∷ more) (length done) y ≡ (done ++ y ∷ []) ++ more
set_at_seam [] x y more = refl
set_at_seam (z ∷ done) x y more = ap (λ l. z ∷ l) (set_at_seam done x y more)

-- what is declared, with other limits of a site
abbrev with_limits : Declared → ℕ → Entries → Declared
with_limits d s entries = record d { limits = set d.limits s entries }

module _ {A : Type 0} where
  site_limits_declared : (d : Declared) (s : ℕ) (done later : Limits) (more : List (List (List ℕ))) → AreDistinct d.objects
      → AreDistinct d.groups → AreDistinct d.sites → s < length d.sites → s < length d.limits
      → All (λ l. IsScopeKnown (length d.objects) d.groups l.scope) later → All (λ l. l.amount ≤ greatest_amount) later
      → repeats are_on_one_scope (done ++ later) ≡ false → length (done ++ later) ≤ most_limits → latest (limits_of d s) ≡ done
      → state_by {A = A} (declaring d) (map (limit_words d.objects d.groups (name_at d.sites s)) later ++ more)
      ≡ state_by (declaring (with_limits d s (limits_of d s ++ from_start later))) more
  site_limits_declared d s done [] more objects groups sites there row known amounts distinct few is =
      ap (λ limits. state_by {A = A} (declaring (record d { limits = limits })) more)
      (sym (ap (set d.limits s) (append-nil (limits_of d s)) ∙ set-get_or d.limits s []))
  site_limits_declared d s done (l ∷ later) more objects groups sites there row known amounts distinct few is =
      let scope = All-head (λ m. IsScopeKnown (length d.objects) d.groups m.scope) l later known in
      let amount = All-head (λ m. m.amount ≤ greatest_amount) l later amounts in
      let step = limit_line {A = A} d s l objects groups sites there scope (omega (arith, amount))
      (limit_allowed d s done l later there scope amount distinct few is) in
      let next : Declared = with_limit d s l.scope l.amount in
      let mine : limits_of next s ≡ limits_of d s ++ entry_of l.scope l.amount 1 ∷ [] =
      get_or-set_same d.limits s (limits_of d s ++ entry_of l.scope l.amount 1 ∷ []) [] row in
      let last : latest (limits_of next s) ≡ done ++ l ∷ [] =
      ap latest mine ∙ fold-append _ [] (limits_of d s) (entry_of l.scope l.amount 1 ∷ [])
      ∙ ap (λ ls. put are_on_one_scope ls l) is ∙ put_last done l later distinct in
      let all : (done ++ l ∷ []) ++ later ≡ done ++ l ∷ later = append_assoc done (l ∷ []) later in
      let rows : s < length next.limits = omega (arith, row, length-set d.limits s (limits_of d s ++ entry_of l.scope l.amount 1 ∷ [])) in
      ap (λ state. state_by state (map (limit_words d.objects d.groups (name_at d.sites s)) later ++ more)) step
      ∙ site_limits_declared next s (done ++ l ∷ []) later more objects groups sites there rows
      (All-tail (λ m. IsScopeKnown (length d.objects) d.groups m.scope) l later known)
      (All-tail (λ m. m.amount ≤ greatest_amount) l later amounts)
      (subst (λ (ls : Limits). repeats are_on_one_scope ls ≡ false) (sym all) distinct)
      (subst (λ (ls : Limits). length ls ≤ most_limits) (sym all) few) last
      ∙ ap (λ limits. state_by {A = A} (declaring (record d { limits = limits })) more)
      (set-set d.limits s _ _
      ∙ ap (set d.limits s) (ap (λ (es : Entries). es ++ from_start later) mine
      ∙ append_assoc (limits_of d s) (entry_of l.scope l.amount 1 ∷ []) (from_start later)))

  limits_declared : (d : Declared) (done : List Entries) (before sites : List (List ℕ × ℕ)) (tables : List Entries)
      (more : List (List (List ℕ))) → d.sites ≡ before ++ sites → length before ≡ length done → d.limits ≡ done ++ no_limits sites
      → length tables ≡ length sites → AreDistinct d.objects → AreDistinct d.groups → AreDistinct d.sites → All AreEntries tables
      → All (AreEntriesKnown (length d.objects) d.groups) tables
      → state_by {A = A} (declaring d) (limit_lines d.objects d.groups sites tables ++ more)
      ≡ state_by (declaring (record d { limits = done ++ limits_from_start tables })) more
  limits_declared d done before [] [] more where_sites as_many is_limits count objects groups apart are known =
      ap (λ limits. state_by {A = A} (declaring (record d { limits = limits })) more) is_limits
  limits_declared d done before [] (t ∷ tables) more where_sites as_many is_limits count objects groups apart are known =
      absurd (omega (arith, count))
  limits_declared d done before (e ∷ sites) [] more where_sites as_many is_limits count objects groups apart are known =
      absurd (omega (arith, count))
  limits_declared d done before (e ∷ sites) (t ∷ tables) more where_sites as_many is_limits count objects groups apart are known =
      let s = length done in
      let table = All-head AreEntries t tables are in
      let scopes = All-head (AreEntriesKnown (length d.objects) d.groups) t tables known in
      let there : s < length d.sites = omega (arith, ap length where_sites, length-append before (e ∷ sites), as_many) in
      let row : s < length d.limits = omega (arith, ap length is_limits, length-append done (no_limits (e ∷ sites))) in
      let name : name_at d.sites s ≡ e.0 =
      ap (λ (l : List (List ℕ × ℕ)). get_or (map (λ s. s.0) l) s []) where_sites
      ∙ ap (λ l. get_or l s []) (map-append (λ (s : List ℕ × ℕ). s.0) before (e ∷ sites))
      ∙ get_or_at (map (λ s. s.0) before) e.0 (map (λ s. s.0) sites) [] s (length-map before (λ s. s.0) ∙ as_many) in
      let none : limits_of d s ≡ [] = ap (λ l. get_or l s []) is_limits ∙ get_or_at done [] (no_limits sites) [] s refl in
      let now : List (List (List ℕ)) = map (limit_words d.objects d.groups e.0) (latest t) in
      let then : List (List (List ℕ)) = limit_lines d.objects d.groups sites tables in
      let next : Declared = record d { limits = set d.limits s (from_start (latest t)) } in
      let moved : next.limits ≡ (done ++ from_start (latest t) ∷ []) ++ no_limits sites =
      ap (λ l. set l s (from_start (latest t))) is_limits ∙ set_at_seam done [] (from_start (latest t)) (no_limits sites) in
      let first : state_by {A = A} (declaring d) (now ++ (then ++ more)) ≡ state_by (declaring next) (then ++ more) =
      ap (λ site. state_by {A = A} (declaring d) (map (limit_words d.objects d.groups site) (latest t) ++ (then ++ more))) (sym name)
      ∙ site_limits_declared d s [] (latest t) (then ++ more) objects groups apart there row
      (latest-known (length d.objects) d.groups t scopes) (All-latest (λ l. l.amount ≤ greatest_amount) t table.amounts)
      (latest-distinct t) table.scopes (ap latest none)
      ∙ ap (λ (es : Entries). state_by {A = A} (declaring (with_limits d s (es ++ from_start (latest t)))) (then ++ more)) none in
      ap (state_by {A = A} (declaring d)) (append_assoc now then more)
      ∙ first
      ∙ limits_declared next (done ++ from_start (latest t) ∷ []) (before ++ e ∷ []) sites tables more
      (where_sites ∙ sym (append_assoc before (e ∷ []) sites))
      (omega (arith, as_many, length_push before e, length_push done (from_start (latest t)))) moved (omega (arith, count)) objects groups apart
      (All-tail AreEntries t tables are) (All-tail (AreEntriesKnown (length d.objects) d.groups) t tables known)
      ∙ ap (λ limits. state_by {A = A} (declaring (record d { limits = limits })) more)
      (append_assoc done (from_start (latest t) ∷ []) (limits_from_start tables))

  -- the lines of a setup, from the first state of a script on
  pub setup_declared : (d : Declared) → HasTables d → state_by {A = A} first_state (declaring_lines d) ≡ running d []
  setup_declared d has =
      let lines_of_sites : List (List (List ℕ)) = map site_words d.sites in
      let start : List (List (List ℕ)) = (codes "start" ∷ []) ∷ [] in
      let limits : List (List (List ℕ)) = limit_lines d.objects d.groups d.sites d.limits ++ start in
      let after_objects : Declared = record { objects = d.objects; groups = []; sites = []; limits = [] } in
      let after_groups : Declared = record { objects = d.objects; groups = d.groups; sites = []; limits = [] } in
      let after_sites : Declared = record { objects = d.objects; groups = d.groups; sites = d.sites; limits = no_limits d.sites } in
      let kept : limits_from_start d.limits ≡ d.limits = limits_kept d.limits has.entries has.declared.first in
      ap (state_by {A = A} first_state) (append_assoc (map object_words d.objects) (map (group_words d.objects) d.groups) (lines_of_sites ++ limits))
      ∙ objects_declared (record { objects = []; groups = []; sites = []; limits = [] }) d.objects
      (map (group_words d.objects) d.groups ++ (lines_of_sites ++ limits)) has.objects has.apart (in_range_values d.objects has.state) has.few
      ∙ groups_declared after_objects d.groups (lines_of_sites ++ limits) has.apart has.groups has.groups_apart has.members
      has.declared.members has.few_groups
      ∙ sites_declared after_groups d.sites limits has.sites has.sites_apart has.declared.capacities has.declared.few
      ∙ limits_declared after_sites [] [] d.sites d.limits start refl refl refl has.declared.count has.apart has.groups_apart has.sites_apart
      has.entries has.declared.known
      ∙ ap (λ l. state_by {A = A} (declaring (record d { limits = l })) start) kept
      ∙ start_line d has.ready
