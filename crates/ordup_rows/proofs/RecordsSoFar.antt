-- What is kept of a record while its rows are read, and how its lists grow.
use Rattle.ordup_audit.proofs.Common.{◌++◌, ◌+◌, ◌-◌, ◌<◌, ◌∙◌, ◌∷◌, ◌≡◌, ◌≤◌, ◌⊎◌, [], All, All-nil, All-push, ap, AreDistinct, AreGroups}
use Rattle.ordup_audit.proofs.Common.{AreEntries, AreEntriesKnown, AreKnown, AreMembersKnown, AreNames, AreReportChanges, AreRoundPlaces}
use Rattle.ordup_audit.proofs.Common.{Entries, get_or-map, HoldFrom, IsScopeKnown, length-map, refl, subst, false}
use Rattle.ordup_audit.proofs.Common.{arith, cases_lt, Change, get_or, get_or-append_seam, greatest_amount, GroupList, initial_state, inl, inr, is_name, list_any}
use Rattle.ordup_audit.proofs.Common.{IsGroup, IsInRange, IsSet, IsState, IsStrictlyIncreasing, length, length-append, length_push, List}
use Rattle.ordup_audit.proofs.Common.{map-append, most_objects, most_updates, most_windows, nat_eq, Objects, RecordState, true, Window, ℕ}
use Rattle.ordup_audit.proofs.Common.{ℤ}
use Rattle.std.proofs.Math.ListN.{get_or-append}
use Rattle.std.specs.List.Sorted.{IsNonDecreasingBy}
use Rattle.ordup_limits.specs.Entries.{are_one_entry, changed}
use Rattle.ordup_limits.specs.declared.limit_entry.LimitEntry.{LimitEntry}
use Rattle.ordup_limits.proofs.EntryLemmas.{AreEntries-changed}
use Rattle.ordup_limits.proofs.PutLemmas.{position-absent, put-new}
use Rattle.ordup_objects.proofs.RepeatLemmas.{repeats-push}
use Rattle.ordup_rows.specs.Stages.{last_number, last_place}
use Rattle.ordup_rows.specs.Versions.{CanTell, CanTellPlace}
use Rattle.ordup_rows.specs.declared.version.Version.{Version}
use Rattle.ordup_rows.proofs.Growth.{IsBeforeMembers, IsBeforeReports}
use Rattle.ordup_rows.proofs.Names.{AreDistinct-none, AreDistinct-push}
use Rattle.ordup_rows.proofs.Refusals.{IsNewEntry, IsNewGroup, IsNewMember, IsNewObject}

-- the objects so far
pub record AreObjectsSoFar (objects : Objects) : Type 0 where
  pub few : length objects ≤ most_objects
  pub values : IsState (initial_state objects)
  pub names : AreNames objects
  pub distinct : AreDistinct objects

-- the limits so far, which rows of the version can tell
pub record AreLimitsSoFar (version : Version) (decided n : ℕ) (groups : GroupList) (limits : Entries) : Type 0 where
  pub entries : AreEntries limits
  pub known : AreEntriesKnown n groups limits
  pub begun : HoldFrom (decided + 1) limits
  pub tells : CanTell version limits

-- the updates so far
pub record AreSetsSoFar (decided n : ℕ) (sets : List (List Change)) : Type 0 where
  pub count : length sets ≤ decided
  pub each : All IsSet sets
  pub known : All (AreKnown n) sets

pub record AreWindowsSoFar (decided : ℕ) (windows : List Window) : Type 0 where
  pub few : length windows ≤ most_windows
  pub each : All (λ (w : Window). (w.from ≤ decided) × (w.to ≤ decided)) windows

-- what is kept
pub record IsRecordSoFar (version : Version) (decided : ℕ) (r : RecordState) : Type 0 where
  pub site : is_name r.site ≡ true
  pub updates : decided ≤ most_updates
  pub objects : AreObjectsSoFar r.objects
  pub groups : AreGroups (length r.objects) r.groups
  pub limits : AreLimitsSoFar version decided (length r.objects) r.groups r.limits
  pub sets : AreSetsSoFar decided (length r.objects) r.sets
  pub reports : AreReportChanges decided r.reports
  pub rounds : AreRoundPlaces decided r.rounds
  pub windows : AreWindowsSoFar decided r.windows
  pub begun : (0 < length r.objects) ⊎ IsBeforeMembers r
  pub full : (length r.sets ≡ decided) ⊎ IsBeforeReports r

-- what is kept, part by part
pub so_far_by_parts : {version : Version} {decided : ℕ} {r : RecordState} → is_name r.site ≡ true → decided ≤ most_updates → AreObjectsSoFar r.objects
    → AreGroups (length r.objects) r.groups → AreLimitsSoFar version decided (length r.objects) r.groups r.limits
    → AreSetsSoFar decided (length r.objects) r.sets → AreReportChanges decided r.reports → AreRoundPlaces decided r.rounds
    → AreWindowsSoFar decided r.windows → (0 < length r.objects) ⊎ IsBeforeMembers r → (length r.sets ≡ decided) ⊎ IsBeforeReports r
    → IsRecordSoFar version decided r
so_far_by_parts a b c d e g h i j k l = record {
  site = a;
  updates = b;
  objects = c;
  groups = d;
  limits = e;
  sets = g;
  reports = h;
  rounds = i;
  windows = j;
  begun = k;
  full = l;
}

-- ---- lists and their last element

pub all_none : {X : Type 0} (P : X → Type 0) (xs : List X) → xs ≡ [] → All P xs
all_none P xs e = rw e (All-nil P)

pub all_front : {X : Type 0} (P : X → Type 0) (xs ys : List X) → All P (xs ++ ys) → All P xs
all_front P xs ys all k d lt =
    let inside : k < length (xs ++ ys) = omega (arith, length-append xs ys) in
    rw (get_or-append xs ys d k lt) at (all k d inside)

pub all_at : {X : Type 0} (P : X → Type 0) (xs : List X) (x : X) (ys : List X) → All P (xs ++ x ∷ ys) → P x
all_at P xs x ys all =
    let inside : length xs < length (xs ++ x ∷ ys) = omega (arith, length-append xs (x ∷ ys)) in
    rw (get_or-append_seam xs x ys x) at (all (length xs) x inside)

-- ---- ascending numbers

last_at : (xs : List ℕ) (k : ℕ) → k + 1 ≡ length xs → get_or xs k 0 ≡ last_number xs
last_at xs k is = let e : k ≡ length xs - 1 = omega arith in ap (λ i. get_or xs i 0) e

pub increasing-push : (xs : List ℕ) (x : ℕ) → IsStrictlyIncreasing xs → last_number xs < x → IsStrictlyIncreasing (xs ++ x ∷ [])
increasing-push xs x up above k lt = elim (cases_lt (k + 1) (length xs)) [
  | inl before ↦ rw (get_or-append xs (x ∷ []) 0 k (omega arith), get_or-append xs (x ∷ []) 0 (k + 1) before) (up k before)
  | inr past ↦ (let at : k + 1 ≡ length xs = omega (arith, length_push xs x) in
      rw (get_or-append xs (x ∷ []) 0 k (omega arith), at, get_or-append_seam xs x [] 0, last_at xs k at) above)
]

-- and back: what comes after ascending numbers is above the last of them, and above 0 where they are
pub above_last : (xs : List ℕ) (x : ℕ) (ys : List ℕ) → IsStrictlyIncreasing (xs ++ x ∷ ys) → 0 < x → last_number xs < x
above_last [] x ys up above = above
above_last (y ∷ xs) x ys up above =
    let k = length xs in
    let inside : k + 1 < length ((y ∷ xs) ++ x ∷ ys) = omega (arith, length-append (y ∷ xs) (x ∷ ys)) in
    let seam : k + 1 ≡ length (y ∷ xs) = omega arith in
    let at : get_or ((y ∷ xs) ++ x ∷ ys) (k + 1) 0 ≡ x = rw seam (get_or-append_seam (y ∷ xs) x ys 0) in
    let before : get_or ((y ∷ xs) ++ x ∷ ys) k 0 ≡ last_number (y ∷ xs) = get_or-append (y ∷ xs) (x ∷ ys) 0 k (omega arith)
    ∙ last_at (y ∷ xs) k seam in
    omega (arith, up k inside, at, before)

-- ---- objects

pub AreObjects-push : (objects : Objects) (name : List ℕ) (value : ℤ) → AreObjectsSoFar objects → IsNewObject objects name value
    → AreObjectsSoFar (objects ++ (name, value) ∷ [])
AreObjects-push objects name value are new = record {
  few = let spare = new.spare in omega (arith, length_push objects (name, value));
  values = rw map-append (All-push IsInRange (initial_state objects) value are.values new.range);
  names = All-push (λ (e : List ℕ × ℤ). is_name e.0 ≡ true) objects (name, value) are.names new.is_a_name;
  distinct = AreDistinct-push objects (name, value) are.distinct new.new;
}

-- ---- limits

pub last_place-at : (entries : Entries) (d : LimitEntry) → 0 < length entries
    → last_place entries ≡ (get_or entries (length entries - 1) d).place
last_place-at entries d some =
    let count = length-map entries (λ (e : LimitEntry). e.place) in
    rw count (get_or-map (λ (e : LimitEntry). e.place) entries (length entries - 1) d 0 (omega arith))

-- where the last limit holds from a place or before, each does
pub hold_last : (entries : Entries) (k : ℕ) → IsNonDecreasingBy (λ (e : LimitEntry). e.place) entries → last_place entries ≤ k
    → HoldFrom k entries
hold_last entries k rising last i d lt =
    omega (arith, last, last_place-at entries d (omega arith), rising i (length entries - 1) d (omega arith) (omega arith))

-- and back: what comes after limits does not hold from before the last of them
pub last_before : (xs : Entries) (e : LimitEntry) (ys : Entries) → IsNonDecreasingBy (λ (e : LimitEntry). e.place) (xs ++ e ∷ ys)
    → last_place xs ≤ e.place
last_before [] e ys rising = omega arith
last_before (x ∷ xs) e ys rising =
    let k = length xs in
    let before : get_or ((x ∷ xs) ++ e ∷ ys) k e ≡ get_or (x ∷ xs) k e = get_or-append (x ∷ xs) (e ∷ ys) e k (omega arith) in
    let here : get_or ((x ∷ xs) ++ e ∷ ys) (length (x ∷ xs)) e ≡ e = get_or-append_seam (x ∷ xs) e ys e in
    let at : last_place (x ∷ xs) ≡ (get_or (x ∷ xs) (length (x ∷ xs) - 1) e).place = last_place-at (x ∷ xs) e (omega arith) in
    let end : length (x ∷ xs) - 1 ≡ k = omega arith in
    omega (
      arith,
      at,
      ap (λ i. (get_or (x ∷ xs) i e).place) end,
      ap (λ (f : LimitEntry). f.place) before,
      ap (λ (f : LimitEntry). f.place) here,
      rising k (length (x ∷ xs)) e (omega arith) (omega (arith, length-append (x ∷ xs) (e ∷ ys))),
    )

-- a limit that is none of these comes as the last of them
pub changed-last : (limits : Entries) (e : LimitEntry) → list_any (λ f. are_one_entry f e) limits ≡ false
    → changed limits e ≡ limits ++ e ∷ []
changed-last limits e new = put-new are_one_entry limits e (position-absent (λ f. are_one_entry f e) limits new)

pub AreLimits-none : (version : Version) (decided n : ℕ) (groups : GroupList) (limits : Entries) → limits ≡ []
    → AreLimitsSoFar version decided n groups limits
AreLimits-none version decided n groups limits e = rw e (record {
  entries = record {
    scopes = omega arith;
    few = omega arith;
    amounts = All-nil (λ (e : LimitEntry). e.limit.amount ≤ greatest_amount);
    begun = All-nil (λ (e : LimitEntry). 0 < e.place);
    rising = λ i j d le lt. absurd (omega arith);
    distinct = refl;
  };
  known = All-nil (λ (e : LimitEntry). IsScopeKnown n groups e.limit.scope);
  begun = All-nil (λ (e : LimitEntry). e.place ≤ decided + 1);
  tells = All-nil (λ (e : LimitEntry). CanTellPlace version e.place);
})

pub AreLimits-push : (version : Version) (decided n : ℕ) (groups : GroupList) (limits : Entries) (e : LimitEntry)
    → AreLimitsSoFar version decided n groups limits → IsNewEntry n groups decided limits e → CanTellPlace version e.place
    → AreLimitsSoFar version decided n groups (limits ++ e ∷ [])
AreLimits-push version decided n groups limits e are new tells =
    let hold = hold_last limits e.place are.entries.rising new.later in
    record {
      entries = subst AreEntries (changed-last limits e new.new)
          (AreEntries-changed limits e are.entries hold new.begun new.few new.spare);
      known = All-push (λ (f : LimitEntry). IsScopeKnown n groups f.limit.scope) limits e are.known new.known;
      begun = All-push (λ (f : LimitEntry). f.place ≤ decided + 1) limits e are.begun new.within;
      tells = All-push (λ (f : LimitEntry). CanTellPlace version f.place) limits e are.tells tells;
    }

-- ---- groups

abbrev pub HasGroup : List ℕ × List ℕ → Type 0
HasGroup g = IsGroup g.1

abbrev pub HasKnown : ℕ → List ℕ × List ℕ → Type 0
HasKnown n g = AreMembersKnown n g.1

abbrev pub HasName : List ℕ × List ℕ → Type 0
HasName g = is_name g.0 ≡ true

pub AreGroups-none : (n : ℕ) (groups : GroupList) → groups ≡ [] → AreGroups n groups
AreGroups-none n groups e = rw e (record {
  few = omega arith;
  each = All-nil HasGroup;
  known = All-nil (HasKnown n);
  names = All-nil HasName;
  distinct = AreDistinct-none (List ℕ);
})

pub AreGroups-push : (n : ℕ) (groups : GroupList) (name members : List ℕ) → AreGroups n groups → IsNewGroup n groups name members
    → AreGroups n (groups ++ (name, members) ∷ [])
AreGroups-push n groups name members are new = record {
  few = let spare = new.spare in omega (arith, length_push groups (name, members));
  each = All-push HasGroup groups (name, members) are.each new.group;
  known = All-push (HasKnown n) groups (name, members) are.known new.known;
  names = All-push HasName groups (name, members) are.names new.is_a_name;
  distinct = AreDistinct-push groups (name, members) are.distinct new.new;
}

pub IsGroup-push : (n : ℕ) (members : List ℕ) (x : ℕ) → IsGroup members → IsNewMember n members x → IsGroup (members ++ x ∷ [])
IsGroup-push n members x is new = record {
  some = omega (arith, length_push members x);
  few = let spare = new.spare in omega (arith, length_push members x);
  distinct = repeats-push nat_eq members x is.distinct new.new;
}

-- a member more of the last group
pub AreGroups-grow : (n : ℕ) (front : GroupList) (g : List ℕ × List ℕ) (x : ℕ) → AreGroups n (front ++ g ∷ []) → IsNewMember n g.1 x
    → AreGroups n (front ++ (g.0, g.1 ++ x ∷ []) ∷ [])
AreGroups-grow n front g x are new =
    let each : All HasGroup (front ++ g ∷ []) = are.each in
    let known : All (HasKnown n) (front ++ g ∷ []) = are.known in
    let names : All HasName (front ++ g ∷ []) = are.names in
    let more : List ℕ × List ℕ = (g.0, g.1 ++ x ∷ []) in
    record {
      few = omega (arith, are.few, length_push front g, length_push front more);
      each = All-push HasGroup front more (all_front HasGroup front (g ∷ []) each)
          (IsGroup-push n g.1 x (all_at HasGroup front g [] each) new);
      known = All-push (HasKnown n) front more (all_front (HasKnown n) front (g ∷ []) known)
          (All-push (λ x. x < n) g.1 x (all_at (HasKnown n) front g [] known) new.known);
      names = All-push HasName front more (all_front HasName front (g ∷ []) names)
          (all_at HasName front g [] names);
      distinct = rw map-append (rw map-append at are.distinct);
    }
