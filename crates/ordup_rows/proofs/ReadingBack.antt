-- The rows of a record are read back as it.
use Rattle.ordup_audit.proofs.Common.{◌*◌, ◌++◌, ◌+◌, ◌<◌, ◌==◌, ◌^◌, ◌∙◌, ◌∷◌, ◌≡◌, ◌≤◌, [], All, All-cons, All-nil, and_from}
use Rattle.ordup_audit.proofs.Common.{ap, append-nil, append_assoc, are_of_one_object, AreEntries, AreEntriesKnown, AreGroups, AreKnown}
use Rattle.ordup_audit.proofs.Common.{AreMembersKnown, AreReportChanges, AreRoundPlaces, arith, Bool, bytes_eq, Change, decimal, Entries, eq-eqb}
use Rattle.ordup_audit.proofs.Common.{false, get_or, get_or-append_seam, greatest_amount, group_refusal, GroupList, IfSome, initial_state}
use Rattle.ordup_audit.proofs.Common.{is_name, IsGroup, IsInRange, IsKnown, IsRecord, IsScopeKnown, IsSet, IsStrictlyIncreasing, le-leb}
use Rattle.ordup_audit.proofs.Common.{HoldFrom, length, length-append, length_push, List, list_any, list_any-append, most_limits, take}
use Rattle.ordup_audit.proofs.Common.{lt-ltb, map, map-append, member_refusal, most_changes, most_members}
use Rattle.ordup_audit.proofs.Common.{most_updates, most_windows, nat_eq, nat_lt, nat_tests, None, Objects, op_number}
use Rattle.ordup_audit.proofs.Common.{index_of, option_and_then, or_from, or_parts, RecordState, refl, repeats, same_Some, set_refusal}
use Rattle.ordup_audit.proofs.Common.{Some, subst, suc, sym, true, Window, ℕ, ℤ}
use Rattle.std.proofs.lemmas.Bool.{and_right}
use Rattle.ordup_grammar.proofs.Decimals.{number_of-signed_decimal}
use Rattle.ordup_objects.specs.Sets.{AreInRange}
use Rattle.std.proofs.Math.Seq.{take-append_seam}
use Rattle.std.proofs.lemmas.List.Sums.{sum_by-le}
use Rattle.ordup_limits.specs.Entries.{are_one_entry, has_few, latest}
use Rattle.ordup_limits.specs.Sizes.{most_entries}
use Rattle.ordup_limits.specs.declared.limit_entry.LimitEntry.{LimitEntry}
use Rattle.ordup_limits.proofs.EntryLemmas.{latest-take}
use Rattle.ordup_audit.specs.declared.report_change.ReportChange.{ReportChange}
use Rattle.ordup_audit.specs.Records.{AreObjects}
use Rattle.ordup_audit.specs.Rows.{member_count}
use Rattle.ordup_rows.specs.Columns.{change_by, writes}
use Rattle.ordup_rows.specs.Laws.{RowsOfEachVersionAreRead, RowsTellOneRecord, ReadingIsComplete}
use Rattle.ordup_rows.specs.Rows.{Row, change_row, change_rows, change_text, counted, first_row, limit_row, member_row, member_rows, name_at}
use Rattle.ordup_rows.specs.Rows.{object_row, report_row, round_row, rows_in, window_row}
use Rattle.ordup_rows.specs.Stages.{last_number, Stage, closed, is_last_group, last_name, record_at, run, step, reading, record_read}
use Rattle.ordup_rows.specs.Stages.{unread}
use Rattle.ordup_rows.specs.Versions.{CanTell, CanTellPlace}
use Rattle.ordup_rows.specs.declared.version.Version.{Version}
use Rattle.ordup_audit.proofs.AscendingLemmas.{above}
use Rattle.ordup_rows.proofs.Columns.{bound, bytes_same, natural_of-decimal, writes-decimal}
use Rattle.ordup_rows.proofs.Growth.{ends, last_members-of, last_name-of, last_set-of, member_count-append, member_count-more, with_change-last}
use Rattle.ordup_rows.proofs.Growth.{with_member-last}
use Rattle.ordup_rows.proofs.Names.{absent_before, index_of-name, other_name}
use Rattle.ordup_rows.proofs.Refusals.{IsNewEntry, IsNewGroup, IsNewMember, IsNewObject, entry_allowed, group_allowed, member_allowed}
use Rattle.ordup_rows.proofs.Refusals.{object_allowed, set_allowed}
use Rattle.ordup_rows.proofs.RecordsSoFar.{HasGroup, HasKnown, HasName, above_last, all_at, all_front, changed-last, last_before}
use Rattle.ordup_rows.proofs.Versions.{amount_by-text, version_of-text}
use Rattle.ordup_rows.proofs.Words.{change_by-text, scope_of-text}

-- ---- one after another

pub run_on : (a b : List Row) (s t u : Stage) → run s a ≡ Some t → run t b ≡ Some u → run s (a ++ b) ≡ Some u
run_on [] b s t u h k = rw (same_Some s t h) k
run_on (row ∷ a) b s t u h k =
    let (m, stepped, rest) = bound _ (step s row) t h in
    rw stepped (run_on a b m t u rest k)

run_one : (s t u : Stage) (row : Row) (rows : List Row) → step s row ≡ Some t → run t rows ≡ Some u → run s (row ∷ rows) ≡ Some u
run_one s t u row rows h k = rw h k

-- the rows of a list, one by one
module _ {X : Type 0} (row : ℕ → X → Row) (at : List X → Stage) (start : ℕ) (all : List X)
    (each : (xs : List X) (x : X) (more : List X) → all ≡ xs ++ x ∷ more → step (at xs) (row (start + length xs) x)
    ≡ Some (at (xs ++ x ∷ []))) where
  pub counted_run : (more xs : List X) (n : ℕ) → all ≡ xs ++ more → n ≡ start + length xs → run (at xs) (counted row n more) ≡ Some (at all)
  counted_run [] xs n is at_n = ap (λ l. Some (at l)) (sym (is ∙ append-nil xs))
  counted_run (x ∷ more) xs n is at_n =
      run_one (at xs) (at (xs ++ x ∷ [])) (at all) (row n x) (counted row (n + 1) more)
      (ap (λ k. step (at xs) (row k x)) at_n ∙ each xs x more is)
      (counted_run more (xs ++ x ∷ []) (n + 1) (is ∙ sym (append_assoc xs (x ∷ []) more)) (omega (arith, length_push xs x)))

-- ---- the record so far, at each kind of row

module _ (v : Version) (d : ℕ) (r : RecordState) where
  abbrev pub at_objects : Objects → Stage
  at_objects objects = reading v d (record (record_at r.site) { objects = objects })

  abbrev pub at_groups : GroupList → Stage
  at_groups groups = reading v d (record (record_at r.site) { objects = r.objects; groups = groups })

  abbrev pub at_limits : Entries → Stage
  at_limits limits = reading v d (record (record_at r.site) { objects = r.objects; groups = r.groups; limits = limits })

  abbrev pub at_sets : List (List Change) → Stage
  at_sets sets = reading v d (record (record_at r.site) { objects = r.objects; groups = r.groups; limits = r.limits; sets = sets })

  abbrev pub at_reports : List ReportChange → Stage
  at_reports reports = reading v d (record r { reports = reports; rounds = []; windows = [] })

  abbrev pub at_rounds : List ℕ → Stage
  at_rounds rounds = reading v d (record r { rounds = rounds; windows = [] })

  abbrev pub at_windows : List Window → Stage
  at_windows windows = reading v d (record r { windows = windows })

-- ---- objects

new_object : (xs : Objects) (o : List ℕ × ℤ) (more : Objects) → AreObjects (xs ++ o ∷ more) → IsNewObject xs o.0 o.1
new_object xs o more are = record {
  is_a_name = all_at (λ (e : List ℕ × ℤ). is_name e.0 ≡ true) xs o more are.names;
  new = absent_before xs o more are.distinct;
  range = all_at IsInRange (initial_state xs) o.1 (initial_state more) (rw map-append at are.values);
  spare = let few = are.few in omega (arith, length-append xs (o ∷ more));
}

objects_run : (v : Version) (d : ℕ) (r : RecordState) → IsRecord r → run (at_objects v d r []) (counted object_row 1 r.objects)
    ≡ Some (at_objects v d r r.objects)
objects_run v d r is =
    counted_run object_row (at_objects v d r) 1 r.objects (λ xs o more e.
    let new = new_object xs o more (subst AreObjects e is.objects) in
    let n : 1 + length xs ≡ length xs + 1 = omega arith in
    let range = new.range in
    let spare = new.spare in
    rw (n, number_of-signed_decimal o.1 (omega arith), writes-decimal (length xs + 1) (omega arith), object_allowed xs o.0 o.1 new) refl)
    r.objects [] 1 refl refl

-- ---- members

-- an element that does not come twice is not among those before it
repeats_new : {X : Type 0} (same : X → X → Bool) (xs : List X) (x : X) (more : List X) → repeats same (xs ++ x ∷ more) ≡ false
    → list_any (λ y. same y x) xs ≡ false
repeats_new same [] x more distinct = refl
repeats_new same (y ∷ xs) x more distinct =
    let (none, rest) = or_parts (list_any (same y) (xs ++ x ∷ more)) (repeats same (xs ++ x ∷ more)) distinct in
    let parts = or_parts (list_any (same y) xs) (list_any (same y) (x ∷ more)) (rw (list_any-append (same y) xs (x ∷ more)) at none) in
    or_from _ _ (or_parts (same y x) (list_any (same y) more) parts.1).0 (repeats_new same xs x more rest)

repeats_front : {X : Type 0} (same : X → X → Bool) (xs more : List X) → repeats same (xs ++ more) ≡ false → repeats same xs ≡ false
repeats_front same [] more distinct = refl
repeats_front same (y ∷ xs) more distinct =
    let (none, rest) = or_parts (list_any (same y) (xs ++ more)) (repeats same (xs ++ more)) distinct in
    let parts = or_parts (list_any (same y) xs) (list_any (same y) more) (rw (list_any-append (same y) xs more) at none) in
    or_from _ _ parts.0 (repeats_front same xs more rest)

not_last : (groups : GroupList) (name : List ℕ) → index_of name groups ≡ None → is_last_group groups name ≡ false
not_last [] name none = refl
not_last (h ∷ groups) name none =
    let (front, g, e) = ends (h ∷ groups) (omega arith) in
    let last : last_name (h ∷ groups) ≡ g.0 = ap last_name e ∙ last_name-of front g in
    let other : bytes_eq name (last_name (h ∷ groups)) ≡ false =
    rw last (other_name name front g [] (ap (index_of name) (sym e) ∙ none)) in
    and_right _ _ other

is_last : (front : GroupList) (g : List ℕ × List ℕ) → is_last_group (front ++ g ∷ []) g.0 ≡ true
is_last front g =
    and_from _ _ (lt-ltb 0 (length (front ++ g ∷ [])) (omega (arith, length_push front g)))
    (ap (bytes_eq g.0) (last_name-of front g) ∙ bytes_same g.0)

step_first_member : (v : Version) (d : ℕ) (r : RecordState) (groups : GroupList) (name : List ℕ) (x n : ℕ) → index_of (name_at r.objects x) r.objects
    ≡ Some x
    → n ≡ member_count groups + 1 → n < 10 ^ 19 → is_last_group groups name ≡ false
    → group_refusal (length r.objects) groups name (x ∷ []) ≡ None
    → step (at_groups v d r groups) (member_row r.objects name n x) ≡ Some (at_groups v d r (groups ++ (name, x ∷ []) ∷ []))
step_first_member v d r groups name x n found count small other free =
    let reads : writes (decimal n) (member_count groups + 1) ≡ true = rw (← count) (writes-decimal n small) in
    rw (found, reads, other, free) refl

step_more_member : (v : Version) (d : ℕ) (r : RecordState) (front : GroupList) (g : List ℕ × List ℕ) (x n : ℕ)
    → index_of (name_at r.objects x) r.objects ≡ Some x
    → n ≡ member_count (front ++ g ∷ []) + 1 → n < 10 ^ 19 → member_refusal (length r.objects) g.1 x ≡ None
    → step (at_groups v d r (front ++ g ∷ [])) (member_row r.objects g.0 n x) ≡ Some (at_groups v d r (front ++ (g.0, g.1 ++ x ∷ []) ∷ []))
step_more_member v d r front g x n found count small free =
    let reads : writes (decimal n) (member_count (front ++ g ∷ []) + 1) ≡ true = rw (← count) (writes-decimal n small) in
    rw (found, reads, is_last front g, with_member-last front g x, last_members-of front g, free) refl

pub member_count-few : (groups : GroupList) → All HasGroup groups → member_count groups ≤ most_members * length groups
member_count-few groups are =
    omega (arith, sum_by-le (λ (g : List ℕ × List ℕ). length g.1) most_members groups (λ k g lt. (are k g lt).few))

module _ (v : Version) (d : ℕ) (r : RecordState) (is : IsRecord r) where
  new_group : (done : GroupList) (name : List ℕ) (x : ℕ) (ms : List ℕ) (more : GroupList)
      → AreGroups (length r.objects) (done ++ (name, x ∷ ms) ∷ more)
      → IsNewGroup (length r.objects) done name (x ∷ [])
  new_group done name x ms more are = record {
    is_a_name = all_at HasName done (name, x ∷ ms) more are.names;
    new = absent_before done (name, x ∷ ms) more are.distinct;
    known = All-cons (λ x. x < length r.objects) x []
        (all_at (HasKnown (length r.objects)) done (name, x ∷ ms) more are.known 0 x (omega arith)) (All-nil _);
    spare = let few = are.few in omega (arith, length-append done ((name, x ∷ ms) ∷ more));
    group = record { some = omega arith; few = omega arith; distinct = refl };
  }

  new_member : (members : List ℕ) (x : ℕ) (more : List ℕ) → IsGroup (members ++ x ∷ more)
      → AreMembersKnown (length r.objects) (members ++ x ∷ more)
      → IsNewMember (length r.objects) members x
  new_member members x more group known = record {
    known = all_at (λ x. x < length r.objects) members x more known;
    spare = let few = group.few in omega (arith, length-append members (x ∷ more));
    new = repeats_new nat_eq members x more group.distinct;
  }

  group_run : (done : GroupList) (name : List ℕ) (members : List ℕ) (more : GroupList) (n : ℕ)
      → AreGroups (length r.objects) (done ++ (name, members) ∷ more)
      → n ≡ member_count done + 1 → member_count done + length members ≤ 2048
      → run (at_groups v d r done) (counted (member_row r.objects name) n members) ≡ Some (at_groups v d r (done ++ (name, members) ∷ []))
  group_run done name [] more n are count few = absurd (omega (arith, (all_at HasGroup done (name, []) more are.each).some))
  group_run done name (x ∷ members) more n are count few =
      let group = all_at HasGroup done (name, x ∷ members) more are.each in
      let known = all_at (HasKnown (length r.objects)) done (name, x ∷ members) more are.known in
      let at : List ℕ → Stage = λ ms. at_groups v d r (done ++ (name, x ∷ ms) ∷ []) in
      let new = new_group done name x members more are in
      let found : (y : ℕ) → y < length r.objects → index_of (name_at r.objects y) r.objects ≡ Some y =
      λ y lt. index_of-name r.objects y is.objects.distinct lt in
      run_one (at_groups v d r done) (at []) (at members) (member_row r.objects name n x)
      (counted (member_row r.objects name) (n + 1) members)
      (step_first_member v d r done name x n (found x (known 0 x (omega arith))) count (omega arith) (not_last done name new.new)
      (group_allowed (length r.objects) done name (x ∷ []) new))
      (counted_run (member_row r.objects name) at (n + 1) members (λ ms y rest e.
      let whole : x ∷ members ≡ (x ∷ ms) ++ y ∷ rest = ap (λ l. x ∷ l) e in
      let fresh = new_member (x ∷ ms) y rest (subst IsGroup whole group) (subst (AreMembersKnown (length r.objects)) whole known) in
      let sizes : length members ≡ length ms + suc (length rest) = ap length e ∙ length-append ms (y ∷ rest) in
      step_more_member v d r done (name, x ∷ ms) y (n + 1 + length ms) (found y fresh.known)
      (omega (arith, member_count-append done ((name, x ∷ ms) ∷ []))) (omega arith)
      (member_allowed (length r.objects) (x ∷ ms) y fresh))
      members [] (n + 1) refl (omega arith))

  groups_run : (more done : GroupList) (n : ℕ) → r.groups ≡ done ++ more → n ≡ member_count done + 1
      → run (at_groups v d r done) (member_rows r.objects n more) ≡ Some (at_groups v d r r.groups)
  groups_run [] done n e count = ap (λ l. Some (at_groups v d r l)) (sym (e ∙ append-nil done))
  groups_run (g ∷ more) done n e count =
      let are : AreGroups (length r.objects) (done ++ g ∷ more) = subst (AreGroups (length r.objects)) e is.groups in
      let few = member_count-few (done ++ g ∷ more) are.each in
      let most = are.few in
      run_on (counted (member_row r.objects g.0) n g.1) (member_rows r.objects (n + length g.1) more) _ _ _
      (group_run done g.0 g.1 more n are count
      (omega (arith, few, most, member_count-append done (g ∷ more), member_count-more g more)))
      (groups_run more (done ++ g ∷ []) (n + length g.1) (e ∙ sym (append_assoc done (g ∷ []) more))
      (omega (arith, member_count-append done (g ∷ []))))

-- ---- limits

new_entry : (n d : ℕ) (groups : GroupList) (xs : Entries) (e : LimitEntry) (more : Entries) → AreEntries (xs ++ e ∷ more)
    → AreEntriesKnown n groups (xs ++ e ∷ more) → HoldFrom (d + 1) (xs ++ e ∷ more) → IsNewEntry n groups d xs e
new_entry n d groups xs e more are known begun =
    let all = xs ++ e ∷ more in
    let new = repeats_new are_one_entry xs e more are.distinct in
    let whole : all ≡ (xs ++ e ∷ []) ++ more = sym (append_assoc xs (e ∷ []) more) in
    let front : take (length (xs ++ e ∷ [])) all ≡ xs ++ e ∷ [] = rw whole (take-append_seam (xs ++ e ∷ []) more) in
    let scopes = latest-take all (length (xs ++ e ∷ [])) in
    let few = are.few in
    let most = are.scopes in
    let spare : has_few (xs ++ e ∷ []) ≡ true = and_from _ _
    (le-leb (length (latest (xs ++ e ∷ []))) most_limits (omega (arith, scopes, ap (λ (l : Entries). length (latest l)) front, most)))
    (le-leb (length (xs ++ e ∷ [])) most_entries (omega (arith, few, length_push xs e, length-append xs (e ∷ more)))) in
    record {
      known = all_at (λ (f : LimitEntry). IsScopeKnown n groups f.limit.scope) xs e more known;
      few = all_at (λ (f : LimitEntry). f.limit.amount ≤ greatest_amount) xs e more are.amounts;
      begun = all_at (λ (f : LimitEntry). 0 < f.place) xs e more are.begun;
      within = all_at (λ (f : LimitEntry). f.place ≤ d + 1) xs e more begun;
      later = last_before xs e more are.rising;
      new = new;
      spare = ap has_few (changed-last xs e new) ∙ spare;
    }

limits_run : (v : Version) (d : ℕ) (r : RecordState) → IsRecord r → length r.sets ≡ d → CanTell v r.limits
    → run (at_limits v d r []) (counted (limit_row v r.objects r.groups) 1 r.limits) ≡ Some (at_limits v d r r.limits)
limits_run v d r is all tells =
    counted_run (limit_row v r.objects r.groups) (at_limits v d r) 1 r.limits (λ xs e more same.
    let new = new_entry (length r.objects) d r.groups xs e more (subst AreEntries same is.limits)
    (subst (AreEntriesKnown (length r.objects) r.groups) same is.scopes)
    (subst (HoldFrom (d + 1)) same (subst (λ n. HoldFrom (n + 1) r.limits) all is.begun)) in
    let spelled = scope_of-text r.objects r.groups e.limit.scope is.objects.distinct is.groups.distinct new.known in
    let n : 1 + length xs ≡ length xs + 1 = omega arith in
    let place : CanTellPlace v e.place = all_at (λ (f : LimitEntry). CanTellPlace v f.place) xs e more (subst (CanTell v) same tells) in
    let updates = is.few in
    let few = is.limits.few in
    let allowed = entry_allowed (length r.objects) r.groups d xs e new in
    rw (
      n,
      spelled,
      amount_by-text v e place (omega (arith, new.few)) (omega (arith, new.within, updates, all)),
      lt-ltb 0 (length r.objects) is.objects.some,
      writes-decimal (length xs + 1) (omega (arith, few, ap (λ (l : Entries). length l) same, length-append xs (e ∷ more))),
      allowed.0,
      allowed.1,
    ) refl)
    r.limits [] 1 refl refl

-- ---- changes

step_first : (v : Version) (d : ℕ) (r : RecordState) (sets : List (List Change)) (c : Change) (k : ℕ) → change_by r.objects (change_text r.objects c)
    ≡ Some c
    → k ≡ length sets + 1 → length sets < d → k < 10 ^ 19 → set_refusal (length r.objects) (c ∷ []) ≡ None
    → step (at_sets v d r sets) (change_row r.objects k 1 c) ≡ Some (at_sets v d r (sets ++ (c ∷ []) ∷ []))
step_first v d r sets c k spelled count spare small free =
    let reads : writes (decimal k) (length sets + 1) ≡ true = rw (← count) (writes-decimal k small) in
    rw (spelled, writes-decimal 1 (omega arith), lt-ltb (length sets) d spare, reads, free) refl

not_first : (n : ℕ) → 0 < n → n + 1 < 10 ^ 19 → writes (decimal (n + 1)) 1 ≡ false
not_first n some small =
    let other : (n + 1 == 1) ≡ false = grind (arith, nat_tests) in
    rw (natural_of-decimal (n + 1) small) other

step_next : (v : Version) (d : ℕ) (r : RecordState) (front : List (List Change)) (m : List Change) (c : Change) (k position : ℕ)
    → change_by r.objects (change_text r.objects c) ≡ Some c → k ≡ length (front ++ m ∷ []) → k < 10 ^ 19
    → position ≡ length m + 1 → 0 < length m → length m + 1 < 10 ^ 19 → set_refusal (length r.objects) (m ++ c ∷ []) ≡ None
    → step (at_sets v d r (front ++ m ∷ [])) (change_row r.objects k position c) ≡ Some (at_sets v d r (front ++ (m ++ c ∷ []) ∷ []))
step_next v d r front m c k position spelled count small is some short free =
    let reads : writes (decimal k) (length (front ++ m ∷ [])) ≡ true = rw (← count) (writes-decimal k small) in
    let first : writes (decimal position) 1 ≡ false = rw is (not_first (length m) some short) in
    let next : writes (decimal position) (length m + 1) ≡ true = rw is (writes-decimal (length m + 1) short) in
    rw (spelled, first, reads, with_change-last front m c, last_set-of front m, next, free) refl

abbrev pub HasNumber : Change → Type 0
HasNumber c = IfSome (op_number c.op) IsInRange

abbrev IsWithin : ℕ → Window → Type 0
IsWithin d w = (w.from ≤ d) × (w.to ≤ d)

module _ (v : Version) (d : ℕ) (r : RecordState) (is : IsRecord r) (all : length r.sets ≡ d) where
  -- the front of a set is one
  front_set : (m : List Change) (c : Change) (more : List Change) → IsSet (m ++ c ∷ more) → IsSet (m ++ c ∷ [])
  front_set m c more set =
      let numbers : AreInRange (m ++ c ∷ more) = set.numbers in
      let whole : m ++ c ∷ more ≡ (m ++ c ∷ []) ++ more = sym (append_assoc m (c ∷ []) more) in
      record {
        some = omega (arith, length_push m c);
        few = let few = set.few in omega (arith, length_push m c, length-append m (c ∷ more));
        numbers = all_front HasNumber (m ++ c ∷ []) more (subst (λ l. AreInRange l) whole numbers);
        distinct = repeats_front are_of_one_object (m ++ c ∷ []) more (ap (repeats are_of_one_object) (sym whole) ∙ set.distinct);
      }

  front_allowed : (m : List Change) (c : Change) (more : List Change) → IsSet (m ++ c ∷ more) → AreKnown (length r.objects) (m ++ c ∷ more)
      → set_refusal (length r.objects) (m ++ c ∷ []) ≡ None
  front_allowed m c more set known =
      let whole : m ++ c ∷ more ≡ (m ++ c ∷ []) ++ more = sym (append_assoc m (c ∷ []) more) in
      set_allowed (length r.objects) (m ++ c ∷ []) (front_set m c more set)
      (all_front (IsKnown (length r.objects)) (m ++ c ∷ []) more (subst (AreKnown (length r.objects)) whole known))

  change_read : (m : List Change) (c : Change) (more : List Change) → IsSet (m ++ c ∷ more) → AreKnown (length r.objects) (m ++ c ∷ more)
      → change_by r.objects (change_text r.objects c) ≡ Some c
  change_read m c more set known =
      change_by-text r.objects is.objects.distinct is.objects.names c
      (all_at (IsKnown (length r.objects)) m c more known) (all_at HasNumber m c more set.numbers)

  set_run : (done : List (List Change)) (m : List Change) (more : List (List Change)) (k : ℕ) → r.sets ≡ done ++ m ∷ more
      → k ≡ length done + 1
      → run (at_sets v d r done) (counted (change_row r.objects k) 1 m) ≡ Some (at_sets v d r (done ++ m ∷ []))
  set_run done [] more k e count =
      let sets : All IsSet (done ++ [] ∷ more) = subst (All IsSet) e is.sets in
      absurd (omega (arith, (all_at IsSet done [] more sets).some))
  set_run done (c ∷ m) more k e count =
      let sets : All IsSet (done ++ (c ∷ m) ∷ more) = subst (All IsSet) e is.sets in
      let knowns : All (AreKnown (length r.objects)) (done ++ (c ∷ m) ∷ more) = subst (All (AreKnown (length r.objects))) e is.known in
      let set = all_at IsSet done (c ∷ m) more sets in
      let known = all_at (AreKnown (length r.objects)) done (c ∷ m) more knowns in
      let sizes : length r.sets ≡ length done + suc (length more) = ap length e ∙ length-append done ((c ∷ m) ∷ more) in
      let few = is.few in
      let at : List Change → Stage = λ l. at_sets v d r (done ++ (c ∷ l) ∷ []) in
      run_one (at_sets v d r done) (at []) (at m) (change_row r.objects k 1 c) (counted (change_row r.objects k) 2 m)
      (step_first v d r done c k (change_read [] c m set known) count (omega arith) (omega arith) (front_allowed [] c m set known))
      (counted_run (change_row r.objects k) at 2 m (λ l x rest e2.
      let whole : c ∷ m ≡ (c ∷ l) ++ x ∷ rest = ap (λ l. c ∷ l) e2 in
      let set2 = subst IsSet whole set in
      let known2 = subst (AreKnown (length r.objects)) whole known in
      let most : suc (length m) ≤ most_changes = set.few in
      let sizes2 : length m ≡ length l + suc (length rest) = ap length e2 ∙ length-append l (x ∷ rest) in
      step_next v d r done (c ∷ l) x k (2 + length l) (change_read (c ∷ l) x rest set2 known2)
      (omega (arith, length_push done (c ∷ l))) (omega arith) (omega arith) (omega arith) (omega arith)
      (front_allowed (c ∷ l) x rest set2 known2))
      m [] 2 refl refl)

  sets_run : (more done : List (List Change)) (k : ℕ) → r.sets ≡ done ++ more → k ≡ length done + 1
      → run (at_sets v d r done) (change_rows r.objects k more) ≡ Some (at_sets v d r r.sets)
  sets_run [] done k e count = ap (λ l. Some (at_sets v d r l)) (sym (e ∙ append-nil done))
  sets_run (m ∷ more) done k e count =
      run_on (counted (change_row r.objects k) 1 m) (change_rows r.objects (k + 1) more) _ _ _
      (set_run done m more k e count)
      (sets_run more (done ++ m ∷ []) (k + 1) (e ∙ sym (append_assoc done (m ∷ []) more)) (omega (arith, length_push done m)))

  -- ---- reports, rounds and windows
  is_updated : (nat_lt 0 (length r.objects) ≡ true) × ((length r.sets == d) ≡ true)
  is_updated = (lt-ltb 0 (length r.objects) is.objects.some, eq-eqb (length r.sets) d all)

  few_updates : d ≤ most_updates
  few_updates = let few = is.few in omega (arith, all)

  report_read : (xs : List ReportChange) (c : ReportChange) (more : List ReportChange) → r.reports ≡ xs ++ c ∷ more
      → step (at_reports v d r xs) (report_row c) ≡ Some (at_reports v d r (xs ++ c ∷ []))
  report_read xs c more e =
      let are : AreReportChanges d (xs ++ c ∷ more) =
      subst (AreReportChanges d) e (subst (λ n. AreReportChanges n r.reports) all is.reports) in
      let place = all_at (λ (c : ReportChange). (0 < c.place) × (c.place ≤ d)) xs c more are.each in
      let reported = all_at (λ (c : ReportChange). (0 < c.reported) × (c.reported ≤ most_updates)) xs c more are.reported in
      let places : IsStrictlyIncreasing (map (λ (c : ReportChange). c.place) xs ++ c.place ∷ map (λ (c : ReportChange). c.place) more) =
      rw map-append at are.places in
      let rising : IsStrictlyIncreasing
      (map (λ (c : ReportChange). c.reported) xs ++ c.reported ∷ map (λ (c : ReportChange). c.reported) more) =
      rw map-append at are.rising in
      rw (
        natural_of-decimal c.place (omega (arith, place.1, few_updates)),
        natural_of-decimal c.reported (omega (arith, reported.1)),
        is_updated.0,
        is_updated.1,
        lt-ltb _ c.place (above_last _ c.place _ places place.0),
        le-leb c.place d place.1,
        lt-ltb _ c.reported (above_last _ c.reported _ rising reported.0),
        le-leb c.reported most_updates reported.1,
      ) refl

  reports_run : (more xs : List ReportChange) → r.reports ≡ xs ++ more → run (at_reports v d r xs) (map report_row more)
      ≡ Some (at_reports v d r r.reports)
  reports_run [] xs e = ap (λ l. Some (at_reports v d r l)) (sym (e ∙ append-nil xs))
  reports_run (c ∷ more) xs e =
      run_one (at_reports v d r xs) (at_reports v d r (xs ++ c ∷ [])) (at_reports v d r r.reports) (report_row c) (map report_row more)
      (report_read xs c more e) (reports_run more (xs ++ c ∷ []) (e ∙ sym (append_assoc xs (c ∷ []) more)))

  round_read : (xs : List ℕ) (place : ℕ) (more : List ℕ) → r.rounds ≡ xs ++ place ∷ more
      → step (at_rounds v d r xs) (round_row (1 + length xs) place) ≡ Some (at_rounds v d r (xs ++ place ∷ []))
  round_read xs place more e =
      let are : AreRoundPlaces d (xs ++ place ∷ more) = subst (AreRoundPlaces d) e (subst (λ n. AreRoundPlaces n r.rounds) all is.rounds) in
      let within = all_at (λ k. (0 < k) × (k ≤ d)) xs place more are.each in
      let up = above (xs ++ place ∷ more) are.ascending (λ k d lt. (are.each k d lt).0) (length xs)
      (omega (arith, length-append xs (place ∷ more))) in
      let at : get_or (xs ++ place ∷ more) (length xs) 0 ≡ place = get_or-append_seam xs place more 0 in
      let n : 1 + length xs ≡ length xs + 1 = omega arith in
      rw (
        n,
        natural_of-decimal place (omega (arith, within.1, few_updates)),
        is_updated.0,
        is_updated.1,
        writes-decimal (length xs + 1) (omega (arith, up, at, within.1, few_updates)),
        lt-ltb (last_number xs) place (above_last xs place more are.ascending within.0),
        le-leb place d within.1,
      ) refl

  rounds_run : run (at_rounds v d r []) (counted round_row 1 r.rounds) ≡ Some (at_rounds v d r r.rounds)
  rounds_run = counted_run round_row (at_rounds v d r) 1 r.rounds round_read r.rounds [] 1 refl refl

  windows_run : run (at_windows v d r []) (counted window_row 1 r.windows) ≡ Some (at_windows v d r r.windows)
  windows_run =
      counted_run window_row (at_windows v d r) 1 r.windows (λ xs w more e.
      let few = is.few_windows in
      let sizes : length r.windows ≡ length xs + suc (length more) = ap length e ∙ length-append xs (w ∷ more) in
      let each : All (IsWithin (length r.sets)) (xs ++ w ∷ more) = subst (All (IsWithin (length r.sets))) e is.windows in
      let within = all_at (IsWithin (length r.sets)) xs w more each in
      let n : 1 + length xs ≡ length xs + 1 = omega arith in
      rw (
        n,
        natural_of-decimal w.from (omega (arith, within.0, few_updates)),
        natural_of-decimal w.to (omega (arith, within.1, few_updates)),
        is_updated.0,
        is_updated.1,
        writes-decimal (length xs + 1) (omega arith),
        lt-ltb (length xs) most_windows (omega arith),
        le-leb w.from d (omega (arith, within.0)),
        le-leb w.to d (omega (arith, within.1)),
      ) refl)
      r.windows [] 1 refl refl

-- ---- all rows

step_first_row : (v : Version) (site : List ℕ) (d : ℕ) → is_name site ≡ true → d ≤ most_updates
    → step unread (first_row v site d) ≡ Some (reading v d (record_at site))
step_first_row v site d name few =
    rw (version_of-text v, natural_of-decimal d (omega (arith, few)), name, le-leb d most_updates few) refl

-- the rows of seven lists, one list after the other
lists_run : (s t1 t2 t3 t4 t5 t6 t7 : Stage) (a b c d e f g : List Row) → run s a ≡ Some t1 → run t1 b ≡ Some t2 → run t2 c ≡ Some t3
    → run t3 d ≡ Some t4 → run t4 e ≡ Some t5 → run t5 f ≡ Some t6 → run t6 g ≡ Some t7 → run s (a ++ b ++ c ++ d ++ e ++ f ++ g) ≡ Some t7
lists_run s t1 t2 t3 t4 t5 t6 t7 a b c d e f g h1 h2 h3 h4 h5 h6 h7 =
    run_on (a ++ b ++ c ++ d ++ e ++ f) g s t6 t7 (
    run_on (a ++ b ++ c ++ d ++ e) f s t5 t6 (
    run_on (a ++ b ++ c ++ d) e s t4 t5 (
    run_on (a ++ b ++ c) d s t3 t4 (
    run_on (a ++ b) c s t2 t3 (run_on a b s t1 t2 h1 h2) h3) h4) h5) h6) h7

run-rows : (v : Version) (r : RecordState) → IsRecord r → CanTell v r.limits → run unread (rows_in v r) ≡ Some (reading v (length r.sets) r)
run-rows v r is tells =
    let d = length r.sets in
    run_one unread (reading v d (record_at r.site)) (reading v d r) (first_row v r.site d) _ (step_first_row v r.site d is.site is.few)
    (lists_run (at_objects v d r []) (at_objects v d r r.objects) (at_groups v d r r.groups) (at_limits v d r r.limits) (at_sets v d r r.sets)
    (at_reports v d r r.reports) (at_rounds v d r r.rounds) (at_windows v d r r.windows)
    (counted object_row 1 r.objects) (member_rows r.objects 1 r.groups) (counted (limit_row v r.objects r.groups) 1 r.limits)
    (change_rows r.objects 1 r.sets)
    (map report_row r.reports) (counted round_row 1 r.rounds) (counted window_row 1 r.windows)
    (objects_run v d r is)
    (groups_run v d r is r.groups [] 1 refl refl)
    (limits_run v d r is refl tells)
    (sets_run v d r is refl r.sets [] 1 refl refl)
    (reports_run v d r is refl r.reports [] refl)
    (rounds_run v d r is refl)
    (windows_run v d r is refl))

pub reading_is_complete : ReadingIsComplete
reading_is_complete rows r tells =
    let all = is_updated tells.version (length r.sets) r tells.valid refl in
    ap record_read tells.same ∙ ap (option_and_then closed) (run-rows tells.version r tells.valid tells.limits) ∙ rw (all.0, all.1) refl

pub rows_of_each_version_are_read : RowsOfEachVersionAreRead
rows_of_each_version_are_read version r is tells =
    reading_is_complete (rows_in version r) r (record { valid = is; version = version; limits = tells; same = refl })

pub rows_tell_one_record : RowsTellOneRecord
rows_tell_one_record rows r q first second =
    same_Some r q (sym (reading_is_complete rows r first) ∙ reading_is_complete rows q second)
