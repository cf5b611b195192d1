-- The rows of a record with one row more.
use Rattle.ordup_audit.proofs.Common.{◌++◌, ◌+◌, ◌-◌, ◌<◌, ◌==◌, ◌∙◌, ◌∷◌, ◌≡◌, [], and_parts, ap, append-nil, append_assoc, arith, Change}
use Rattle.ordup_audit.proofs.Common.{drop, eqb-true, get_or-append_seam, GroupList, last_members, length, length_push, List}
use Rattle.ordup_audit.proofs.Common.{map-append, nil_from_length, Objects, RecordState, refl, sym, true, Window, with_member, ℕ, ℤ}
use Rattle.std.specs.Prelude.{slice_index_or, slice_set}
use Rattle.std.proofs.Math.Seq.{set-append_seam}
use Rattle.std.proofs.lemmas.List.Sums.{sum_by-append, sum_by-cons}
use Rattle.ordup_objects.specs.Tables.{with_entry}
use Rattle.ordup_limits.specs.declared.limit_entry.LimitEntry.{LimitEntry}
use Rattle.ordup_audit.specs.Rows.{member_count}
use Rattle.ordup_audit.specs.declared.report_change.ReportChange.{ReportChange}
use Rattle.ordup_rows.specs.Rows.{Row, change_row, change_rows, counted, limit_row, member_row, member_rows, object_row, report_row}
use Rattle.ordup_rows.specs.Rows.{round_row, rows_so_far, window_row}
use Rattle.ordup_rows.specs.Stages.{is_before_changes, is_before_limits, is_before_members, is_before_reports, is_before_rounds}
use Rattle.ordup_rows.specs.Stages.{is_before_windows, last_name, last_set, with_change}
use Rattle.ordup_rows.specs.declared.version.Version.{Version}

-- ---- what is not there yet

abbrev pub IsBeforeWindows : RecordState → Type 0
IsBeforeWindows r = r.windows ≡ []

abbrev pub IsBeforeRounds : RecordState → Type 0
IsBeforeRounds r = (r.rounds ≡ []) × IsBeforeWindows r

abbrev pub IsBeforeReports : RecordState → Type 0
IsBeforeReports r = (r.reports ≡ []) × IsBeforeRounds r

abbrev pub IsBeforeChanges : RecordState → Type 0
IsBeforeChanges r = (r.sets ≡ []) × IsBeforeReports r

abbrev pub IsBeforeLimits : RecordState → Type 0
IsBeforeLimits r = (r.limits ≡ []) × IsBeforeChanges r

abbrev pub IsBeforeMembers : RecordState → Type 0
IsBeforeMembers r = (r.groups ≡ []) × IsBeforeLimits r

empty : {X : Type 0} (xs : List X) → (length xs == 0) ≡ true → xs ≡ []
empty xs h = nil_from_length xs (eqb-true (length xs) 0 h)

pub before_windows : (r : RecordState) → is_before_windows r ≡ true → IsBeforeWindows r
before_windows r h = empty r.windows h

pub before_rounds : (r : RecordState) → is_before_rounds r ≡ true → IsBeforeRounds r
before_rounds r h = let both = and_parts (length r.rounds == 0) (is_before_windows r) h in (empty r.rounds both.0, before_windows r both.1)

pub before_reports : (r : RecordState) → is_before_reports r ≡ true → IsBeforeReports r
before_reports r h = let both = and_parts (length r.reports == 0) (is_before_rounds r) h in (empty r.reports both.0, before_rounds r both.1)

pub before_changes : (r : RecordState) → is_before_changes r ≡ true → IsBeforeChanges r
before_changes r h = let both = and_parts (length r.sets == 0) (is_before_reports r) h in (empty r.sets both.0, before_reports r both.1)

pub before_limits : (r : RecordState) → is_before_limits r ≡ true → IsBeforeLimits r
before_limits r h = let both = and_parts (length r.limits == 0) (is_before_changes r) h in (empty r.limits both.0, before_changes r both.1)

pub before_members : (r : RecordState) → is_before_members r ≡ true → IsBeforeMembers r
before_members r h = let both = and_parts (length r.groups == 0) (is_before_limits r) h in (empty r.groups both.0, before_limits r both.1)

-- ---- the last of a list

pub ends : {X : Type 0} (xs : List X) → 0 < length xs → (front : List X) × (x : X) × (xs ≡ front ++ x ∷ [])
ends [] some = absurd (omega (arith, some))
ends (x ∷ []) some = ([], x, refl)
ends (x ∷ y ∷ xs) some =
    let (front, z, is) = ends (y ∷ xs) (omega arith) in
    (x ∷ front, z, ap (λ rest. x ∷ rest) is)

last_place : {X : Type 0} (xs : List X) (x : X) → length (xs ++ x ∷ []) - 1 ≡ length xs
last_place xs x = omega (arith, length_push xs x)

pub last_of : {X : Type 0} (xs : List X) (x d : X) → slice_index_or (xs ++ x ∷ []) (length (xs ++ x ∷ []) - 1) d ≡ x
last_of xs x d = rw (last_place xs x) (get_or-append_seam xs x [] d)

pub set_last : {X : Type 0} (xs : List X) (x y : X) → slice_set (xs ++ x ∷ []) (length (xs ++ x ∷ []) - 1) y ≡ xs ++ y ∷ []
set_last xs x y = rw (last_place xs x) (set-append_seam xs x [] y)

pub last_name-of : (front : GroupList) (g : List ℕ × List ℕ) → last_name (front ++ g ∷ []) ≡ g.0
last_name-of front g = ap (λ (h : List ℕ × List ℕ). h.0) (last_of front g ([], []))

pub last_members-of : (front : GroupList) (g : List ℕ × List ℕ) → last_members (front ++ g ∷ []) ≡ g.1
last_members-of front g = ap (λ (h : List ℕ × List ℕ). h.1) (last_of front g ([], []))

pub with_member-last : (front : GroupList) (g : List ℕ × List ℕ) (x : ℕ) → with_member (front ++ g ∷ []) x ≡ front
    ++ (g.0, g.1 ++ x ∷ []) ∷ []
with_member-last front g x =
    let groups = front ++ g ∷ [] in
    ap (λ members. with_entry groups (length groups - 1) (members ++ x ∷ [])) (last_members-of front g)
    ∙ ap (λ (h : List ℕ × List ℕ). slice_set groups (length groups - 1) (h.0, g.1 ++ x ∷ [])) (last_of front g ([], g.1 ++ x ∷ []))
    ∙ set_last front g (g.0, g.1 ++ x ∷ [])

pub last_set-of : (front : List (List Change)) (m : List Change) → last_set (front ++ m ∷ []) ≡ m
last_set-of front m = last_of front m []

pub with_change-last : (front : List (List Change)) (m : List Change) (c : Change) → with_change (front ++ m ∷ []) c ≡ front
    ++ (m ++ c ∷ []) ∷ []
with_change-last front m c =
    ap (λ (s : List Change). slice_set (front ++ m ∷ []) (length (front ++ m ∷ []) - 1) (s ++ c ∷ [])) (last_set-of front m)
    ∙ set_last front m (m ++ c ∷ [])

-- ---- rows of lists that grow

pub counted-push : {X : Type 0} (row : ℕ → X → Row) (i n : ℕ) (xs : List X) (x : X) → n ≡ i + length xs
    → counted row i (xs ++ x ∷ []) ≡ counted row i xs ++ row n x ∷ []
counted-push row i n [] x is = let e : i ≡ n = omega arith in ap (λ k. row k x ∷ []) e
counted-push row i n (y ∷ xs) x is = ap (λ rows. row i y ∷ rows) (counted-push row (i + 1) n xs x (omega arith))

pub member_count-more : (g : List ℕ × List ℕ) (groups : GroupList) → member_count (g ∷ groups) ≡ length g.1 + member_count groups
member_count-more g groups = sum_by-cons (λ (g : List ℕ × List ℕ). length g.1) g groups

pub member_count-append : (groups more : GroupList) → member_count (groups ++ more) ≡ member_count groups + member_count more
member_count-append groups more = sum_by-append (λ (g : List ℕ × List ℕ). length g.1) groups more

pub member_rows-append : (objects : Objects) (i n : ℕ) (groups more : GroupList) → n ≡ i + member_count groups
    → member_rows objects i (groups ++ more) ≡ member_rows objects i groups ++ member_rows objects n more
member_rows-append objects i n [] more is = let e : i ≡ n = omega arith in ap (λ k. member_rows objects k more) e
member_rows-append objects i n (g ∷ groups) more is =
    ap (λ rows. counted (member_row objects g.0) i g.1 ++ rows) (member_rows-append objects (i + length g.1) n groups more
    (omega (arith, is, member_count-more g groups)))
    ∙ sym (append_assoc (counted (member_row objects g.0) i g.1) _ _)

pub change_rows-append : (objects : Objects) (k n : ℕ) (sets more : List (List Change)) → n ≡ k + length sets
    → change_rows objects k (sets ++ more) ≡ change_rows objects k sets ++ change_rows objects n more
change_rows-append objects k n [] more is = let e : k ≡ n = omega arith in ap (λ i. change_rows objects i more) e
change_rows-append objects k n (m ∷ sets) more is =
    ap (λ rows. counted (change_row objects k) 1 m ++ rows) (change_rows-append objects (k + 1) n sets more (omega arith))
    ∙ sym (append_assoc (counted (change_row objects k) 1 m) _ _)

-- a member more of the last group
pub member_rows-grow : (objects : Objects) (front : GroupList) (g : List ℕ × List ℕ) (x n : ℕ) → n ≡ member_count (front ++ g ∷ []) + 1
    → member_rows objects 1 (front ++ (g.0, g.1 ++ x ∷ []) ∷ []) ≡ member_rows objects 1 (front ++ g ∷ [])
    ++ member_row objects g.0 n x ∷ []
member_rows-grow objects front g x n is =
    let count = member_count-append front (g ∷ []) in
    let i = 1 + member_count front in
    member_rows-append objects 1 i front ((g.0, g.1 ++ x ∷ []) ∷ []) refl
    ∙ ap (λ rows. member_rows objects 1 front ++ (rows ++ [])) (counted-push (member_row objects g.0) i n g.1 x (omega arith))
    ∙ rw (member_rows-append objects 1 i front (g ∷ []) refl) (simp (append-nil, append_assoc))

-- the first member of a new group
pub member_rows-new : (objects : Objects) (groups : GroupList) (name : List ℕ) (x n : ℕ) → n ≡ member_count groups + 1
    → member_rows objects 1 (groups ++ (name, x ∷ []) ∷ []) ≡ member_rows objects 1 groups ++ member_row objects name n x ∷ []
member_rows-new objects groups name x n is = member_rows-append objects 1 n groups ((name, x ∷ []) ∷ []) (omega arith)

-- a change more of the last update
pub change_rows-grow : (objects : Objects) (front : List (List Change)) (m : List Change) (c : Change) (k position : ℕ)
    → k ≡ length (front ++ m ∷ []) → position ≡ length m + 1
    → change_rows objects 1 (front ++ (m ++ c ∷ []) ∷ []) ≡ change_rows objects 1 (front ++ m ∷ []) ++ change_row objects k position c ∷ []
change_rows-grow objects front m c k position is at =
    let number : k ≡ 1 + length front = omega (arith, length_push front m) in
    change_rows-append objects 1 k front ((m ++ c ∷ []) ∷ []) number
    ∙ ap (λ rows. change_rows objects 1 front ++ (rows ++ [])) (counted-push (change_row objects k) 1 position m c (omega arith))
    ∙ rw (change_rows-append objects 1 k front (m ∷ []) number) (simp (append-nil, append_assoc))

-- the first change of a new update
pub change_rows-new : (objects : Objects) (sets : List (List Change)) (c : Change) (k : ℕ) → k ≡ length sets + 1
    → change_rows objects 1 (sets ++ (c ∷ []) ∷ []) ≡ change_rows objects 1 sets ++ change_row objects k 1 c ∷ []
change_rows-new objects sets c k is = change_rows-append objects 1 k sets ((c ∷ []) ∷ []) (omega arith)

-- ---- the rows so far, and one more

-- the rows after the first
abbrev pub rows_after : Version → ℕ → RecordState → List Row
rows_after version decided r = drop 1 (rows_so_far version decided r)

module _ (version : Version) (decided : ℕ) (r : RecordState) where
  pub grow_object : (o : List ℕ × ℤ) → IsBeforeMembers r
      → rows_after version decided (record r { objects = r.objects ++ o ∷ [] }) ≡ rows_after version decided r ++ object_row (length r.objects + 1) o ∷ []
  grow_object o (e1, (e2, (e3, (e4, (e5, e6))))) =
      rw (e1, e2, e3, e4, e5, e6, counted-push object_row 1 (length r.objects + 1) r.objects o (omega arith)) (simp append-nil)

  -- other groups, whose rows are one more
  pub grow_groups : (groups : GroupList) (x : Row) → IsBeforeLimits r
      → member_rows r.objects 1 groups ≡ member_rows r.objects 1 r.groups ++ x ∷ []
      → rows_after version decided (record r { groups = groups }) ≡ rows_after version decided r ++ x ∷ []
  grow_groups groups x (e2, (e3, (e4, (e5, e6)))) more = rw (e2, e3, e4, e5, e6, more) (simp (append-nil, append_assoc))

  pub grow_limit : (e : LimitEntry) → IsBeforeChanges r
      → rows_after version decided (record r { limits = r.limits ++ e ∷ [] })
      ≡ rows_after version decided r ++ limit_row version r.objects r.groups (length r.limits + 1) e ∷ []
  grow_limit e (e3, (e4, (e5, e6))) =
      rw (e3, e4, e5, e6, counted-push (limit_row version r.objects r.groups) 1 (length r.limits + 1) r.limits e (omega arith))
      (simp (append-nil, append_assoc))

  -- other updates, whose rows are one more
  pub grow_sets : (sets : List (List Change)) (x : Row) → IsBeforeReports r
      → change_rows r.objects 1 sets ≡ change_rows r.objects 1 r.sets ++ x ∷ []
      → rows_after version decided (record r { sets = sets }) ≡ rows_after version decided r ++ x ∷ []
  grow_sets sets x (e4, (e5, e6)) more = rw (e4, e5, e6, more) (simp (append-nil, append_assoc))

  pub grow_report : (c : ReportChange) → IsBeforeRounds r
      → rows_after version decided (record r { reports = r.reports ++ c ∷ [] }) ≡ rows_after version decided r ++ report_row c ∷ []
  grow_report c (e5, e6) = rw (e5, e6, map-append report_row r.reports (c ∷ [])) (simp (append-nil, append_assoc))

  pub grow_round : (place : ℕ) → IsBeforeWindows r
      → rows_after version decided (record r { rounds = r.rounds ++ place ∷ [] }) ≡ rows_after version decided r
      ++ round_row (length r.rounds + 1) place ∷ []
  grow_round place e6 =
      rw (e6, counted-push round_row 1 (length r.rounds + 1) r.rounds place (omega arith)) (simp (append-nil, append_assoc))

  pub grow_window : (w : Window) → rows_after version decided (record r { windows = r.windows ++ w ∷ [] }) ≡ rows_after version decided r
      ++ window_row (length r.windows + 1) w ∷ []
  grow_window w = rw (counted-push window_row 1 (length r.windows + 1) r.windows w (omega arith)) (simp append_assoc)
