-- What is taken of a row: the rows so far are one more, and what is kept of a record is kept.
use Rattle.ordup_audit.proofs.Common.{◌++◌, ◌+◌, ◌<◌, ◌∙◌, ◌∷◌, ◌≡◌, ◌≤◌, ◌⊎◌, [], All-push, and_parts, ap, AreGroups}
use Rattle.ordup_audit.proofs.Common.{AreKnown, AreReportChanges, AreRoundPlaces, arith, Bool, bytes_eq, cases_Bool, Change, codes}
use Rattle.ordup_audit.proofs.Common.{decimal, eqb-true, false, group_refusal, GroupList, if◌then◌else◌, inl, inr, IsKnown}
use Rattle.ordup_audit.proofs.Common.{IsSet, last_members, leb-true, length, length_push, List}
use Rattle.ordup_audit.proofs.Common.{ltb-true, map, map-append, member_refusal, most_updates, most_windows, nat_lt, None}
use Rattle.ordup_audit.proofs.Common.{index_of, Objects, Option, RecordState, refl, set_refusal, Some, subst, sym, true}
use Rattle.ordup_audit.proofs.Common.{Window, with_member, ℕ}
use Rattle.ordup_grammar.specs.Numbers.{number_of}
use Rattle.ordup_grammar.proofs.Decimals.{signed_decimal-number_of}
use Rattle.ordup_limits.specs.Entries.{entry_of}
use Rattle.ordup_audit.specs.Rows.{member_count}
use Rattle.ordup_audit.specs.declared.report_change.ReportChange.{ReportChange}
use Rattle.ordup_rows.specs.Columns.{Columns, amount_by, change_by, natural_of, scope_of, writes}
use Rattle.ordup_rows.specs.RowKinds.{kind_text}
use Rattle.ordup_rows.specs.Rows.{Row, change_row, change_rows, change_text, first_row, member_row, member_rows, rows_so_far}
use Rattle.ordup_rows.specs.Stages.{last_number, has_updates, is_before_reports}
use Rattle.ordup_rows.specs.Stages.{is_last_group, last_name, last_set}
use Rattle.ordup_rows.specs.Stages.{membership_refusal, with_change, with_change_row, with_first_change}
use Rattle.ordup_rows.specs.Stages.{with_limit, with_member_row, with_membership, with_next_change, with_object, with_report, with_round}
use Rattle.ordup_rows.specs.Stages.{with_row, with_window}
use Rattle.ordup_rows.specs.declared.row_kind.RowKind.{RowKind}
use Rattle.ordup_rows.specs.declared.row_kind.RowKind.TheVariants as kind
use Rattle.ordup_rows.specs.declared.version.Version.{Version}
use Rattle.ordup_rows.proofs.Columns.{bound, kept, name_found, natural_spelled, parts_3, parts_4, same_bytes, written}
use Rattle.ordup_rows.proofs.Growth.{before_changes, before_limits, before_members, before_reports, before_rounds, before_windows}
use Rattle.ordup_rows.proofs.Growth.{change_rows-grow, change_rows-new, ends, grow_groups, grow_limit, grow_object, grow_report, grow_round}
use Rattle.ordup_rows.proofs.Growth.{grow_sets, grow_window, rows_after, last_members-of, last_name-of, last_set-of, member_rows-grow}
use Rattle.ordup_rows.proofs.Growth.{member_rows-new, with_change-last, with_member-last}
use Rattle.ordup_rows.proofs.Refusals.{entry_taken, group_taken, member_taken, none_is, object_taken, set_taken}
use Rattle.ordup_rows.proofs.RecordsSoFar.{AreGroups-grow, AreGroups-none, AreGroups-push, AreLimits-none, AreLimits-push, AreObjects-push}
use Rattle.ordup_rows.proofs.RecordsSoFar.{AreSetsSoFar, AreWindowsSoFar}
use Rattle.ordup_rows.proofs.RecordsSoFar.{HasGroup, IsRecordSoFar, all_at, all_front, all_none, increasing-push, so_far_by_parts}
use Rattle.ordup_rows.proofs.Versions.{amount_spelled, can_tell-read}
use Rattle.ordup_rows.proofs.Words.{change_spelled, scope_spelled}

either : {A : Type 0} (b : Bool) (o p : Option A) (y : A) → (if b then o else p) ≡ Some y
    → ((b ≡ true) × (o ≡ Some y)) ⊎ ((b ≡ false) × (p ≡ Some y))
either true o p y h = inl (refl, h)
either false o p y h = inr (refl, h)

-- a record with a row more
pub record Takes (version : Version) (decided : ℕ) (r : RecordState) (row : Row) (next : RecordState) : Type 0 where
  pub is : IsRecordSoFar version decided next
  pub rows : rows_so_far version decided next ≡ rows_so_far version decided r ++ row ∷ []

abbrev pub row_by : Columns → Row
row_by c = c.kind ∷ c.first ∷ c.second ∷ c.third ∷ []

-- the groups with a member of a row: they are groups, and their rows are one more
record Joins (objects : Objects) (old : GroupList) (name : List ℕ) (x : ℕ) (more : GroupList) : Type 0 where
  groups : AreGroups (length objects) more
  rows : member_rows objects 1 more ≡ member_rows objects 1 old ++ member_row objects name (member_count old + 1) x ∷ []

join_last : (objects : Objects) (front : GroupList) (g : List ℕ × List ℕ) (name : List ℕ) (x : ℕ)
    → AreGroups (length objects) (front ++ g ∷ [])
    → bytes_eq name (last_name (front ++ g ∷ [])) ≡ true → member_refusal (length objects) (last_members (front ++ g ∷ [])) x ≡ None
    → Joins objects (front ++ g ∷ []) name x (with_member (front ++ g ∷ []) x)
join_last objects front g name x are same free =
    let called : name ≡ g.0 = same_bytes name g.0 (ap (bytes_eq name) (sym (last_name-of front g)) ∙ same) in
    let allowed : member_refusal (length objects) g.1 x ≡ None =
    ap (λ members. member_refusal (length objects) members x) (sym (last_members-of front g)) ∙ free in
    let new = member_taken (length objects) g.1 x (all_at HasGroup front g [] are.each).few allowed in
    subst (Joins objects (front ++ g ∷ []) name x) (sym (with_member-last front g x)) (record {
      groups = AreGroups-grow (length objects) front g x are new;
      rows = member_rows-grow objects front g x (member_count (front ++ g ∷ []) + 1) refl
          ∙ ap (λ n. member_rows objects 1 (front ++ g ∷ []) ++ member_row objects n (member_count (front ++ g ∷ []) + 1) x ∷ [])
          (sym called);
    })

join : (objects : Objects) (groups : GroupList) (name : List ℕ) (x : ℕ) → AreGroups (length objects) groups
    → membership_refusal (length objects) groups name x ≡ None → Joins objects groups name x (with_membership groups name x)
join objects groups name x are free = elim (cases_Bool (is_last_group groups name)) [
  | inl last ↦ (let (some, same) = and_parts (nat_lt 0 (length groups)) (bytes_eq name (last_name groups)) last in
      let (front, g, e) = ends groups (ltb-true 0 (length groups) some) in
      let allowed : member_refusal (length objects) (last_members groups) x ≡ None = rw last at free in
      let P : GroupList → Type 0 = λ l. AreGroups (length objects) l → bytes_eq name (last_name l) ≡ true
      → member_refusal (length objects) (last_members l) x ≡ None → Joins objects l name x (with_member l x) in
      rw last (subst P (sym e) (join_last objects front g name x) are same allowed))
  | inr other ↦ (let allowed : group_refusal (length objects) groups name (x ∷ []) ≡ None = rw other at free in
      let joined : Joins objects groups name x (groups ++ (name, x ∷ []) ∷ []) = record {
        groups = AreGroups-push (length objects) groups name (x ∷ []) are
            (group_taken (length objects) groups name (x ∷ []) are.few allowed);
        rows = member_rows-new objects groups name x (member_count groups + 1) refl;
      } in
      rw other joined)
]

-- the updates with a change of a row
record Changes (decided : ℕ) (objects : Objects) (old : List (List Change)) (row : Row) (more : List (List Change)) : Type 0 where
  sets : AreSetsSoFar decided (length objects) more
  rows : change_rows objects 1 more ≡ change_rows objects 1 old ++ row ∷ []

change_first : (decided : ℕ) (objects : Objects) (sets : List (List Change)) (c : Change) → AreSetsSoFar decided (length objects) sets
    → length sets < decided → set_refusal (length objects) (c ∷ []) ≡ None
    → Changes decided objects sets (change_row objects (length sets + 1) 1 c) (sets ++ (c ∷ []) ∷ [])
change_first decided objects sets c are spare free =
    let (set, known) = set_taken (length objects) (c ∷ []) free in
    record {
      sets = record {
        count = omega (arith, length_push sets (c ∷ []));
        each = All-push IsSet sets (c ∷ []) are.each set;
        known = All-push (AreKnown (length objects)) sets (c ∷ []) are.known known;
      };
      rows = change_rows-new objects sets c (length sets + 1) refl;
    }

change_last : (decided : ℕ) (objects : Objects) (front : List (List Change)) (m : List Change) (c : Change)
    → AreSetsSoFar decided (length objects) (front ++ m ∷ []) → set_refusal (length objects) (last_set (front ++ m ∷ []) ++ c ∷ []) ≡ None
    → Changes decided objects (front ++ m ∷ []) (change_row objects (length (front ++ m ∷ [])) (length (last_set (front ++ m ∷ [])) + 1) c)
    (with_change (front ++ m ∷ []) c)
change_last decided objects front m c are free =
    let last = last_set-of front m in
    let allowed : set_refusal (length objects) (m ++ c ∷ []) ≡ None =
    ap (λ (s : List Change). set_refusal (length objects) (s ++ c ∷ [])) (sym last) ∙ free in
    let (set, known) = set_taken (length objects) (m ++ c ∷ []) allowed in
    let row = change_row objects (length (front ++ m ∷ [])) (length (last_set (front ++ m ∷ [])) + 1) c in
    subst (Changes decided objects (front ++ m ∷ []) row) (sym (with_change-last front m c)) (record {
      sets = record {
        count = omega (arith, are.count, length_push front m, length_push front (m ++ c ∷ []));
        each = All-push IsSet front (m ++ c ∷ []) (all_front IsSet front (m ∷ []) are.each) set;
        known = All-push (AreKnown (length objects)) front (m ++ c ∷ [])
            (all_front (AreKnown (length objects)) front (m ∷ []) are.known) known;
      };
      rows = change_rows-grow objects front m c (length (front ++ m ∷ [])) (length (last_set (front ++ m ∷ [])) + 1) refl
          (ap (λ (s : List Change). length s + 1) last);
    })

-- a change that is not the first of its update has an update to go to
has_last : (sets : List (List Change)) (column : List ℕ) → writes column 1 ≡ false → writes column (length (last_set sets) + 1) ≡ true
    → 0 < length sets
has_last [] column other position = absurd (cc)
has_last (m ∷ sets) column other position = omega arith

change_next : (decided : ℕ) (objects : Objects) (sets : List (List Change)) (c : Change) → AreSetsSoFar decided (length objects) sets
    → 0 < length sets → set_refusal (length objects) (last_set sets ++ c ∷ []) ≡ None
    → Changes decided objects sets (change_row objects (length sets) (length (last_set sets) + 1) c) (with_change sets c)
change_next decided objects sets c are some free =
    let (front, m, e) = ends sets some in
    let P : List (List Change) → Type 0 = λ l. AreSetsSoFar decided (length objects) l
    → set_refusal (length objects) (last_set l ++ c ∷ []) ≡ None
    → Changes decided objects l (change_row objects (length l) (length (last_set l) + 1) c) (with_change l c) in
    subst P (sym e) (change_last decided objects front m c) are free

module _ (version : Version) (decided : ℕ) (r : RecordState) (is : IsRecordSoFar version decided r) (c : Columns) where
  -- a row of these columns is taken
  taken : (q next : RecordState) (k x y z : List ℕ) → q.site ≡ r.site → q ≡ next → c.kind ≡ k → c.first ≡ x → c.second ≡ y → c.third ≡ z
      → rows_after version decided q ≡ rows_after version decided r ++ (k ∷ x ∷ y ∷ z ∷ []) ∷ [] → IsRecordSoFar version decided q
      → Takes version decided r (row_by c) next
  taken q next k x y z site same e1 e2 e3 e4 rows so_far = subst (Takes version decided r (row_by c)) same (record {
    is = so_far;
    rows = rw (site, e1, e2, e3, e4) (ap (λ rows. first_row version r.site decided ∷ rows) rows);
  })

  -- ---- objects
  take_object : (next : RecordState) → c.kind ≡ codes "object" → with_object r c ≡ Some next → Takes version decided r (row_by c) next
  take_object next kind h =
      let (value, read, rest) = bound _ (number_of c.third) next h in
      let (tests, same) = kept _ _ next rest in
      let (before, count, free) = parts_3 tests in
      let new = object_taken r.objects c.second value is.objects.few (none_is _ free) in
      let none = before_members r before in
      let n = length (r.objects ++ (c.second, value) ∷ []) in
      taken _ next _ _ _ _ refl same kind (written c.first _ count) refl (signed_decimal-number_of c.third value read).1
      (grow_object version decided r (c.second, value) none)
      (so_far_by_parts is.site is.updates (AreObjects-push r.objects c.second value is.objects new) (AreGroups-none n r.groups none.0)
      (AreLimits-none version decided n r.groups r.limits none.1.0)
      (record { count = is.sets.count; each = is.sets.each; known = all_none (AreKnown n) r.sets none.1.1.0 })
      is.reports is.rounds is.windows (inl (omega (arith, length_push r.objects (c.second, value)))) is.full)

  -- ---- members
  take_member : (next : RecordState) → c.kind ≡ codes "member" → with_member_row r c ≡ Some next → Takes version decided r (row_by c) next
  take_member next kind h =
      let (x, found, rest) = bound _ (index_of c.third r.objects) next h in
      let (tests, same) = kept _ _ next rest in
      let (before, count, free) = parts_3 tests in
      let none = before_limits r before in
      let named = name_found c.third r.objects x found in
      let joined = join r.objects r.groups c.second x is.groups (none_is _ free) in
      let groups = with_membership r.groups c.second x in
      taken _ next _ _ _ _ refl same kind (written c.first _ count) refl (sym named.1) (grow_groups version decided r groups _ none joined.rows)
      (so_far_by_parts is.site is.updates is.objects joined.groups
      (AreLimits-none version decided (length r.objects) groups r.limits none.0)
      is.sets is.reports is.rounds is.windows (inl (omega (arith, named.0))) is.full)

  -- ---- limits
  take_limit : (next : RecordState) → c.kind ≡ codes "limit" → with_limit version decided r c ≡ Some next
      → Takes version decided r (row_by c) next
  take_limit next kind h =
      let (scope, spelled, rest) = bound _ (scope_of r.objects r.groups c.second) next h in
      let (limit, read, rest2) = bound _ (amount_by version c.third) next rest in
      let (tests, same) = kept _ _ next rest2 in
      let (front, free) = and_parts _ _ tests in
      let (some, before, count, may) = parts_4 front in
      let e = entry_of scope limit.0 limit.1 in
      let new = entry_taken (length r.objects) r.groups decided r.limits e may (none_is _ free) in
      taken _ next _ _ _ _ refl same kind (written c.first _ count) (scope_spelled r.objects r.groups c.second scope spelled)
      (amount_spelled version c.third limit scope read) (grow_limit version decided r e (before_changes r before))
      (so_far_by_parts is.site is.updates is.objects is.groups
      (AreLimits-push version decided (length r.objects) r.groups r.limits e is.limits new (can_tell-read version c.third limit read))
      is.sets is.reports is.rounds is.windows (inl (ltb-true 0 (length r.objects) some)) is.full)

  -- ---- changes
  changed : (next : RecordState) (k x y z : List ℕ) (sets : List (List Change)) → c.kind ≡ k → c.first ≡ x → c.second ≡ y → c.third ≡ z
      → is_before_reports r ≡ true → 0 < length r.objects
      → Changes decided r.objects r.sets (k ∷ x ∷ y ∷ z ∷ []) sets → record r { sets = sets } ≡ next → Takes version decided r (row_by c) next
  changed next k x y z sets e1 e2 e3 e4 before some more same =
      let none = before_reports r before in
      taken (record r { sets = sets }) next k x y z refl same e1 e2 e3 e4 (grow_sets version decided r sets _ none more.rows)
      (so_far_by_parts is.site is.updates is.objects is.groups is.limits more.sets is.reports is.rounds is.windows
      (inl some) (inr none))

  take_first_change : (change : Change) (next : RecordState) → c.kind ≡ codes "change" → c.second ≡ decimal 1
      → c.third ≡ change_text r.objects change
      → with_first_change decided r c change ≡ Some next → Takes version decided r (row_by c) next
  take_first_change change next kind position text h =
      let (tests, same) = kept _ _ next h in
      let (before, spare, count, free) = parts_4 tests in
      let allowed = none_is _ free in
      let known = ((set_taken (length r.objects) (change ∷ []) allowed).1 0 change (omega arith)).0 in
      changed next _ _ _ _ _ kind (written c.first _ count) position text before (omega (arith, known))
      (change_first decided r.objects r.sets change is.sets (ltb-true _ _ spare) allowed) same

  take_next_change : (change : Change) (next : RecordState) → c.kind ≡ codes "change" → writes c.second 1 ≡ false
      → c.third ≡ change_text r.objects change
      → with_next_change r c change ≡ Some next → Takes version decided r (row_by c) next
  take_next_change change next kind other text h =
      let (tests, same) = kept _ _ next h in
      let (before, count, position, free) = parts_4 tests in
      let allowed = none_is _ free in
      let known =
      (all_at (IsKnown (length r.objects)) (last_set r.sets) change [] (set_taken (length r.objects) _ allowed).1).0 in
      changed next _ _ _ _ _ kind (written c.first _ count) (written c.second _ position) text before (omega (arith, known))
      (change_next decided r.objects r.sets change is.sets (has_last r.sets c.second other position) allowed) same

  take_change : (next : RecordState) → c.kind ≡ codes "change" → with_change_row decided r c ≡ Some next → Takes version decided r (row_by c) next
  take_change next kind h =
      let (change, spelled, rest) = bound _ (change_by r.objects c.third) next h in
      let text = change_spelled r.objects c.third change spelled in
      elim (either (writes c.second 1) _ _ next rest) [
        | inl first ↦ take_first_change change next kind (written c.second 1 first.0) text first.1
        | inr other ↦ take_next_change change next kind other.0 text other.1
      ]

  -- ---- reports, rounds and windows
  updated : has_updates decided r ≡ true → (0 < length r.objects) × (length r.sets ≡ decided)
  updated h =
      let (some, all) = and_parts _ _ h in
      (ltb-true 0 (length r.objects) some, eqb-true (length r.sets) decided all)

  -- what only the last lists of a record may change
  last_parts : (reports : List ReportChange) (rounds : List ℕ) (windows : List Window)
      → (0 < length r.objects) × (length r.sets ≡ decided) → AreReportChanges decided reports → AreRoundPlaces decided rounds
      → AreWindowsSoFar decided windows → IsRecordSoFar version decided (record r { reports = reports; rounds = rounds; windows = windows })
  last_parts reports rounds windows (some, all) a b c =
      so_far_by_parts is.site is.updates is.objects is.groups is.limits is.sets a b c (inl some) (inl all)

  take_report : (next : RecordState) → c.kind ≡ codes "report" → with_report decided r c ≡ Some next → Takes version decided r (row_by c) next
  take_report next kind h =
      let (place, read, rest) = bound _ (natural_of c.first) next h in
      let (reported, read2, rest2) = bound _ (natural_of c.second) next rest in
      let (tests, same) = kept _ _ next rest2 in
      let places = map (λ (c : ReportChange). c.place) r.reports in
      let numbers = map (λ (c : ReportChange). c.reported) r.reports in
      let (may, dash) = and_parts _ _ tests in
      let (place_may, within, rises, few) = parts_4 may in
      let (all, before, later) = parts_3 place_may in
      let l : ReportChange = record { place = place; reported = reported } in
      let after = ltb-true (last_number places) place later in
      let above = ltb-true (last_number numbers) reported rises in
      taken _ next _ _ _ _ refl same kind (natural_spelled c.first place read).1 (natural_spelled c.second reported read2).1
      (same_bytes c.third _ dash) (grow_report version decided r l (before_rounds r before))
      (last_parts (r.reports ++ l ∷ []) r.rounds r.windows (updated all) (record {
        places = rw map-append (increasing-push places place is.reports.places after);
        each = All-push (λ (c : ReportChange). (0 < c.place) × (c.place ≤ decided)) r.reports l is.reports.each
            (omega (arith, after), leb-true place decided within);
        rising = rw map-append (increasing-push numbers reported is.reports.rising above);
        reported = All-push (λ (c : ReportChange). (0 < c.reported) × (c.reported ≤ most_updates)) r.reports l is.reports.reported
            (omega (arith, above), leb-true reported most_updates few);
      }) is.rounds is.windows)

  take_round : (next : RecordState) → c.kind ≡ codes "round" → with_round decided r c ≡ Some next → Takes version decided r (row_by c) next
  take_round next kind h =
      let (place, read, rest) = bound _ (natural_of c.second) next h in
      let (tests, same) = kept _ _ next rest in
      let (may, dash, count) = parts_3 tests in
      let (all, before, later, within) = parts_4 may in
      let after = ltb-true (last_number r.rounds) place later in
      taken _ next _ _ _ _ refl same kind (written c.first _ count) (natural_spelled c.second place read).1 (same_bytes c.third _ dash)
      (grow_round version decided r place (before_windows r before))
      (last_parts r.reports (r.rounds ++ place ∷ []) r.windows (updated all) is.reports (record {
        ascending = increasing-push r.rounds place is.rounds.ascending after;
        each = All-push (λ k. (0 < k) × (k ≤ decided)) r.rounds place is.rounds.each
            (omega (arith, after), leb-true place decided within);
      }) is.windows)

  take_window : (next : RecordState) → c.kind ≡ codes "window" → with_window decided r c ≡ Some next → Takes version decided r (row_by c) next
  take_window next kind h =
      let (from, read, rest) = bound _ (natural_of c.second) next h in
      let (to, read2, rest2) = bound _ (natural_of c.third) next rest in
      let (tests, same) = kept _ _ next rest2 in
      let (front, end) = and_parts _ _ tests in
      let (all, count, spare, start) = parts_4 front in
      let w : Window = record { from = from; to = to } in
      taken _ next _ _ _ _ refl same kind (written c.first _ count) (natural_spelled c.second from read).1
      (natural_spelled c.third to read2).1 (grow_window version decided r w)
      (last_parts r.reports r.rounds (r.windows ++ w ∷ []) (updated all) is.reports is.rounds (record {
        few = omega (arith, ltb-true (length r.windows) most_windows spare, length_push r.windows w);
        each = All-push (λ (w : Window). (w.from ≤ decided) × (w.to ≤ decided)) r.windows w is.windows.each
            (leb-true from decided start, leb-true to decided end);
      }))

  -- ---- any row
  pub take_row : (kind : RowKind) (next : RecordState) → c.kind ≡ kind_text kind → with_row version decided r kind c ≡ Some next
      → Takes version decided r (row_by c) next
  take_row kind.Object next e h = take_object next e h
  take_row kind.Member next e h = take_member next e h
  take_row kind.Limit next e h = take_limit next e h
  take_row kind.Change next e h = take_change next e h
  take_row kind.Report next e h = take_report next e h
  take_row kind.Round next e h = take_round next e h
  take_row kind.Window next e h = take_window next e h
