-- The limits in force at a place, and what a span uses of them.
use Rattle.ordup_audit.proofs.Common.{◌+◌, ◌-◌, ◌<◌, ◌≤◌, ◌∙◌, ◌∷◌, ◌≡◌, ◌++◌, [], ap, append-nil, append_assoc, arith, cases_lt}
use Rattle.ordup_audit.proofs.Common.{get_or, GroupList, History, inl, inr, in_force, length, Limit, List, map, option_map, RecordState, refl}
use Rattle.ordup_audit.proofs.Common.{slice_get, Some, None, suc, sym, zero, ℕ, Bool, codes, decimal, history_of, list_any, Objects, Option, report_at, ◌==◌}
use Rattle.std.specs.Prelude.{min, nat_le, fold, if◌then◌else◌, OnOk, Result}
use Rattle.std.specs.List.Sorted.{IsStrictlyIncreasing}
use Rattle.ordup_audit.proofs.Common.{All, All-tail, AllPairs, AllPairs-from_increasing, get_or-map, length-map}
use Rattle.std.proofs.lemmas.List.Elements.{All-head}
use Rattle.ordup_objects.specs.Sizes.{most_updates}
use Rattle.std.proofs.lemmas.Bool.{le-leb, lt-leb}
use Rattle.std.proofs.Common.{add-one}
use Rattle.std.proofs.lemmas.Bool.{cases_eq}
use Rattle.std.proofs.lemmas.Option.{slice_get-get_or, slice_get-map, slice_get_past}
use Rattle.ordup_log.specs.Spans.{span}
use Rattle.ordup_log.specs.declared.scope.Scope.{Scope}
use Rattle.ordup_limits.specs.Entries.{latest}
use Rattle.ordup_limits.specs.Ledgers.{LedgerState, StandsFor}
use Rattle.ordup_limits.specs.Limits.{Limits}
use Rattle.ordup_audit.specs.declared.report_change.ReportChange.{ReportChange}
use Rattle.ordup_lag.specs.declared.offsets.Offsets.{Offsets}
use Rattle.ordup_lag.specs.LagRows.{LimitUse, row_at, use_of, uses_of, window_of}
use Rattle.ordup_lag.specs.Texts.{limit_head, round_text, row_text, rows_upto, scope_head, scope_heads, use_text, uses_text, window_text}

-- a span from after its end is empty, as one from its end is
span-min : (h : History) (groups : GroupList) (s : Scope) (a b : ℕ) → span h groups s (min a b) b ≡ span h groups s a b
span-min h groups s a b = elim (cases_lt b a) [
  | inl lt ↦ (
      let at : min a b ≡ b = omega arith in
      let none : b - a ≡ 0 = omega arith in
      let empty : b - b ≡ 0 = omega arith in
      rw (at, none, empty) refl)
  | inr le ↦ (let at : min a b ≡ a = omega arith in rw at refl)
]

-- a use of this weight and amount
abbrev made : ℕ → ℕ → LimitUse
made weight amount = record { weight = weight; amount = amount }

-- so it uses the same of each limit
pub uses-min : (h : History) (groups : GroupList) (a b : ℕ) (limits : Limits)
    → map (use_of h groups (min a b) b) limits ≡ map (use_of h groups a b) limits
uses-min h groups a b [] = refl
uses-min h groups a b (limit ∷ limits) =
    ap (λ w. made w limit.amount ∷ map (use_of h groups (min a b) b) limits) (span-min h groups limit.scope a b)
    ∙ ap (λ us. use_of h groups a b limit ∷ us) (uses-min h groups a b limits)

-- the cells of a use, where it is that of the limit with this index
pub use_there : (new old : List ℕ) (l : LedgerState) (i weight amount : ℕ) (d : Limit)
    → new ≡ old ++ use_text (Some (made weight amount)) → i < length l.limits → amount ≡ (get_or l.limits i d).amount
    → ((h : History) (groups : GroupList) (e : Limit) → StandsFor l h groups
    → weight ≡ span h groups (get_or l.limits i e).scope l.reported l.extended)
    → (h : History) (groups : GroupList) → StandsFor l h groups → new ≡ old ++ use_text (slice_get (uses_of l h groups) i)
use_there new old l i weight amount d is lt same weighs h groups stands =
    is ∙ ap (λ u. old ++ use_text u)
    (ap (λ w. Some (made w amount)) (weighs h groups d stands)
    ∙ ap (λ n. Some (made (span h groups (get_or l.limits i d).scope l.reported l.extended) n)) same
    ∙ sym (slice_get-map (use_of h groups l.reported l.extended) l.limits i
    ∙ ap (option_map (use_of h groups l.reported l.extended)) (slice_get-get_or l.limits i d lt)))

-- the cells of no use, where there is no such limit
pub use_none : (new old : List ℕ) (l : LedgerState) (i : ℕ) → new ≡ old ++ use_text None → length l.limits ≤ i
    → (h : History) (groups : GroupList) → StandsFor l h groups → new ≡ old ++ use_text (slice_get (uses_of l h groups) i)
use_none new old l i is past h groups stands =
    is ∙ ap (λ u. old ++ use_text u)
    (sym (slice_get-map (use_of h groups l.reported l.extended) l.limits i
    ∙ ap (option_map (use_of h groups l.reported l.extended)) (slice_get_past l.limits i past)))

-- the cells of one limit more
pub uses_next : (old now next : List ℕ) (l : LedgerState) (n : ℕ)
    → ((h : History) (groups : GroupList) → StandsFor l h groups → now ≡ old ++ uses_text (uses_of l h groups) n)
    → ((h : History) (groups : GroupList) → StandsFor l h groups → next ≡ now ++ use_text (slice_get (uses_of l h groups) n))
    → (h : History) (groups : GroupList) → StandsFor l h groups → next ≡ old ++ uses_text (uses_of l h groups) (n + 1)
uses_next old now next l n before more h groups stands =
    more h groups stands ∙ ap (λ t. t ++ use_text (slice_get (uses_of l h groups) n)) (before h groups stands)
    ∙ append_assoc old (uses_text (uses_of l h groups) n) (use_text (slice_get (uses_of l h groups) n))
    ∙ rw (add-one n) refl

-- ---- what the site had reported, place by place

-- reports from one on that no later one falls below
abbrev report_from : ℕ → List ReportChange → ℕ → ℕ
report_from first changes k = fold (λ reported c. if nat_le c.place k then c.reported else reported) first changes

-- the report at the decision of a later place is no lower
report_from-rises : (a b : ℕ) (changes : List ReportChange) (j k : ℕ) → j ≤ k → a ≤ b
    → ((i : ℕ) (d : ReportChange) → i < length changes → a ≤ (get_or changes i d).reported)
    → AllPairs (λ (x y : ReportChange). x.reported < y.reported) changes
    → report_from a changes j ≤ report_from b changes k
report_from-rises a b [] j k le less low rise = less
report_from-rises a b (c ∷ changes) j k le less low rise =
    let rest : AllPairs (λ (x y : ReportChange). x.reported < y.reported) changes =
    λ i m d lt there. rise (suc i) (suc m) d (omega arith) (omega arith) in
    let later : (i : ℕ) (d : ReportChange) → i < length changes → c.reported ≤ (get_or changes i d).reported =
    λ i d lt. omega (arith, rise 0 (suc i) d (omega arith) (omega arith)) in
    elim (cases_lt k c.place) [
      | inl after ↦ rw (lt-leb c.place k after, lt-leb c.place j (omega arith))
          (report_from-rises a b changes j k le less (λ i d lt. low (suc i) d (omega arith)) rest)
      | inr here ↦ elim (cases_lt j c.place) [
        | inl after ↦ rw (le-leb c.place k here, lt-leb c.place j after)
            (report_from-rises a c.reported changes j k le (low 0 c (omega arith)) (λ i d lt. low (suc i) d (omega arith)) rest)
        | inr also ↦ rw (le-leb c.place k here, le-leb c.place j also)
            (report_from-rises c.reported c.reported changes j k le (omega arith) later rest)
      ]
    ]

-- the reports of the changes rise
reports-rise : (changes : List ReportChange) → IsStrictlyIncreasing (map (λ (c : ReportChange). c.reported) changes)
    → AllPairs (λ (x y : ReportChange). x.reported < y.reported) changes
reports-rise changes rise i j d lt there =
    let reports = map (λ (c : ReportChange). c.reported) changes in
    let pairs : AllPairs (λ x y. x < y) reports = AllPairs-from_increasing reports rise in
    let last : j < length reports = rw (length-map changes (λ (c : ReportChange). c.reported)) there in
    let before : get_or reports i d.reported < get_or reports j d.reported = pairs i j d.reported lt last in
    let first : get_or reports i d.reported ≡ (get_or changes i d).reported =
    get_or-map (λ (c : ReportChange). c.reported) changes i d d.reported (omega arith) in
    let second : get_or reports j d.reported ≡ (get_or changes j d).reported =
    get_or-map (λ (c : ReportChange). c.reported) changes j d d.reported there in
    omega arith

-- so what the site had reported at the decision of the next place is no less
pub report_at-rises : (changes : List ReportChange) (k : ℕ) → IsStrictlyIncreasing (map (λ (c : ReportChange). c.reported) changes)
    → report_at changes k ≤ report_at changes (k + 1)
report_at-rises changes k rise =
    report_from-rises 0 0 changes k (k + 1) (omega arith) (omega arith) (λ i d lt. omega arith) (reports-rise changes rise)

-- and never more than a record may tell
reports-few : (first most : ℕ) (changes : List ReportChange) (k : ℕ) → first ≤ most
    → All (λ (c : ReportChange). (0 < c.reported) × (c.reported ≤ most)) changes
    → report_from first changes k ≤ most
reports-few first most [] k le each = le
reports-few first most (c ∷ changes) k le each =
    let rest = All-tail (λ (c : ReportChange). (0 < c.reported) × (c.reported ≤ most)) c changes each in
    elim (cases_lt k c.place) [
      | inl after ↦ rw (lt-leb c.place k after) (reports-few first most changes k le rest)
      | inr here ↦ rw (le-leb c.place k here)
          (reports-few c.reported most changes k (All-head (λ (c : ReportChange). (0 < c.reported) × (c.reported ≤ most)) c changes each).1 rest)
    ]

pub report_at-few : (changes : List ReportChange) (k : ℕ) → All (λ (c : ReportChange). (0 < c.reported) × (c.reported ≤ most_updates)) changes
    → report_at changes k ≤ most_updates
report_at-few changes k each = reports-few 0 most_updates changes k (omega arith) each

heads-more : (objects : Objects) (groups : GroupList) (limits : Limits) (n : ℕ)
    → scope_heads objects groups limits n ++ limit_head objects groups (slice_get limits n) ≡ scope_heads objects groups limits (n + 1)
heads-more objects groups limits n = rw (add-one n) refl

-- the names of the columns of one limit more
pub heads-next : (objects : Objects) (groups : GroupList) (limits : Limits) (n amount : ℕ) (s : Scope)
    → slice_get limits n ≡ Some (record { scope = s; amount = amount })
    → scope_heads objects groups limits n ++ scope_head objects groups s ≡ scope_heads objects groups limits (n + 1)
heads-next objects groups limits n amount s at =
    ap (λ o. scope_heads objects groups limits n ++ limit_head objects groups o) (sym at) ∙ heads-more objects groups limits n

-- the lines up to a place are a prefix of those up to a later one
pub upto-front : (before : Offsets) (r : RecordState) (k n : ℕ) → k ≤ n → (more : List ℕ) × (rows_upto before r n ≡ rows_upto before r k ++ more)
upto-front before r k zero le = (let none : k ≡ 0 = omega arith in rw none ([], refl))
upto-front before r k (suc n) le = elim (cases_eq k (suc n)) [
  | inl same ↦ rw same ([], sym (append-nil (rows_upto before r (suc n))))
  | inr other ↦ (
      let rest = upto-front before r k n (omega arith) in
      let row = row_text (length (latest r.limits)) (row_at before r (suc n)) in (
        rest.0 ++ row,
        ap (λ t. t ++ row) rest.1 ∙ append_assoc (rows_upto before r k) rest.0 row,
      ))
]

-- the lines of one place more
pub upto-next : (before : Offsets) (r : RecordState) (k : ℕ)
    → rows_upto before r k ++ row_text (length (latest r.limits)) (row_at before r (k + 1)) ≡ rows_upto before r (k + 1)
upto-next before r k = rw (add-one k) refl

parts_of_row : (a b c d e f : List ℕ) → ((((a ++ b) ++ c) ++ d) ++ e) ++ f ≡ a ++ (b ++ (c ++ (d ++ (e ++ f))))
parts_of_row a b c d e f = simp append_assoc

-- the line of a place, cell by cell
pub row_written : {T E : Type 0} (result : Result T E) (before : Offsets) (r : RecordState) (k n from reported : ℕ) (limits : Limits)
    (is : Bool) (window : Option ℕ) (old t1 t2 t3 t4 t5 : List ℕ)
    → from ≡ min reported k → reported ≡ report_at r.reports k → limits ≡ in_force r.limits k
    → is ≡ list_any (λ p. p == k) r.rounds → window ≡ option_map (λ i. before.windows + i) (window_of r k)
    → t1 ≡ old ++ decimal (before.places + k) → t2 ≡ t1 ++ (codes "," ++ decimal (before.places + reported))
    → t3 ≡ t2 ++ uses_text (map (use_of (history_of r) r.groups from k) limits) n
    → t4 ≡ t3 ++ round_text is
    → OnOk result (t5 ≡ t4 ++ window_text window)
    → OnOk result (t5 ≡ old ++ row_text n (row_at before r k))
row_written result before r k n from reported limits is window old t1 t2 t3 t4 t5 at told force round in_window e1 e2 e3 e4 last =
    let whole : t4 ++ window_text window ≡ old ++ row_text n (row_at before r k) =
    rw (e4, e3, e2, e1, at, force, round, in_window, told, uses-min (history_of r) r.groups (report_at r.reports k) k (in_force r.limits k))
    (parts_of_row old (decimal (before.places + k)) (codes "," ++ decimal (before.places + report_at r.reports k))
    (uses_text (map (use_of (history_of r) r.groups (report_at r.reports k) k) (in_force r.limits k)) n)
    (round_text (list_any (λ p. p == k) r.rounds)) (window_text (option_map (λ i. before.windows + i) (window_of r k)))) in
    rw whole at last
