-- A text that ends in a row that is too long is read as the rows before it, and one that no record has.
use Rattle.ordup_audit.proofs.Common.{◌*◌, ◌+◌, ◌++◌, ◌-◌, ◌<◌, ◌==◌, ◌||◌, ◌∙◌, ◌∷◌, ◌≡◌, ◌≤◌, ◌⊎◌, [], All, ap, append_assoc, arith, Bool, cases_Bool}
use Rattle.ordup_audit.proofs.Common.{cases_lt, false, if◌then◌else◌, inl, inr, length, length-append, length_push, List, nat_tests, None, Option}
use Rattle.ordup_audit.proofs.Common.{refl, same_Some, Some, subst, sym, take, take-append-le, take_all, true, ℕ}
use Rattle.std.proofs.lemmas.Bool.{eqb-true}
use Rattle.std.proofs.Common.{drop}
use Rattle.std.specs.List.{join_with_byte}
use Rattle.csv.specs.Machine.{Read, field_after, fields_after, in_field, is_end, next_record, start_field, start_record, step}
use Rattle.csv.specs.Reading.{Reached, default_config, strip_bom}
use Rattle.csv.specs.declared.parser.Action.{Action}
use Rattle.csv.specs.declared.parser.Action.TheVariants as act
use Rattle.csv.specs.declared.parser.State.{State}
use Rattle.csv.specs.declared.parser.State.TheVariants as st
use Rattle.ordup_rows.specs.Rows.{Row, row_line}
use Rattle.ordup_rows.specs.Stages.{Stage}
use Rattle.ordup_rows.specs.Telling.{BeginARecord, IsBadRow}
use Rattle.ordup_rows.specs.Texts.{BeginsWithRows, HasRows, IsMalformedAt}
use Rattle.ordup_rows.proofs.Beginnings.{taken_rows_begin_a_record}
use Rattle.ordup_rows.proofs.PlainLemmas.{IsLine, all_lines}
use Rattle.ordup_rows.proofs.RecordsSoFar.{all_at}
use Rattle.ordup_check.specs.Reading.{IsTaken}
use Rattle.ordup_check.specs.ShortRows.{at_edge, ends_at_long_row, from_row, in_column, left_after, is_row, most_row_bytes, state_after}
use Rattle.ordup_check.proofs.LimitLemmas.{not_a, not_ab}
use Rattle.ordup_check.proofs.SameRows.{first_of_all}
use Rattle.ordup_check.specs.declared.short_rows.RowState.{RowState}
use Rattle.ordup_check.specs.declared.short_rows.RowState.TheVariants as at

-- ---- the places are the states of csv

abbrev row_state_of : State → RowState
row_state_of st.StartRecord = at.Row
row_state_of st.AfterCr = at.Row
row_state_of st.StartField = at.Edge
row_state_of st.AfterQuote = at.Edge
row_state_of st.InField = at.Plain
row_state_of st.InQuoted = at.Quoted
row_state_of st.InEscape = at.Plain
row_state_of st.InComment = at.Plain

-- the states of a reader without escapes and comments
abbrev is_met : State → Bool
is_met st.InEscape = false
is_met st.InComment = false
is_met _ = true

-- a step leads to a state of csv that is met, and to this state of the rows
abbrev Leads : State × Action → RowState → Type 0
Leads x state = (row_state_of x.0 ≡ state) × (is_met x.0 ≡ true)

leads_if : (b : Bool) (x y : State × Action) (p q : RowState) → Leads x p → Leads y q → Leads (if b then x else y) (if b then p else q)
leads_if true x y p q h k = h
leads_if false x y p q h k = k

row_end : (b : Bool) → Leads (if b then st.AfterCr else st.StartRecord, act.EndRecord) at.Row
row_end true = (refl, refl)
row_end false = (refl, refl)

leads_in_field : (c : ℕ) → Leads (in_field default_config c) (in_column c)
leads_in_field c =
    leads_if (c == 44) _ _ _ _ (refl, refl) (leads_if ((c == 13) || (c == 10)) _ _ _ _ (row_end (c == 13)) (refl, refl))

leads_start_field : (c : ℕ) → Leads (start_field default_config c) (at_edge c)
leads_start_field c = leads_if (c == 34) _ _ _ _ (refl, refl) (leads_in_field c)

-- an end of a row is no quote, and no end of a column
row_at_edge : (c : ℕ) → ((c == 13) || (c == 10)) ≡ true → at_edge c ≡ at.Row
row_at_edge c e = elim (cases_Bool (c == 13)) [
  | inl cr ↦ rw (eqb-true c 13 cr) refl
  | inr other ↦ (let feed : (c == 10) ≡ true = rw other at e in rw (eqb-true c 10 feed) refl)
]

feed_at_edge : (c : ℕ) → (c == 10) ≡ true → at_edge c ≡ at.Row
feed_at_edge c feed = rw (eqb-true c 10 feed) refl

leads_cases : (b : Bool) (x y : State × Action) (p : RowState) → (b ≡ true → Leads x p) → Leads y p → Leads (if b then x else y) p
leads_cases true x y p h k = h refl
leads_cases false x y p h k = k

leads_start_record : (c : ℕ) → Leads (start_record default_config c) (at_edge c)
leads_start_record c =
    leads_cases ((c == 13) || (c == 10)) _ _ (at_edge c)
    (λ end. subst (Leads (st.StartRecord, act.Skip)) (sym (row_at_edge c end)) (refl, refl)) (leads_start_field c)

leads : (s : State) (c : ℕ) → is_met s ≡ true → Leads (step default_config s c) (state_after (row_state_of s) c)
leads st.StartRecord c met = leads_start_record c
leads st.StartField c met = leads_start_field c
leads st.InField c met = leads_in_field c
leads st.InQuoted c met = leads_if (c == 34) _ _ _ _ (refl, refl) (refl, refl)
leads st.InEscape c met = absurd cc
leads st.AfterQuote c met = leads_if (c == 34) _ _ _ _ (refl, refl) (leads_in_field c)
leads st.InComment c met = absurd cc
leads st.AfterCr c met =
    leads_cases (c == 10) _ _ (at_edge c)
    (λ feed. subst (Leads (st.StartRecord, act.Skip)) (sym (feed_at_edge c feed)) (refl, refl)) (leads_start_record c)

-- ---- how long a row is

-- how long a row is as a line
abbrev size : Row → ℕ
size [] = 0
size (column ∷ row) = length column + 1 + size row

size_push : (row : Row) (column : List ℕ) → size (row ++ column ∷ []) ≡ size row + length column + 1
size_push [] column = omega arith
size_push (first ∷ row) column = let rest = size_push row column in omega (arith, rest)

size_line : (column : List ℕ) (row : Row) → length (join_with_byte 44 (column ∷ row)) + 1 ≡ size (column ∷ row)
size_line column [] = omega arith
size_line column (next ∷ row) =
    let rest = size_line next row in
    omega (arith, rest, length-append column (44 ∷ join_with_byte 44 (next ∷ row)))

line_size : (row : Row) → 100 < size row → 100 < length (row_line row)
line_size [] long = absurd (omega (arith, long))
line_size (column ∷ row) long = omega (arith, long, size_line column row, length-append (join_with_byte 44 (column ∷ row)) (10 ∷ []))

-- rows with one that is so long begin no record
too_long : (rows init : List Row) (last : Row) → rows ≡ init ++ last ∷ [] → 100 < size last → BeginARecord rows → ⊥
too_long rows init last is long (r, more, tells) =
    let there : (init ++ last ∷ []) ++ more ≡ init ++ last ∷ more = append_assoc init (last ∷ []) more in
    let line : IsLine last =
    all_at IsLine init last more (subst (All IsLine) (sym tells.same ∙ (ap (λ l. l ++ more) is ∙ there)) (all_lines r tells.valid tells.version)) in
    omega (arith, line.short, line_size last long)

-- ---- each byte of a row makes it longer, or is one of few

-- three for each byte of the columns that ended, and for each end; and two for each byte of the column at hand
abbrev weight : Row → List ℕ → ℕ
weight fields field = 3 * size fields + 2 * length field

-- how many bytes at a state are in no column
abbrev extra : State → ℕ
extra st.StartRecord = 0
extra st.AfterCr = 0
extra st.StartField = 0
extra st.InQuoted = 1
extra _ = 2

-- a step that stays in the row counts for one byte more
abbrev Gains : Row → List ℕ → ℕ → ℕ → State × Action → Type 0
Gains fields field c n x =
    is_end x.1 ≡ false → is_row (row_state_of x.0) ≡ false
    → weight fields field + n + 1 ≤ weight (fields_after x.1 fields field) (field_after x.1 c field) + extra x.0

gains_if : (fields : Row) (field : List ℕ) (c n : ℕ) (b : Bool) (x y : State × Action) → Gains fields field c n x → Gains fields field c n y
    → Gains fields field c n (if b then x else y)
gains_if fields field c n true x y h k = h
gains_if fields field c n false x y h k = k

copies : (fields : Row) (field : List ℕ) (c n : ℕ) (s : State) → n + 1 ≤ 2 + extra s → Gains fields field c n (s, act.Copy)
copies fields field c n s few on stays = omega (arith, few, length_push field c)

skips : (fields : Row) (field : List ℕ) (c n : ℕ) (s : State) → n + 1 ≤ extra s → Gains fields field c n (s, act.Skip)
skips fields field c n s few on stays = omega (arith, few)

gains_in_field : (fields : Row) (field : List ℕ) (c n : ℕ) → n ≤ 2 → Gains fields field c n (in_field default_config c)
gains_in_field fields field c n few =
    gains_if fields field c n (c == 44) _ _ (λ on stays. omega (arith, few, size_push fields field))
    (gains_if fields field c n ((c == 13) || (c == 10)) _ _ (λ on stays. absurd cc) (copies fields field c n st.InField (omega (arith, few))))

gains_start_field : (fields : Row) (field : List ℕ) (c : ℕ) → Gains fields field c 0 (start_field default_config c)
gains_start_field fields field c =
    gains_if fields field c 0 (c == 34) _ _ (skips fields field c 0 st.InQuoted (omega arith)) (gains_in_field fields field c 0 (omega arith))

gains_start_record : (fields : Row) (field : List ℕ) (c : ℕ) → Gains fields field c 0 (start_record default_config c)
gains_start_record fields field c =
    gains_if fields field c 0 ((c == 13) || (c == 10)) _ _ (λ on stays. absurd cc) (gains_start_field fields field c)

gains : (s : State) (fields : Row) (field : List ℕ) (c : ℕ) → is_met s ≡ true → Gains fields field c (extra s) (step default_config s c)
gains st.StartRecord fields field c met = gains_start_record fields field c
gains st.StartField fields field c met = gains_start_field fields field c
gains st.InField fields field c met = gains_in_field fields field c 2 (omega arith)
gains st.InQuoted fields field c met =
    gains_if fields field c 1 (c == 34) _ _ (skips fields field c 1 st.AfterQuote (omega arith))
    (copies fields field c 1 st.InQuoted (omega arith))
gains st.InEscape fields field c met = absurd cc
gains st.AfterQuote fields field c met =
    gains_if fields field c 2 (c == 34) _ _ (copies fields field c 2 st.InQuoted (omega arith)) (gains_in_field fields field c 2 (omega arith))
gains st.InComment fields field c met = absurd cc
gains st.AfterCr fields field c met =
    gains_if fields field c 0 (c == 10) _ _ (λ on stays. absurd cc) (gains_start_record fields field c)

-- ---- a row within which the reading stands is read, and is no shorter than what was read of it

abbrev Grows : ℕ → Option Read → Type 0
Grows n None = ⊥
Grows n (Some p) = n ≤ size p.0

grows_if : (n : ℕ) (b : Bool) (p : Read) (o : Option Read) → (b ≡ true → n ≤ size p.0) → (b ≡ false → Grows n o)
    → Grows n (if b then Some p else o)
grows_if n true p o h k = h refl
grows_if n false p o h k = k refl

grown : (m n : ℕ) (o : Option Read) → m ≤ n → Grows n o → Grows m o
grown m n None le h = h
grown m n (Some p) le h = omega (arith, le, h)

-- an action takes nothing off the row, and one that ends it has it whole
abbrev Holds : Row → List ℕ → ℕ → Action → Type 0
Holds fields field c a =
    (is_end a ≡ true → size fields + length field + 1 ≤ size (fields_after a fields field))
    × (is_end a ≡ false → size fields + length field ≤ size (fields_after a fields field) + length (field_after a c field))

holds : (fields : Row) (field : List ℕ) (c : ℕ) (a : Action) → Holds fields field c a
holds fields field c act.Skip = (λ e. absurd cc, λ e. omega arith)
holds fields field c act.Copy = (λ e. absurd cc, λ e. omega (arith, length_push field c))
holds fields field c act.EndField = (λ e. absurd cc, λ e. omega (arith, size_push fields field))
holds fields field c act.EndRecord = (λ e. omega (arith, size_push fields field), λ e. absurd cc)

-- a step within a row stays in it, or ends it
abbrev Stays : State × Action → Type 0
Stays x = is_end x.1 ≡ false → is_row (row_state_of x.0) ≡ false

stays_if : (b : Bool) (x y : State × Action) → Stays x → Stays y → Stays (if b then x else y)
stays_if true x y h k = h
stays_if false x y h k = k

stays_in_field : (c : ℕ) → Stays (in_field default_config c)
stays_in_field c = stays_if (c == 44) _ _ (λ on. refl) (stays_if ((c == 13) || (c == 10)) _ _ (λ on. absurd cc) (λ on. refl))

stays : (s : State) (c : ℕ) → is_met s ≡ true → is_row (row_state_of s) ≡ false → Stays (step default_config s c)
stays st.StartRecord c met within = absurd cc
stays st.StartField c met within = stays_if (c == 34) _ _ (λ on. refl) (stays_in_field c)
stays st.InField c met within = stays_in_field c
stays st.InQuoted c met within = stays_if (c == 34) _ _ (λ on. refl) (λ on. refl)
stays st.InEscape c met within = absurd cc
stays st.AfterQuote c met within = stays_if (c == 34) _ _ (λ on. refl) (stays_in_field c)
stays st.InComment c met within = absurd cc
stays st.AfterCr c met within = absurd cc

ends_in_row : (s : State) (fields : Row) (field : List ℕ) → is_met s ≡ true → is_row (row_state_of s) ≡ false
    → next_record default_config s fields field [] ≡ Some (fields ++ field ∷ [], st.StartRecord, [])
unfolding next_record
ends_in_row st.StartRecord fields field met within = absurd cc
ends_in_row st.AfterCr fields field met within = absurd cc
ends_in_row st.InEscape fields field met within = absurd cc
ends_in_row st.InComment fields field met within = absurd cc
ends_in_row st.StartField fields field met within = refl
ends_in_row st.InField fields field met within = refl
ends_in_row st.InQuoted fields field met within = refl
ends_in_row st.AfterQuote fields field met within = refl

grows : (bytes : List ℕ) (s : State) (fields : Row) (field : List ℕ) → is_met s ≡ true → is_row (row_state_of s) ≡ false
    → Grows (size fields + length field + 1) (next_record default_config s fields field bytes)
unfolding next_record
grows [] s fields field met within =
    subst (Grows (size fields + length field + 1)) (sym (ends_in_row s fields field met within)) (omega (arith, size_push fields field))
grows (c ∷ bytes) s fields field met within =
    let x = step default_config s c in
    let h = holds fields field c x.1 in
    grows_if (size fields + length field + 1) (is_end x.1) _ _ (λ e. h.0 e)
    (λ e. grown _ _ _ (let more = h.1 e in omega (arith, more))
    (grows bytes x.0 (fields_after x.1 fields field) (field_after x.1 c field) (leads s c met).1 (stays s c met within e)))

grown_to : (n : ℕ) (o : Option Read) → Grows n o → (p : Read) × (o ≡ Some p) × (n ≤ size p.0)
grown_to n None h = absurd h
grown_to n (Some p) h = (p, refl, h)

-- ---- one row

abbrev IsStart : State → Type 0
IsStart s = (is_row (row_state_of s) ≡ true) × (is_met s ≡ true)

-- of the text and of what comes of it the same row is read
abbrev IsNext : Option Read → Option Read → Type 0
IsNext o short = (p : Read) × (o ≡ Some p) × (short ≡ Some (p.0, p.1, from_row p.2)) × IsStart p.1

-- of the text and of what comes of it rows are read that are too long
abbrev IsLong : Option Read → Option Read → Type 0
IsLong o short =
    (p : Read) × (q : Read) × (o ≡ Some p) × (short ≡ Some q) × (100 < size p.0) × (100 < size q.0) × (q.1 ≡ st.StartRecord) × (q.2 ≡ [])

abbrev Walks : Option Read → Option Read → List ℕ → List ℕ → Type 0
Walks o short text cut = (cut ≡ text) ⊎ (IsNext o short ⊎ IsLong o short)

walks_on : (o short : Option Read) (c : ℕ) (text cut : List ℕ) → Walks o short text cut → Walks o short (c ∷ text) (c ∷ cut)
walks_on o short c text cut (inl whole) = inl (ap (λ l. c ∷ l) whole)
walks_on o short c text cut (inr read) = inr read

step_walks : (b r z : Bool) (row : Row) (s : State) (on : List ℕ → Option Read) (c : ℕ) (bytes more : List ℕ)
    → (b ≡ true → (r ≡ true) × IsStart s)
    → (b ≡ false → r ≡ true → Walks (on bytes) (on (from_row bytes)) bytes (from_row bytes))
    → (b ≡ false → r ≡ false → z ≡ true → IsLong (on bytes) (on []))
    → (b ≡ false → r ≡ false → z ≡ false → Walks (on bytes) (on more) bytes more)
    → Walks (if b then Some (row, s, bytes) else on bytes)
    (if b then Some (row, s, if r then from_row bytes else if z then [] else more)
    else on (if r then from_row bytes else if z then [] else more))
    (c ∷ bytes) (c ∷ (if r then from_row bytes else if z then [] else more))
step_walks true true z row s on c bytes more end skip long go = inr (inl ((row, s, bytes), refl, refl, (end refl).1))
step_walks true false z row s on c bytes more end skip long go = let never = (end refl).0 in absurd cc
step_walks false true z row s on c bytes more end skip long go = walks_on _ _ c bytes (from_row bytes) (skip refl refl)
step_walks false false true row s on c bytes more end skip long go = inr (inr (long refl refl refl))
step_walks false false false row s on c bytes more end skip long go = walks_on _ _ c bytes more (go refl refl refl)

-- an end leads to the start of a row
abbrev EndsAtRow : State × Action → Type 0
EndsAtRow x = is_end x.1 ≡ true → is_row (row_state_of x.0) ≡ true

at_row_if : (b : Bool) (x y : State × Action) → EndsAtRow x → EndsAtRow y → EndsAtRow (if b then x else y)
at_row_if true x y h k = h
at_row_if false x y h k = k

at_row_in_field : (c : ℕ) → EndsAtRow (in_field default_config c)
at_row_in_field c =
    at_row_if (c == 44) _ _ (λ e. absurd cc)
    (at_row_if ((c == 13) || (c == 10)) _ _ (λ e. ap is_row (row_end (c == 13)).0) (λ e. absurd cc))

at_row_start_field : (c : ℕ) → EndsAtRow (start_field default_config c)
at_row_start_field c = at_row_if (c == 34) _ _ (λ e. absurd cc) (at_row_in_field c)

at_row_start_record : (c : ℕ) → EndsAtRow (start_record default_config c)
at_row_start_record c = at_row_if ((c == 13) || (c == 10)) _ _ (λ e. absurd cc) (at_row_start_field c)

at_row : (s : State) (c : ℕ) → is_met s ≡ true → EndsAtRow (step default_config s c)
at_row st.StartRecord c met = at_row_start_record c
at_row st.StartField c met = at_row_start_field c
at_row st.InField c met = at_row_in_field c
at_row st.InQuoted c met = at_row_if (c == 34) _ _ (λ e. absurd cc) (λ e. absurd cc)
at_row st.InEscape c met = absurd cc
at_row st.AfterQuote c met = at_row_if (c == 34) _ _ (λ e. absurd cc) (at_row_in_field c)
at_row st.InComment c met = absurd cc
at_row st.AfterCr c met = at_row_if (c == 10) _ _ (λ e. absurd cc) (at_row_start_record c)

-- before a row and after a step that ends none, nothing was read of one
abbrev Skips : State → Row → List ℕ → ℕ → State × Action → Type 0
Skips s fields field c x =
    is_end x.1 ≡ false → is_row (row_state_of x.0) ≡ true
    → (is_row (row_state_of s) ≡ true) × (fields_after x.1 fields field ≡ fields) × (field_after x.1 c field ≡ field)

skips_if : (s : State) (fields : Row) (field : List ℕ) (c : ℕ) (b : Bool) (x y : State × Action) → Skips s fields field c x
    → Skips s fields field c y → Skips s fields field c (if b then x else y)
skips_if s fields field c true x y h k = h
skips_if s fields field c false x y h k = k

skips_in_field : (s : State) (fields : Row) (field : List ℕ) (c : ℕ) → Skips s fields field c (in_field default_config c)
skips_in_field s fields field c =
    skips_if s fields field c (c == 44) _ _ (λ on row. absurd cc)
    (skips_if s fields field c ((c == 13) || (c == 10)) _ _ (λ on row. absurd cc) (λ on row. absurd cc))

skips_start_field : (s : State) (fields : Row) (field : List ℕ) (c : ℕ) → Skips s fields field c (start_field default_config c)
skips_start_field s fields field c =
    skips_if s fields field c (c == 34) _ _ (λ on row. absurd cc) (skips_in_field s fields field c)

skips_start_record : (s : State) (fields : Row) (field : List ℕ) (c : ℕ) → is_row (row_state_of s) ≡ true
    → Skips s fields field c (start_record default_config c)
skips_start_record s fields field c start =
    skips_if s fields field c ((c == 13) || (c == 10)) _ _ (λ on row. (start, refl, refl)) (skips_start_field s fields field c)

skips_at : (s : State) (fields : Row) (field : List ℕ) (c : ℕ) → is_met s ≡ true → Skips s fields field c (step default_config s c)
skips_at st.StartRecord fields field c met = skips_start_record st.StartRecord fields field c refl
skips_at st.StartField fields field c met = skips_start_field st.StartField fields field c
skips_at st.InField fields field c met = skips_in_field st.InField fields field c
skips_at st.InQuoted fields field c met =
    skips_if st.InQuoted fields field c (c == 34) _ _ (λ on row. absurd cc) (λ on row. absurd cc)
skips_at st.InEscape fields field c met = absurd cc
skips_at st.AfterQuote fields field c met =
    skips_if st.AfterQuote fields field c (c == 34) _ _ (λ on row. absurd cc) (skips_in_field st.AfterQuote fields field c)
skips_at st.InComment fields field c met = absurd cc
skips_at st.AfterCr fields field c met =
    skips_if st.AfterCr fields field c (c == 10) _ _ (λ on row. (refl, refl, refl)) (skips_start_record st.AfterCr fields field c refl)

few_extra : (s : State) → extra s ≤ 2
few_extra st.StartRecord = omega arith
few_extra st.AfterCr = omega arith
few_extra st.StartField = omega arith
few_extra st.InField = omega arith
few_extra st.InQuoted = omega arith
few_extra st.AfterQuote = omega arith
few_extra st.InEscape = omega arith
few_extra st.InComment = omega arith

-- the row at hand when too many of its bytes came
long_row : (s : State) (fields : Row) (field bytes : List ℕ) → is_met s ≡ true → is_row (row_state_of s) ≡ false
    → 301 ≤ weight fields field + extra s
    → IsLong (next_record default_config s fields field bytes) (next_record default_config s fields field [])
long_row s fields field bytes met within long =
    let (p, read, least) = grown_to _ _ (grows bytes s fields field met within) in
    let few = few_extra s in (
      p,
      (fields ++ field ∷ [], st.StartRecord, []),
      read,
      ends_in_row s fields field met within,
      omega (arith, long, few, least),
      omega (arith, long, few, size_push fields field),
      refl,
      refl,
    )

-- nothing is known of a row before its start
abbrev IsNew : State → Row → List ℕ → ℕ → Type 0
IsNew s fields field left = is_row (row_state_of s) ≡ true → (fields ≡ []) × (field ≡ []) × (left ≡ most_row_bytes)

not_both : {P : Type 0} (b : Bool) → b ≡ true → b ≡ false → P
not_both true e f = absurd cc
not_both false e f = absurd cc

pub row_is : (state : RowState) → is_row state ≡ true → state ≡ at.Row
row_is at.Row e = refl
row_is at.Text e = absurd cc
row_is at.MarkOfOne e = absurd cc
row_is at.MarkOfTwo e = absurd cc
row_is at.Edge e = absurd cc
row_is at.Plain e = absurd cc
row_is at.Quoted e = absurd cc

walk : (bytes : List ℕ) (s : State) (fields : Row) (field : List ℕ) (left : ℕ) → is_met s ≡ true → IsNew s fields field left
    → 300 ≤ left + weight fields field + extra s
    → Walks (next_record default_config s fields field bytes)
    (next_record default_config s fields field (ends_at_long_row (row_state_of s) left bytes))
    bytes (ends_at_long_row (row_state_of s) left bytes)
unfolding next_record
walk [] s fields field left met new fits = inl refl
walk (c ∷ bytes) s fields field left met new fits =
    let x = step default_config s c in
    let row = fields_after x.1 fields field in
    let column = field_after x.1 c field in
    let to = leads s c met in
    let next : (left2 : ℕ) → IsNew x.0 row column left2 → 300 ≤ left2 + weight row column + extra x.0
    → Walks (next_record default_config x.0 row column bytes)
    (next_record default_config x.0 row column (ends_at_long_row (state_after (row_state_of s) c) left2 bytes))
    bytes (ends_at_long_row (state_after (row_state_of s) c) left2 bytes) =
    λ left2 new2 fits2. subst (λ q. Walks (next_record default_config x.0 row column bytes)
    (next_record default_config x.0 row column (ends_at_long_row q left2 bytes)) bytes (ends_at_long_row q left2 bytes)) to.0
    (walk bytes x.0 row column left2 to.1 new2 fits2) in
    step_walks (is_end x.1) (is_row (state_after (row_state_of s) c)) (left == 0) row x.0
    (λ more. next_record default_config x.0 row column more) c bytes
    (ends_at_long_row (state_after (row_state_of s) c) (left - 1) bytes)
    (λ end. let start = at_row s c met end in (ap is_row (sym to.0) ∙ start, (start, to.1)))
    (λ on start.
    let here : is_row (row_state_of x.0) ≡ true = ap is_row to.0 ∙ start in
    let (was, same, also) = skips_at s fields field c met on here in
    let (none, empty, whole) = new was in
    subst (λ q. Walks (next_record default_config x.0 row column bytes)
    (next_record default_config x.0 row column (ends_at_long_row q most_row_bytes bytes)) bytes (ends_at_long_row q most_row_bytes bytes))
    (row_is (state_after (row_state_of s) c) start)
    (next most_row_bytes (λ again. (same ∙ none, also ∙ empty, refl)) (omega arith)))
    (λ on within zero.
    let here : is_row (row_state_of x.0) ≡ false = ap is_row to.0 ∙ within in
    let more = gains s fields field c met on here in
    let none : left ≡ 0 = eqb-true left 0 zero in
    long_row x.0 row column bytes to.1 here (omega (arith, more, none, fits)))
    (λ on within some.
    let here : is_row (row_state_of x.0) ≡ false = ap is_row to.0 ∙ within in
    let more = gains s fields field c met on here in
    let least : 0 < left = grind (arith, nat_tests) in
    next (left - 1) (λ again. not_both (is_row (row_state_of x.0)) again here) (omega (arith, more, least, fits)))

walk_row : (text : List ℕ) (s : State) → IsStart s
    → Walks (next_record default_config s [] [] text) (next_record default_config s [] [] (from_row text)) text (from_row text)
walk_row text s start =
    subst (λ q. Walks (next_record default_config s [] [] text)
    (next_record default_config s [] [] (ends_at_long_row q most_row_bytes text)) text (ends_at_long_row q most_row_bytes text))
    (row_is (row_state_of s) start.0)
    (walk text s [] [] most_row_bytes start.1 (λ row. (refl, refl, refl)) (omega arith))

-- ---- the rows of a text

-- the rows are read of the text too, and no more where there are no more
abbrev Through : List Row → State → State → List ℕ → List ℕ → Type 0
Through rows s t text rest =
    (rest2 : List ℕ) × Reached default_config s text rows t rest2
    × (next_record default_config t [] [] rest ≡ None → next_record default_config t [] [] rest2 ≡ None)

-- the last of the rows is too long, and one that is too long is read from the text instead of it
abbrev Stuck : List Row → State → List ℕ → Type 0
Stuck rows s text =
    (init : List Row) × (last : Row) × (other : Row) × (rows ≡ init ++ last ∷ []) × (100 < size last) × (100 < size other)
    × (t : State) × (rest : List ℕ) × Reached default_config s text (init ++ other ∷ []) t rest

no_more : (text rest : List ℕ) (t : State) → IsStart t → from_row text ≡ rest → next_record default_config t [] [] rest ≡ None
    → next_record default_config t [] [] text ≡ None
no_more text rest t start is none = elim (walk_row text t start) [
  | inl whole ↦ ap (next_record default_config t [] []) (sym whole ∙ is) ∙ none
  | inr (inl (p, read, short, begin)) ↦ let never = sym short ∙ (ap (next_record default_config t [] []) is ∙ none) in absurd cc
  | inr (inr (p, q, read, short, far, long, begin, end)) ↦ let never = sym short ∙ (ap (next_record default_config t [] []) is ∙ none) in absurd cc
]

no_rows : (rows : List Row) (t : State) (rest : List ℕ) → Reached default_config st.StartRecord [] rows t rest → rows ≡ []
unfolding Reached next_record
no_rows [] t rest h = refl
no_rows (row ∷ rows) t rest (p, e, is, h) = absurd cc

rows_walk : (rows : List Row) (s t : State) (text rest : List ℕ) → IsStart s → Reached default_config s (from_row text) rows t rest
    → Through rows s t text rest ⊎ Stuck rows s text
unfolding Reached
rows_walk [] s t text rest start (same, whole) =
    inl (text, (same, refl), no_more text rest t (subst IsStart same start) whole)
rows_walk (row ∷ rows) s t text rest start (p, e, is, h) = elim (walk_row text s start) [
  | inl whole ↦ inl (rest, subst (λ l. Reached default_config s l (row ∷ rows) t rest) whole (p, e, is, h), λ none. none)
  | inr (inl (q, read, short, begin)) ↦ (let one : p ≡ (q.0, q.1, from_row q.2) = same_Some _ _ (sym e ∙ short) in
      let there : Reached default_config q.1 (from_row q.2) rows t rest =
      subst (λ z. Reached default_config z.1 z.2 rows t rest) one h in
      let same : row ≡ q.0 = is ∙ ap (λ z. z.0) one in
      elim (rows_walk rows q.1 t q.2 rest begin there) [
        | inl (rest2, follow, end) ↦ inl (rest2, (q, read, same, follow), end)
        | inr (init, last, other, rows_are, long, far, t2, rest2, follow) ↦
            inr (row ∷ init, last, other, ap (λ l. row ∷ l) rows_are, long, far, t2, rest2, (q, read, same, follow))
      ])
  | inr (inr (q, z, read, short, far, long, begin, end)) ↦ (let one : p ≡ z = same_Some p z (sym e ∙ short) in
      let there = subst (λ l. Reached default_config l.1 l.2 rows t rest) one h in
      let anew = subst (λ l. Reached default_config l z.2 rows t rest) begin there in
      let none : rows ≡ [] = no_rows rows t rest (subst (λ l. Reached default_config st.StartRecord l rows t rest) end anew) in
      inr (
        [],
        row,
        q.0,
        ap (λ l. row ∷ l) none,
        subst (λ r. 100 < size r) (sym (is ∙ ap (λ l. l.0) one)) long,
        far,
        q.1,
        q.2,
        (q, read, refl, (refl, refl)),
      ))
]

-- a bad row instead of another one that is too long
other_bad : (init : List Row) (last other : Row) (n : ℕ) → 100 < size other → IsBadRow (init ++ last ∷ []) n
    → IsBadRow (init ++ other ∷ []) n
other_bad init last other n far (some, within, before, bad) =
    let count = length_push init last in
    let counted = length_push init other in
    let front : n - 1 ≤ length init = omega (arith, within, count) in (
      some,
      omega (arith, within, count, counted),
      subst BeginARecord (take-append-le (n - 1) init (last ∷ []) front ∙ sym (take-append-le (n - 1) init (other ∷ []) front)) before,
      elim (cases_lt (length init) n) as (λ x. BeginARecord (take n (init ++ other ∷ [])) → ⊥) [
        | inl after ↦ (λ on. too_long (init ++ other ∷ []) init other refl far
            (subst BeginARecord (take_all n (init ++ other ∷ []) (omega (arith, after, counted))) on))
        | inr early ↦ (λ on. bad (subst BeginARecord
            (take-append-le n init (other ∷ []) early ∙ sym (take-append-le n init (last ∷ []) early)) on))
      ],
    )

last-same : (xs ys : List Row) (x y : Row) → xs ++ x ∷ [] ≡ ys ++ y ∷ [] → x ≡ y
last-same [] [] x y e = cc
last-same [] (z ∷ ys) x y e =
    let count : length (x ∷ []) ≡ length ((z ∷ ys) ++ y ∷ []) = ap length e in
    absurd (omega (arith, count, length_push (z ∷ ys) y))
last-same (z ∷ xs) [] x y e =
    let count : length ((z ∷ xs) ++ x ∷ []) ≡ length (y ∷ []) = ap length e in
    absurd (omega (arith, count, length_push (z ∷ xs) x))
last-same (z ∷ xs) (w ∷ ys) x y e =
    let rest : xs ++ x ∷ [] ≡ ys ++ y ∷ [] = cc in
    last-same xs ys x y rest

pub short_malformed : (text : List ℕ) (n : ℕ) → IsMalformedAt (from_row text) n → IsMalformedAt text n
short_malformed text n (inl (rows, (t, rest, h), bad)) = elim (rows_walk rows st.StartRecord t text rest (refl, refl) h) [
  | inl (rest2, follow, end) ↦ inl (rows, (t, rest2, follow), bad)
  | inr (init, last, other, is, long, far, t2, rest2, follow) ↦
      inl (init ++ other ∷ [], (t2, rest2, follow), other_bad init last other n far (subst (λ l. IsBadRow l n) is bad))
]
short_malformed text n (inr (rows, (t, rest, h, none), missing)) = elim (rows_walk rows st.StartRecord t text rest (refl, refl) h) [
  | inl (rest2, follow, end) ↦ inr (rows, (t, rest2, follow, end none), missing)
  | inr (init, last, other, is, long, far, t2, rest2, follow) ↦ absurd (too_long rows init last is long missing.1)
]

pub short_taken : (text : List ℕ) (stage : Stage) (n : ℕ) → IsTaken (from_row text) stage n → IsTaken text stage n
short_taken text stage n (rows, (t, rest, h, none), came, ran, counted) = elim (rows_walk rows st.StartRecord t text rest (refl, refl) h) [
  | inl (rest2, follow, end) ↦ (rows, (t, rest2, follow, end none), came, ran, counted)
  | inr (init, last, other, is, long, far, t2, rest2, follow) ↦
      absurd (too_long rows init last is long (taken_rows_begin_a_record rows stage ran))
]

-- the first rows are those of the text, where all rows of it are short
pub short_begins : (text : List ℕ) (rows all : List Row) → BeginsWithRows (from_row text) rows → HasRows text all → All IsLine all
    → BeginsWithRows text rows
short_begins text rows all (t, rest, h) (u, y, has, none) lines = elim (rows_walk rows st.StartRecord t text rest (refl, refl) h) [
  | inl (rest2, follow, end) ↦ (t, rest2, follow)
  | inr (init, last, other, is, long, far, t2, rest2, follow) ↦
      (let (more, e) = first_of_all (init ++ other ∷ []) all st.StartRecord t2 u text rest2 y follow has none in
      let line : IsLine other = all_at IsLine init other more (subst (All IsLine) (e ∙ append_assoc init (other ∷ []) more) lines) in
      absurd (omega (arith, line.short, line_size other far)))
]

-- rows are none, or there is a last one
ends-with : (rows : List Row) → (rows ≡ []) ⊎ ((front : List Row) × (last : Row) × (rows ≡ front ++ last ∷ []))
ends-with [] = inl refl
ends-with (row ∷ rows) = elim (ends-with rows) [
  | inl none ↦ inr ([], row, ap (λ l. row ∷ l) none)
  | inr (front, last, is) ↦ inr (row ∷ front, last, ap (λ l. row ∷ l) is)
]

-- all rows are those of the text, where the last ones begin a record
short_last : (text : List ℕ) (before front : List Row) (last : Row) → BeginARecord (front ++ last ∷ [])
    → HasRows (from_row text) (before ++ (front ++ last ∷ [])) → HasRows text (before ++ (front ++ last ∷ []))
short_last text before front last begins (t, rest, h, none) =
    elim (rows_walk (before ++ (front ++ last ∷ [])) st.StartRecord t text rest (refl, refl) h) [
      | inl (rest2, follow, end) ↦ (t, rest2, follow, end none)
      | inr (init, row, other, is, long, far, t2, rest2, follow) ↦
          (let same : last ≡ row = last-same (before ++ front) init last row (append_assoc before front (last ∷ []) ∙ is) in
          absurd (too_long (front ++ last ∷ []) front last refl (subst (λ r. 100 < size r) (sym same) long) begins))
    ]

short_none : (text : List ℕ) → HasRows (from_row text) [] → HasRows text []
short_none text (t, rest, h, none) =
    elim (rows_walk [] st.StartRecord t text rest (refl, refl) h) [
      | inl (rest2, follow, end) ↦ (t, rest2, follow, end none)
      | inr (init, row, other, is, long, far, t2, rest2, follow) ↦
          (let count : length {A = Row} [] ≡ length (init ++ row ∷ []) = ap length is in absurd (omega (arith, count, length_push init row)))
    ]

pub short_all : (text : List ℕ) (before rows : List Row) → BeginARecord rows → (rows ≡ [] → before ≡ [])
    → HasRows (from_row text) (before ++ rows) → HasRows text (before ++ rows)
short_all text before rows begins alone has = elim (ends-with rows) [
  | inl none ↦ rw (none, alone none) (short_none text (rw (none, alone none) at has))
  | inr (front, last, is) ↦ rw is (short_last text before front last (subst BeginARecord is begins) (rw is at has))
]

-- ---- where the text ends depends on its first bytes alone

-- no byte too many is among the first bytes, however the text goes on; or one is, and the text ends with it
abbrev pub Splits : List ℕ → (List ℕ → List ℕ) → Type 0
Splits bytes text =
    ((state : RowState) × (left : ℕ) × ((more : List ℕ) → text more ≡ bytes ++ ends_at_long_row state left more))
    ⊎ ((front : List ℕ) × ((more : List ℕ) → text more ≡ front))

split_if : (r z : Bool) (b : ℕ) (bytes : List ℕ) (f g : List ℕ → List ℕ) → Splits bytes f → Splits bytes g
    → Splits (b ∷ bytes) (λ more. b ∷ (if r then f more else if z then [] else g more))
split_if true z b bytes f g (inl (state, left, same)) h = inl (state, left, λ more. ap (λ l. b ∷ l) (same more))
split_if true z b bytes f g (inr (front, same)) h = inr (b ∷ front, λ more. ap (λ l. b ∷ l) (same more))
split_if false true b bytes f g k h = inr (b ∷ [], λ more. refl)
split_if false false b bytes f g k (inl (state, left, same)) = inl (state, left, λ more. ap (λ l. b ∷ l) (same more))
split_if false false b bytes f g k (inr (front, same)) = inr (b ∷ front, λ more. ap (λ l. b ∷ l) (same more))

pub splits : (bytes : List ℕ) (state : RowState) (left : ℕ) → Splits bytes (λ more. ends_at_long_row state left (bytes ++ more))
splits [] state left = inl (state, left, λ more. refl)
splits (b ∷ bytes) state left =
    split_if (is_row (state_after state b)) (left == 0) b bytes _ _ (splits bytes at.Row most_row_bytes)
    (splits bytes (state_after state b) (left - 1))

nothing : (r z : Bool) (none : List ℕ) → (if r then none else if z then none else none) ≡ none
nothing true z none = refl
nothing false true none = refl
nothing false false none = refl

-- one byte comes in any case
pub one_byte : (state : RowState) (left b : ℕ) → ends_at_long_row state left (b ∷ []) ≡ b ∷ []
one_byte state left b = ap (λ l. b ∷ l) (nothing (is_row (state_after state b)) (left == 0) [])

-- ---- a byte order mark

-- after one byte that is the first of a mark
after_one : (b : ℕ) (rest : List ℕ) → (b == 187) ≡ false
    → ends_at_long_row at.Text most_row_bytes (239 ∷ b ∷ rest) ≡ from_row (239 ∷ b ∷ rest)
after_one b rest other = rw other refl

after_two : (c : ℕ) (rest : List ℕ) → (c == 191) ≡ false
    → ends_at_long_row at.Text most_row_bytes (239 ∷ 187 ∷ c ∷ rest) ≡ from_row (239 ∷ 187 ∷ c ∷ rest)
after_two c rest other = rw other refl

no_third : (c : ℕ) (rest : List ℕ) → (c == 191) ≡ false → strip_bom (239 ∷ 187 ∷ c ∷ rest) ≡ 239 ∷ 187 ∷ c ∷ rest
unfolding strip_bom
no_third c rest other = rw other refl

-- where no mark is there, the text stays as it is
unmarked : (text : List ℕ) → strip_bom text ≡ text → strip_bom (from_row text) ≡ from_row text
    → ends_at_long_row at.Text most_row_bytes text ≡ from_row text
    → strip_bom (ends_at_long_row at.Text most_row_bytes text) ≡ from_row (strip_bom text)
unmarked text none after same = ap strip_bom same ∙ (after ∙ ap from_row (sym none))

marked_twice : (rest : List ℕ)
    → strip_bom (ends_at_long_row at.Text most_row_bytes (239 ∷ 187 ∷ rest)) ≡ from_row (strip_bom (239 ∷ 187 ∷ rest))
unfolding strip_bom
marked_twice [] = refl
marked_twice (c ∷ rest) = elim (cases_Bool (c == 191)) [
  | inr other ↦ unmarked (239 ∷ 187 ∷ c ∷ rest) (no_third c rest other) (no_third c _ other) (after_two c rest other)
  | inl third ↦ rw (eqb-true c 191 third) refl
]

marked : (rest : List ℕ) → strip_bom (ends_at_long_row at.Text most_row_bytes (239 ∷ rest)) ≡ from_row (strip_bom (239 ∷ rest))
unfolding strip_bom
marked [] = refl
marked (b ∷ rest) = elim (cases_Bool (b == 187)) [
  | inr other ↦ unmarked (239 ∷ b ∷ rest) (not_ab 239 b other rest) (not_ab 239 b other _) (after_one b rest other)
  | inl second ↦ subst (λ x. strip_bom (ends_at_long_row at.Text most_row_bytes (239 ∷ x ∷ rest)) ≡ from_row (strip_bom (239 ∷ x ∷ rest)))
      (sym (eqb-true b 187 second)) (marked_twice rest)
]

pub mark_passes : (text : List ℕ) → strip_bom (ends_at_long_row at.Text most_row_bytes text) ≡ from_row (strip_bom text)
unfolding strip_bom
mark_passes [] = refl
mark_passes (a ∷ rest) = elim (cases_Bool (a == 239)) [
  | inr other ↦ unmarked (a ∷ rest) (not_a a other rest) (not_a a other _) (rw other refl)
  | inl first ↦ subst (λ x. strip_bom (ends_at_long_row at.Text most_row_bytes (x ∷ rest)) ≡ from_row (strip_bom (x ∷ rest)))
      (sym (eqb-true a 239 first)) (marked rest)
]

-- ---- bytes that are gone over one by one

module _ (bytes : List ℕ) (i b : ℕ) (text : List ℕ → List ℕ) (state : RowState) (left : ℕ) (front : take (i + 1) bytes ≡ take i bytes ++ b ∷ [])
    (rest : drop i bytes ≡ b ∷ drop (i + 1) bytes)
    (so_far : (more : List ℕ) → text more ≡ take i bytes ++ ends_at_long_row state left (drop i bytes ++ more)) where
  one_more : (tail : List ℕ → List ℕ) → ((r : List ℕ) → ends_at_long_row state left (b ∷ r) ≡ b ∷ tail r) → (more : List ℕ)
      → text more ≡ take (i + 1) bytes ++ tail (drop (i + 1) bytes ++ more)
  one_more tail is more =
      so_far more
      ∙ ap (λ l. take i bytes ++ ends_at_long_row state left (l ++ more)) rest
      ∙ ap (λ l. take i bytes ++ l) (is (drop (i + 1) bytes ++ more))
      ∙ sym (append_assoc (take i bytes) (b ∷ []) (tail (drop (i + 1) bytes ++ more)))
      ∙ ap (λ l. l ++ tail (drop (i + 1) bytes ++ more)) (sym front)

  -- the byte ends a row
  pub over_row : is_row (state_after state b) ≡ true → (more : List ℕ)
      → text more ≡ take (i + 1) bytes ++ ends_at_long_row (state_after state b) most_row_bytes (drop (i + 1) bytes ++ more)
  over_row row =
      one_more (ends_at_long_row (state_after state b) most_row_bytes)
      (λ r. rw row (ap (λ p. b ∷ ends_at_long_row p most_row_bytes r) (sym (row_is (state_after state b) row))))

  -- the byte is too many
  pub over_end : is_row (state_after state b) ≡ false → left ≡ 0 → (more : List ℕ) → text more ≡ take (i + 1) bytes ++ []
  over_end row none = one_more (λ r. []) (λ r. rw (row, none) refl)

  -- the byte is one of the row
  pub over_byte : is_row (state_after state b) ≡ false → 0 < left → (more : List ℕ)
      → text more ≡ take (i + 1) bytes ++ ends_at_long_row (state_after state b) (left - 1) (drop (i + 1) bytes ++ more)
  over_byte row some =
      let many : (left == 0) ≡ false = grind (arith, nat_tests) in
      one_more (ends_at_long_row (state_after state b) (left - 1)) (λ r. rw (row, many) refl)

  -- one is too many, or not
  pub over_none : left_after (state_after state b) left ≡ None → (more : List ℕ) → text more ≡ take (i + 1) bytes ++ []
  over_none e = elim (cases_Bool (is_row (state_after state b))) [
    | inl row ↦ (let other = rw row at e in absurd cc)
    | inr within ↦ elim (cases_Bool (left == 0)) [
      | inl none ↦ over_end within (eqb-true left 0 none)
      | inr some ↦ (let other = rw (within, some) at e in absurd cc)
    ]
  ]

  pub over_some : (next : ℕ) → left_after (state_after state b) left ≡ Some next → (more : List ℕ)
      → text more ≡ take (i + 1) bytes ++ ends_at_long_row (state_after state b) next (drop (i + 1) bytes ++ more)
  over_some next e = elim (cases_Bool (is_row (state_after state b))) [
    | inl row ↦ rw (← same_Some _ _ (rw row at e)) (over_row row)
    | inr within ↦ elim (cases_Bool (left == 0)) [
      | inl none ↦ (let other = rw (within, none) at e in absurd cc)
      | inr some ↦ rw (← same_Some _ _ (rw (within, some) at e)) (over_byte within (grind (arith, nat_tests)))
    ]
  ]
