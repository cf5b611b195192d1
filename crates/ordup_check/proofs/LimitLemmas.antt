-- Of a text that was cut off the rows that came are those of each text that goes on from there.
use Rattle.ordup_audit.proofs.Common.{◌&&◌, ◌++◌, ◌==◌, ◌||◌, ◌∙◌, ◌∷◌, ◌≡◌, ◌⊎◌, [], ap, arith, Bool, cases_Bool, false, false≢true}
use Rattle.ordup_audit.proofs.Common.{if◌then◌else◌, inl, inr, List, list_any, list_any-append, None, Option}
use Rattle.ordup_audit.proofs.Common.{and_parts, or-true, or_parts, refl, same_Some, Some, subst, sym, true, ℕ}
use Rattle.std.proofs.lemmas.Bool.{eqb-true}
use Rattle.csv.specs.Machine.{Read, field_after, fields_after, in_field, is_end, next_record, start_field, start_record, step}
use Rattle.csv.specs.Reading.{Reached, default_config, is_bom, strip_bom}
use Rattle.csv.specs.declared.parser.Action.{Action}
use Rattle.csv.specs.declared.parser.State.{State}
use Rattle.csv.specs.declared.parser.State.TheVariants as st
use Rattle.ordup_rows.specs.Rows.{Row}
use Rattle.ordup_rows.specs.Texts.{BeginsWithRows, HasRows, IsMalformedAt}
use Rattle.ordup_check.specs.Limits.{never}
use Rattle.ordup_check.specs.ShortRows.{from_row}
use Rattle.ordup_check.specs.Reading.{AllCame, HasBadRow, has_never}

-- ---- the states of a reader without comments

abbrev pub is_open : State → Bool
is_open st.InComment = false
is_open _ = true

-- a state is one or another
open_state : (b : Bool) (s t : State) → is_open s ≡ true → is_open t ≡ true → is_open (if b then s else t) ≡ true
open_state true s t h k = h
open_state false s t h k = k

-- a step is one or another
open_if : (b : Bool) (x y : State × Action) → is_open x.0 ≡ true → is_open y.0 ≡ true → is_open (if b then x else y).0 ≡ true
open_if true x y h k = h
open_if false x y h k = k

open_in_field : (c : ℕ) → is_open (in_field default_config c).0 ≡ true
open_in_field c =
    open_if (c == 44) _ _ refl (open_if ((c == 13) || (c == 10)) _ _ (open_state (c == 13) st.AfterCr st.StartRecord refl refl) refl)

open_start_field : (c : ℕ) → is_open (start_field default_config c).0 ≡ true
open_start_field c = open_if (c == 34) _ _ refl (open_in_field c)

open_start_record : (c : ℕ) → is_open (start_record default_config c).0 ≡ true
open_start_record c = open_if ((c == 13) || (c == 10)) _ _ refl (open_start_field c)

open_step : (s : State) (c : ℕ) → is_open s ≡ true → is_open (step default_config s c).0 ≡ true
open_step st.StartRecord c live = open_start_record c
open_step st.StartField c live = open_start_field c
open_step st.InField c live = open_in_field c
open_step st.InQuoted c live = open_if (c == 34) _ _ refl refl
open_step st.InEscape c live = refl
open_step st.AfterQuote c live = open_if (c == 34) _ _ refl (open_in_field c)
open_step st.InComment c live = absurd cc
open_step st.AfterCr c live = open_if (c == 10) _ _ refl (open_start_record c)

-- ---- the row of the byte that never came

last_never : (fields : List (List ℕ)) (field : List ℕ) → has_never (fields ++ (field ++ never ∷ []) ∷ []) ≡ true
last_never fields field =
    list_any-append (list_any (λ b. b == never)) fields ((field ++ never ∷ []) ∷ [])
    ∙ ap (λ b. list_any (list_any (λ c. c == never)) fields || (b || false))
    (list_any-append (λ b. b == never) field (never ∷ []) ∙ or-true (list_any (λ b. b == never) field))
    ∙ or-true (list_any (list_any (λ c. c == never)) fields)

-- What is read next before the byte that never came: a row that has it; or a row before it, which is read too however the text goes
-- on.
abbrev GoesOn : Option Read → (List ℕ → Option Read) → Type 0
GoesOn None on = ⊥
GoesOn (Some p) on =
    (has_never p.0 ≡ true)
    ⊎ ((is_open p.1 ≡ true) × (left : List ℕ) × (p.2 ≡ left ++ never ∷ [])
    × ((more : List ℕ) → on more ≡ Some (p.0, p.1, left ++ more)))

at_last : (s : State) (fields : List (List ℕ)) (field : List ℕ) → is_open s ≡ true
    → GoesOn (next_record default_config s fields field (never ∷ [])) (λ more. next_record default_config s fields field more)
unfolding next_record
at_last st.InComment fields field live = absurd cc
at_last _ fields field live = inl (last_never fields field)

-- one byte before the others
go_on_if : (b : Bool) (p : Read) (o : Option Read) (q on : List ℕ → Option Read) → (b ≡ true → GoesOn (Some p) q) → GoesOn o on
    → GoesOn (if b then Some p else o) (λ more. if b then q more else on more)
go_on_if true p o q on h k = h refl
go_on_if false p o q on h k = k

goes_on : (bytes : List ℕ) (s : State) (fields : List (List ℕ)) (field : List ℕ) → is_open s ≡ true
    → GoesOn (next_record default_config s fields field (bytes ++ never ∷ []))
    (λ more. next_record default_config s fields field (bytes ++ more))
unfolding next_record
goes_on [] s fields field live = at_last s fields field live
goes_on (c ∷ bytes) s fields field live =
    go_on_if (is_end (step default_config s c).1) _ _ _ _ (λ e. inr (open_step s c live, bytes, refl, λ more. refl))
    (goes_on bytes (step default_config s c).0 (fields_after (step default_config s c).1 fields field)
    (field_after (step default_config s c).1 c field) (open_step s c live))

-- rows that came are read too however the text goes on
front_rows : (rows : List Row) (s t : State) (bytes rest : List ℕ) → is_open s ≡ true → AllCame rows
    → Reached default_config s (bytes ++ never ∷ []) rows t rest
    → (is_open t ≡ true) × (left : List ℕ) × (rest ≡ left ++ never ∷ [])
    × ((more : List ℕ) → Reached default_config s (bytes ++ more) rows t (left ++ more))
unfolding Reached
front_rows [] s t bytes rest live came (same, whole) =
    (subst (λ z. is_open z ≡ true) same live, bytes, sym whole, λ more. (same, refl))
front_rows (row ∷ rows) s t bytes rest live came (p, e, is, h) =
    let both = or_parts (has_never row) (list_any has_never rows) came in
    elim (subst (λ o. GoesOn o (λ more. next_record default_config s [] [] (bytes ++ more))) e (goes_on bytes s [] [] live)) [
      | inl lost ↦ absurd (false≢true (sym both.0 ∙ (ap has_never is ∙ lost)))
      | inr more ↦ (let (open2, left, left_is, on) = more in
          let (open3, rest2, rest_is, follow) =
          front_rows rows p.1 t left rest open2 both.1 (subst (λ l. Reached default_config p.1 l rows t rest) left_is h) in
          (open3, rest2, rest_is, λ more. ((p.0, p.1, left ++ more), on more, is, follow more)))
    ]

-- rows that came are not all rows
rows_are_not_all : (rows : List Row) (bytes : List ℕ) → AllCame rows → HasRows (bytes ++ never ∷ []) rows → ⊥
rows_are_not_all rows bytes came (t, rest, h, none) =
    let (open2, left, left_is, on) = front_rows rows st.StartRecord t bytes rest refl came h in
    let end : next_record default_config t [] [] (left ++ never ∷ []) ≡ None = rw (← left_is) none in
    absurd (subst (λ o. GoesOn o (λ more. next_record default_config t [] [] (left ++ more))) end (goes_on left t [] [] open2))

-- ---- a byte order mark at the start of a text

neither : (p q : Bool) → (p && q && false) ≡ false
neither true true = refl
neither true false = refl
neither false q = refl

no_mark : (a b : ℕ) → is_bom a b never ≡ false
no_mark a b = neither (a == 239) (b == 187)

-- the first row of a text has the byte that never came, and is not too long
abbrev pub BeginsLost : List ℕ → Type 0
BeginsLost text =
    (p : Read) × (next_record default_config st.StartRecord [] [] text ≡ Some p) × (has_never p.0 ≡ true) × (from_row text ≡ text)

third : (p q r : Bool) → (p && q) ≡ false → (p && q && r) ≡ false
third true true r other = absurd cc
third true false r other = refl
third false q r other = refl

-- one byte, and a mark does not begin with it
pub not_a : (a : ℕ) → (a == 239) ≡ false → (more : List ℕ) → strip_bom (a ∷ more) ≡ a ∷ more
unfolding strip_bom
not_a a other [] = refl
not_a a other (b ∷ []) = refl
not_a a other (b ∷ c ∷ more) = rw other refl

pub not_ab : (a b : ℕ) → ((a == 239) && (b == 187)) ≡ false → (more : List ℕ) → strip_bom (a ∷ b ∷ more) ≡ a ∷ b ∷ more
unfolding strip_bom
not_ab a b other [] = refl
not_ab a b other (c ∷ more) = rw (third (a == 239) (b == 187) (c == 191) other) refl

lost_a : (a : ℕ) → a ≡ 239 → BeginsLost (a ∷ never ∷ [])
unfolding next_record
lost_a a is = rw is ((((239 ∷ never ∷ []) ∷ []), st.StartRecord, []), refl, refl, refl)

lost_ab : (a b : ℕ) → a ≡ 239 → b ≡ 187 → BeginsLost (a ∷ b ∷ never ∷ [])
unfolding next_record
lost_ab a b is is2 = rw (is, is2) ((((239 ∷ 187 ∷ never ∷ []) ∷ []), st.StartRecord, []), refl, refl, refl)

-- The first bytes of a text are a mark and others, or others alone, however the text goes on; or there are too few to tell, and
-- then no row came.
abbrev pub Begins : List ℕ → List ℕ → Type 0
Begins bytes left = ((more : List ℕ) → strip_bom (bytes ++ more) ≡ left ++ more) ⊎ BeginsLost (left ++ never ∷ [])

pub strip_cut : (bytes : List ℕ) → (left : List ℕ) × (strip_bom (bytes ++ never ∷ []) ≡ left ++ never ∷ []) × Begins bytes left
unfolding next_record strip_bom
strip_cut [] = ([], refl, inr ((((never ∷ []) ∷ []), st.StartRecord, []), refl, refl, refl))
strip_cut (a ∷ []) = (
  a ∷ [],
  refl,
  elim (cases_Bool (a == 239)) [
    | inl mark ↦ inr (lost_a a (eqb-true a 239 mark))
    | inr none ↦ inl (not_a a none)
  ],
)
strip_cut (a ∷ b ∷ []) = (
  a ∷ b ∷ [],
  rw (no_mark a b) refl,
  elim (cases_Bool ((a == 239) && (b == 187))) [
    | inl mark ↦ (let both = and_parts (a == 239) (b == 187) mark in
        inr (lost_ab a b (eqb-true a 239 both.0) (eqb-true b 187 both.1)))
    | inr none ↦ inl (not_ab a b none)
  ],
)
strip_cut (a ∷ b ∷ c ∷ rest) = elim (cases_Bool (is_bom a b c)) [
  | inl mark ↦ (rest, rw mark refl, inl (λ more. rw mark refl))
  | inr none ↦ (a ∷ b ∷ c ∷ rest, rw none refl, inl (λ more. rw none refl))
]

-- ---- a text that was cut off

-- a bad row that came is one however the text goes on
pub begun_bad : (left : List ℕ) (n : ℕ) → HasBadRow (left ++ never ∷ []) n → (more : List ℕ) → IsMalformedAt (left ++ more) n
begun_bad left n (rows, (t, rest, h), came, bad) more =
    let (open2, left2, rest_is, follow) = front_rows rows st.StartRecord t left rest refl came h in
    inl (rows, (t, left2 ++ more, follow more), bad)

-- the first rows that came are the first ones however the text goes on
pub begun_rows : (left : List ℕ) (rows : List Row) → BeginsWithRows (left ++ never ∷ []) rows → AllCame rows → (more : List ℕ)
    → BeginsWithRows (left ++ more) rows
begun_rows left rows (t, rest, h) came more =
    let (open2, left2, rest_is, follow) = front_rows rows st.StartRecord t left rest refl came h in
    (t, left2 ++ more, follow more)

-- no row came where the first row is lost
pub lost_rows : (text : List ℕ) (row : Row) (rows : List Row) → BeginsLost text → BeginsWithRows text (row ∷ rows) → AllCame (row ∷ rows) → ⊥
unfolding Reached
lost_rows text row rows (q, f, lost, same) (t, rest, (p, e, is, h)) came =
    let both = or_parts (has_never row) (list_any has_never rows) came in
    let one : q ≡ p = same_Some q p (sym f ∙ e) in
    false≢true (sym both.0 ∙ (ap has_never is ∙ (ap (λ z. has_never z.0) (sym one) ∙ lost)))

pub lost_bad : (text : List ℕ) (n : ℕ) → BeginsLost text → HasBadRow text n → ⊥
lost_bad text n lost ([], begins, came, bad) = absurd (omega (arith, bad.0, bad.1))
lost_bad text n lost (row ∷ rows, begins, came, bad) = lost_rows text row rows lost begins came

pub cut_is_not_all : (bytes : List ℕ) (rows : List Row) → AllCame rows → HasRows (strip_bom (bytes ++ never ∷ [])) rows → ⊥
cut_is_not_all bytes rows came all =
    let (left, e, begins) = strip_cut bytes in
    rows_are_not_all rows left came (subst (λ t. HasRows t rows) e all)
