-- Rows without quotes are passed on together.
use Rattle.std.proofs.Common.{◌+◌, ◌++◌, ◌-◌, ◌<◌, ◌==◌, ◌||◌, ◌∙◌, ◌∷◌, ◌≡◌, ◌≤◌, [], All, ap, append_assoc, arith, Bool, false}
use Rattle.std.proofs.Common.{inl, inr, length, List, refl, subst, sym, take, true, ℕ, add-one}
use Rattle.std.proofs.lemmas.Bool.{cases_Bool}
use Rattle.std.proofs.lemmas.Bool.Decides.{nat_tests}
use Rattle.std.proofs.Math.Seq.{split_at, take-add}
use Rattle.std.proofs.Common.{drop, get_or}
use Rattle.std.proofs.lemmas.List.{length-take, take_more}
use Rattle.std.proofs.lemmas.List.{drop-drop, get_or-take, take-take}
use Rattle.std.proofs.lemmas.Bool.{eqb-true}
use Rattle.std.specs.Prelude.{is_some, None, Option, Some}
use Rattle.std.proofs.lemmas.List.Elements.{All-from_get_or, All-head, All-tail, All-take}
use Rattle.memchr.specs.Find.{IsFirstByte, IsLastByte, is_byte}
use Rattle.ordup_check.specs.ShortRows.{ends_at_long_row, from_row, in_column, is_row, most_row_bytes, state_after}
use Rattle.ordup_check.proofs.LongRowLemmas.{row_is}
use Rattle.ordup_check.specs.declared.short_rows.RowState.{RowState}
use Rattle.ordup_check.specs.declared.short_rows.RowState.TheVariants as at

-- no quote
abbrev pub IsUnquoted : ℕ → Type 0
IsUnquoted b = (b == 34) ≡ false

-- no quote is open in this state, and the mark is passed
abbrev is_plain : RowState → Bool
is_plain at.Row = true
is_plain at.Edge = true
is_plain at.Plain = true
is_plain _ = false

stays_plain : (b : ℕ) → is_plain (in_column b) ≡ true
stays_plain b = elim (cases_Bool (b == 44)) [
  | inl comma ↦ rw comma refl
  | inr other ↦ elim (cases_Bool ((b == 13) || (b == 10))) [
    | inl end ↦ rw (other, end) refl
    | inr plain ↦ rw (other, plain) refl
  ]
]

next_in_column : (s : RowState) (b : ℕ) → is_plain s ≡ true → IsUnquoted b → state_after s b ≡ in_column b
next_in_column at.Row b plain other = rw other refl
next_in_column at.Edge b plain other = rw other refl
next_in_column at.Plain b plain other = refl
next_in_column at.Text b plain other = absurd cc
next_in_column at.MarkOfOne b plain other = absurd cc
next_in_column at.MarkOfTwo b plain other = absurd cc
next_in_column at.Quoted b plain other = absurd cc

-- bytes without a quote, which a row can take, are passed on up to a line feed behind them
passes_feed : (bytes : List ℕ) (s : RowState) (left : ℕ) (more : List ℕ) → is_plain s ≡ true → length bytes ≤ left
    → left ≤ most_row_bytes → All IsUnquoted bytes
    → ends_at_long_row s left (bytes ++ 10 ∷ more) ≡ bytes ++ 10 ∷ from_row more
passes_feed [] s left more plain fits few unquoted = rw (next_in_column s 10 plain refl) refl
passes_feed (b ∷ bytes) s left more plain fits few unquoted =
    let rest = All-tail IsUnquoted b bytes unquoted in
    rw (next_in_column s b plain (All-head IsUnquoted b bytes unquoted)) (elim (cases_Bool (is_row (in_column b))) [
      | inl row ↦ rw row (ap (λ l. b ∷ l) (passes_feed bytes at.Row most_row_bytes more refl (omega (arith, fits, few)) (omega arith) rest))
      | inr within ↦ (let some : (left == 0) ≡ false = grind (arith, nat_tests) in
          rw (within, some) (ap (λ l. b ∷ l)
          (passes_feed bytes (in_column b) (left - 1) more (stays_plain b) (omega (arith, fits)) (omega (arith, few)) rest)))
    ])

-- the rows up to a line feed that is among the first bytes, where none of the bytes is a quote
pub passes_rows : (bytes : List ℕ) (end : ℕ) (more : List ℕ) → end < length bytes → end ≤ most_row_bytes → get_or bytes end 0 ≡ 10
    → All IsUnquoted (take end bytes)
    → from_row (bytes ++ more) ≡ take (end + 1) bytes ++ from_row (drop (end + 1) bytes ++ more)
passes_rows bytes end more within few feed unquoted =
    let front = take end bytes in
    let back = drop (end + 1) bytes in
    let upto : take (end + 1) bytes ≡ front ++ 10 ∷ [] = take_more bytes end 0 within ∙ ap (λ b. front ++ b ∷ []) feed in
    let all : bytes ≡ front ++ 10 ∷ back = rw (← feed, add-one) (split_at bytes end 0 within) in
    ap (λ l. from_row (l ++ more)) all ∙ ap from_row (append_assoc front (10 ∷ back) more)
    ∙ passes_feed front at.Row most_row_bytes (back ++ more) refl (omega (arith, length-take {A = ℕ})) (omega arith) unquoted
    ∙ sym (append_assoc front (10 ∷ []) (from_row (back ++ more))) ∙ ap (λ l. l ++ from_row (back ++ more)) (sym upto)

is_false : (b : Bool) → ¬ (b ≡ true) → b ≡ false
is_false true h = absurd (h refl)
is_false false h = refl

no_quote : (bytes : List ℕ) (found : Option ℕ) → IsFirstByte (is_byte 34) bytes found → is_some found ≡ false → All IsUnquoted bytes
no_quote bytes None nowhere none =
    All-from_get_or IsUnquoted bytes 0 (λ k below. is_false (get_or bytes k 0 == 34) (nowhere k (omega arith) below))
no_quote bytes (Some k) found none = absurd cc

-- the rows up to the last line feed among the first bytes, where none of their bytes is a quote
pub passes_found : (state : RowState) (left : ℕ) (bytes : List ℕ) (n end : ℕ) (quote : Option ℕ) (more : List ℕ)
    → is_row state ≡ true → left ≡ most_row_bytes → n ≤ most_row_bytes
    → IsLastByte (is_byte 10) (take n bytes) (Some end)
    → IsFirstByte (is_byte 34) (take (end + 1) (take n bytes)) quote → is_some quote ≡ false
    → ends_at_long_row state left (bytes ++ more)
    ≡ take (end + 1) bytes ++ ends_at_long_row state left (drop (end + 1) bytes ++ more)
passes_found state left bytes n end quote more row full few (last, feed) unquoted none =
    let within : end < n = omega (arith, last.high, length-take {A = ℕ}) in
    let here : get_or (take n bytes) end 0 ≡ get_or bytes end 0 = get_or-take n bytes end 0 within in
    let rows : take (end + 1) (take n bytes) ≡ take (end + 1) bytes = take-take (end + 1) n bytes (omega (arith, within)) in
    rw (row_is state row, full)
    (passes_rows bytes end more (omega (arith, last.high, length-take {A = ℕ})) (omega (arith, within, few)) (sym here ∙ eqb-true _ 10 feed)
    (subst (All IsUnquoted) (take-take end (end + 1) bytes (omega arith))
    (All-take IsUnquoted end (take (end + 1) bytes) (no_quote (take (end + 1) bytes) quote (rw rows at unquoted) none))))

-- more of the bytes are passed on
pub passes_more : (bytes back : List ℕ) (count rows : ℕ) (text f : List ℕ → List ℕ) → back ≡ drop count bytes
    → ((more : List ℕ) → text more ≡ take count bytes ++ f (drop count bytes ++ more))
    → ((more : List ℕ) → f (back ++ more) ≡ take rows back ++ f (drop rows back ++ more))
    → (more : List ℕ) → text more ≡ take (count + rows) bytes ++ f (drop (count + rows) bytes ++ more)
passes_more bytes back count rows text f is so_far next more =
    so_far more ∙ ap (λ l. take count bytes ++ l) (rw is at (next more))
    ∙ sym (append_assoc (take count bytes) (take rows (drop count bytes)) (f (drop rows (drop count bytes) ++ more)))
    ∙ rw (drop-drop rows count bytes, take-add count rows bytes) refl
