-- Of a text that was cut off, and ends in a row that is too long, a bad row is one however the text goes on.
use Rattle.ordup_audit.proofs.Common.{◌++◌, ◌∙◌, ◌∷◌, [], ap, IfSome, inl, inr, List, None, Option, option_map, Some, subst, sym, ℕ}
use Rattle.csv.specs.Reading.{strip_bom}
use Rattle.ordup_rows.specs.Stages.{Stage}
use Rattle.ordup_rows.specs.Rows.{Row}
use Rattle.ordup_rows.specs.Texts.{BeginsWithRows, IsMalformedAt}
use Rattle.ordup_check.specs.Limits.{never}
use Rattle.ordup_check.specs.Reading.{AllCame, HasBadRow, IsTaken}
use Rattle.ordup_check.specs.ShortRows.{ends_at_long_row, from_row, most_row_bytes}
use Rattle.ordup_check.specs.declared.short_rows.RowState.TheVariants as at
use Rattle.ordup_check.proofs.LimitLemmas.{begun_bad, begun_rows, lost_bad, lost_rows, strip_cut}
use Rattle.ordup_check.proofs.LongRowLemmas.{Splits, mark_passes, one_byte, short_malformed, short_taken, splits}

-- a bad row of what comes of a text is one of the text
pub bad_passes : (text : List ℕ) (n : ℕ) → HasBadRow (from_row text) n → IsMalformedAt text n
bad_passes text n (rows, begins, came, bad) = short_malformed text n (inl (rows, begins, bad))

split_bad : (left : List ℕ) (n : ℕ) → HasBadRow (from_row (left ++ never ∷ [])) n → (more : List ℕ)
    → Splits left (λ more. from_row (left ++ more)) → IsMalformedAt (left ++ more) n
split_bad left n bad more (inl (place, spare, same)) =
    begun_bad left n (subst (λ t. HasBadRow t n) (same (never ∷ []) ∙ ap (λ l. left ++ l) (one_byte place spare never)) bad) more
split_bad left n bad more (inr (front, same)) =
    bad_passes (left ++ more) n (subst (λ t. HasBadRow t n) (same (never ∷ []) ∙ sym (same more)) bad)

pub cut_malformed : (bytes : List ℕ) (n : ℕ) → HasBadRow (from_row (strip_bom (bytes ++ never ∷ []))) n → (more : List ℕ)
    → IsMalformedAt (strip_bom (bytes ++ more)) n
cut_malformed bytes n bad more =
    let (left, e, begins) = strip_cut bytes in
    let there : HasBadRow (from_row (left ++ never ∷ [])) n = subst (λ t. HasBadRow (from_row t) n) e bad in
    elim begins [
      | inl on ↦ subst (λ t. IsMalformedAt t n) (sym (on more)) (split_bad left n there more (splits left at.Row most_row_bytes))
      | inr (p, read, lost, same) ↦ absurd (lost_bad (left ++ never ∷ []) n (p, read, lost, same) (subst (λ t. HasBadRow t n) same there))
    ]

-- ---- the first rows

split_rows : (left : List ℕ) (rows : List Row) → BeginsWithRows (from_row (left ++ never ∷ [])) rows → AllCame rows → (more : List ℕ)
    → Splits left (λ more. from_row (left ++ more)) → BeginsWithRows (from_row (left ++ more)) rows
split_rows left rows begins came more (inl (place, spare, same)) =
    let there = subst (λ t. BeginsWithRows t rows) (same (never ∷ []) ∙ ap (λ l. left ++ l) (one_byte place spare never)) begins in
    subst (λ t. BeginsWithRows t rows) (sym (same more)) (begun_rows left rows there came (ends_at_long_row place spare more))
split_rows left rows begins came more (inr (front, same)) = subst (λ t. BeginsWithRows t rows) (same (never ∷ []) ∙ sym (same more)) begins

pub cut_rows : (bytes : List ℕ) (row : Row) (rows : List Row) → BeginsWithRows (from_row (strip_bom (bytes ++ never ∷ []))) (row ∷ rows)
    → AllCame (row ∷ rows) → (more : List ℕ) → BeginsWithRows (from_row (strip_bom (bytes ++ more))) (row ∷ rows)
cut_rows bytes row rows begins came more =
    let (left, e, begun) = strip_cut bytes in
    let there : BeginsWithRows (from_row (left ++ never ∷ [])) (row ∷ rows) = subst (λ t. BeginsWithRows (from_row t) (row ∷ rows)) e begins in
    elim begun [
      | inl on ↦ subst (λ t. BeginsWithRows (from_row t) (row ∷ rows)) (sym (on more))
          (split_rows left (row ∷ rows) there came more (splits left at.Row most_row_bytes))
      | inr (p, read, lost, same) ↦ absurd (lost_rows (left ++ never ∷ []) row rows (p, read, lost, same)
          (subst (λ t. BeginsWithRows t (row ∷ rows)) same there) came)
    ]

-- ---- the text that a reader was made over

-- what is known of what comes of a text
pub passed_taken : (o : Option (List ℕ)) (stage : Stage) (n : ℕ)
    → IfSome (option_map (ends_at_long_row at.Text most_row_bytes) o) (λ text. IsTaken (strip_bom text) stage n)
    → IfSome o (λ text. IsTaken (strip_bom text) stage n)
passed_taken None stage n h = tt
passed_taken (Some text) stage n h = short_taken (strip_bom text) stage n (subst (λ t. IsTaken t stage n) (mark_passes text) h)

pub passed_bad : (o : Option (List ℕ)) (n : ℕ)
    → IfSome (option_map (ends_at_long_row at.Text most_row_bytes) o) (λ text. HasBadRow (strip_bom text) n)
    → IfSome o (λ text. HasBadRow (from_row (strip_bom text)) n)
passed_bad None n h = tt
passed_bad (Some text) n h = subst (λ t. HasBadRow t n) (mark_passes text) h
