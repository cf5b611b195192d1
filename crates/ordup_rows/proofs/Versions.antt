-- Versions, and the amounts of limits in their rows: each has one spelling.
use Rattle.ordup_audit.proofs.Common.{◌++◌, ◌<◌, ◌==◌, ◌^◌, ◌∙◌, ◌∷◌, ◌≡◌, [], All, ap, arith, Bool, bytes_eq, cases_Bool, codes, decimal, Entries, eqb-true}
use Rattle.ordup_audit.proofs.Common.{false, inl, inr, is_ascii_digit, List, list_all, nat_tests, option_map, refl, same_Some, Scope}
use Rattle.ordup_audit.proofs.Common.{slice_split, Some, sym, true, ℕ}
use Rattle.std.specs.List.{join_with_byte}
use Rattle.std.proofs.lemmas.List.Splits.{join_with_byte-slice_split, slice_split_at, slice_split_none}
use Rattle.ordup_limits.specs.Entries.{entry_of}
use Rattle.ordup_limits.specs.declared.limit_entry.LimitEntry.{LimitEntry}
use Rattle.ordup_rows.specs.Columns.{amount_and_place, amount_by, natural_of}
use Rattle.ordup_rows.specs.Rows.{amount_text}
use Rattle.ordup_rows.specs.Versions.{CanTell, CanTellPlace, version_for, version_of, version_text}
use Rattle.ordup_rows.specs.declared.version.Version.{Version}
use Rattle.ordup_rows.specs.declared.version.Version.TheVariants.{First, Second}
use Rattle.ordup_rows.proofs.Columns.{bound, branch, mapped, natural_of-decimal, natural_spelled, same_bytes}
use Rattle.ordup_rows.proofs.Refusals.{all_from}
use Rattle.ordup_rows.proofs.Words.{decimal_bytes}

-- ---- versions

pub version_spelled : (column : List ℕ) (v : Version) → version_of column ≡ Some v → column ≡ version_text v
version_spelled column v =
    let spelled : (q : Version) → bytes_eq column (version_text q) ≡ true → Some q ≡ Some v → column ≡ version_text v =
    λ q same is. same_bytes column (version_text q) same ∙ ap version_text (same_Some q v is) in
    branch (bytes_eq column (codes "1")) _ _ v (spelled First) (
    branch (bytes_eq column (codes "2")) _ _ v (spelled Second) (λ h. absurd cc))

pub version_of-text : (v : Version) → version_of (version_text v) ≡ Some v
version_of-text First = refl
version_of-text Second = refl

-- the version in which a record is written can tell its limits
pub can_tell-for : (entries : Entries) → CanTell (version_for entries) entries
can_tell-for entries = elim (cases_Bool (list_all (λ (e : LimitEntry). e.place == 1) entries)) [
  | inl first ↦ rw first (all_from (λ (e : LimitEntry). e.place == 1) (λ (e : LimitEntry). e.place ≡ 1)
      (λ e h. eqb-true e.place 1 h) entries first)
  | inr later ↦ rw later (λ k d lt. tt)
]

-- ---- amounts

abbrev pub is_at : ℕ → Bool
is_at byte = byte == 64

digit_not_at : (b : ℕ) → is_ascii_digit b ≡ true → is_at b ≡ false
digit_not_at b h = grind (arith, nat_tests)

parts_spelled : (parts : List (List ℕ)) (limit : ℕ × ℕ) → amount_and_place parts ≡ Some limit
    → join_with_byte 64 parts ≡ join_with_byte 64 (decimal limit.0 ∷ decimal limit.1 ∷ [])
parts_spelled [] limit h = absurd cc
parts_spelled (amount ∷ []) limit h = absurd cc
parts_spelled (amount ∷ place ∷ []) limit h =
    let (n, read, rest) = bound _ (natural_of amount) limit h in
    let (k, read2, is) = bound _ (natural_of place) limit rest in
    ap (λ x. x ++ 64 ∷ place) (natural_spelled amount n read).1
    ∙ ap (λ x. decimal n ++ 64 ∷ x) (natural_spelled place k read2).1
    ∙ ap (λ (l : ℕ × ℕ). decimal l.0 ++ 64 ∷ decimal l.1) (same_Some (n, k) limit is)
parts_spelled (amount ∷ place ∷ part ∷ parts) limit h = absurd cc

-- a column that tells an amount and a place is their text
pub amount_spelled : (version : Version) (column : List ℕ) (limit : ℕ × ℕ) (s : Scope) → amount_by version column ≡ Some limit
    → column ≡ amount_text version (entry_of s limit.0 limit.1)
amount_spelled First column limit s h =
    let (n, read, is) = mapped (λ n. (n, 1)) (natural_of column) limit h in
    (natural_spelled column n read).1 ∙ ap (λ (l : ℕ × ℕ). decimal l.0) is
amount_spelled Second column limit s h =
    sym (join_with_byte-slice_split 64 column) ∙ parts_spelled (slice_split is_at column) limit h

-- and its version can tell the place
pub can_tell-read : (version : Version) (column : List ℕ) (limit : ℕ × ℕ) → amount_by version column ≡ Some limit
    → CanTellPlace version limit.1
can_tell-read First column limit h =
    let (n, read, is) = mapped (λ n. (n, 1)) (natural_of column) limit h in
    ap (λ (l : ℕ × ℕ). l.1) (sym is)
can_tell-read Second column limit h = tt

-- no byte of a number is an `@`
pub digits_not_at : (n : ℕ) → n < 10 ^ 19 → All (λ b. is_at b ≡ false) (decimal n)
digits_not_at n small = decimal_bytes (λ b. is_at b ≡ false) digit_not_at n small

two_parts : (n k : ℕ) → n < 10 ^ 19 → k < 10 ^ 19
    → slice_split is_at (decimal n ++ 64 ∷ decimal k) ≡ decimal n ∷ decimal k ∷ []
two_parts n k small near =
    slice_split_at is_at (decimal n) 64 (decimal k) (digits_not_at n small) refl
    ∙ ap (λ parts. decimal n ∷ parts) (slice_split_none is_at (decimal k) (digits_not_at k near))

-- the text of an amount and a place that the version can tell is read as them
pub amount_by-text : (version : Version) (e : LimitEntry) → CanTellPlace version e.place → e.limit.amount < 10 ^ 19 → e.place < 10 ^ 19
    → amount_by version (amount_text version e) ≡ Some (e.limit.amount, e.place)
amount_by-text First e first small near =
    ap (option_map (λ n. (n, 1))) (natural_of-decimal e.limit.amount small) ∙ ap (λ k. Some (e.limit.amount, k)) (sym first)
amount_by-text Second e first small near =
    rw (
      two_parts e.limit.amount e.place small near,
      natural_of-decimal e.limit.amount small,
      natural_of-decimal e.place near,
    ) refl
