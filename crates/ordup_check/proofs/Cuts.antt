-- Bytes that are let through up to a limit.
use Rattle.ordup_audit.proofs.Common.{◌++◌, ◌+◌, ◌-◌, ◌<◌, ◌∙◌, ◌∷◌, ◌≡◌, ◌≤◌, [], ap, append_assoc, arith, cases_lt, false, IfSome, inl}
use Rattle.ordup_audit.proofs.Common.{inr, length, length-append, List, nat_le, nat_tests, None, Option, option_map, RecordState, refl}
use Rattle.ordup_audit.proofs.Common.{Some, subst, sym, take, take-append-le, true, ℕ}
use Rattle.std.specs.Io.KnownBytes.{Consumes, IsAtEnd}
use Rattle.std.proofs.Math.Seq.{take-append-add}
use Rattle.std.proofs.lemmas.List.{length-take}
use Rattle.csv.specs.Reading.{strip_bom}
use Rattle.ordup_rows.specs.Stages.{Stage, closed}
use Rattle.ordup_rows.specs.Texts.{TextTells}
use Rattle.ordup_check.specs.Limits.{IsMalformedWithin, cut_at, never}
use Rattle.ordup_check.specs.Reading.{HasBadRow, IsTaken}
use Rattle.ordup_check.specs.ShortRows.{ends_at_long_row, from_row, most_row_bytes}
use Rattle.ordup_check.specs.declared.short_rows.RowState.TheVariants as at
use Rattle.ordup_check.proofs.CutRows.{bad_passes, cut_malformed, passed_bad, passed_taken}
use Rattle.ordup_check.proofs.LimitLemmas.{cut_is_not_all}
use Rattle.ordup_check.proofs.ReadSteps.{closed-tells, open-malformed, text-bad, text-taken}

pub short_is : (n : ℕ) (text : List ℕ) → length text ≤ n → cut_at n text ≡ text
short_is n text short = let is : nat_le (length text) n ≡ true = grind (arith, nat_tests) in rw is refl

pub long_is : (n : ℕ) (text : List ℕ) → n < length text → cut_at n text ≡ take n text ++ never ∷ []
long_is n text long = let is : nat_le (length text) n ≡ false = grind (arith, nat_tests) in rw is refl

-- some bytes come, and the rest is cut where it was
cut_rest : (n : ℕ) (bytes text : List ℕ) → length bytes ≤ n → cut_at n (bytes ++ text) ≡ bytes ++ cut_at (n - length bytes) text
cut_rest n bytes text few =
    let long = length-append bytes text in
    elim (cases_lt (n - length bytes) (length text)) [
      | inl rest ↦ (let count : length bytes + (n - length bytes) ≡ n = omega (arith, few) in
          long_is n (bytes ++ text) (omega (arith, long, rest, few))
          ∙ ap (λ k. take k (bytes ++ text) ++ never ∷ []) (sym count)
          ∙ ap (λ t. t ++ never ∷ []) (take-append-add bytes text (n - length bytes))
          ∙ append_assoc bytes (take (n - length bytes) text) (never ∷ [])
          ∙ ap (λ t. bytes ++ t) (sym (long_is (n - length bytes) text rest)))
      | inr short ↦ short_is n (bytes ++ text) (omega (arith, long, short, few))
          ∙ ap (λ t. bytes ++ t) (sym (short_is (n - length bytes) text short))
    ]

consumes_cut : (n count : ℕ) (old new : Option (List ℕ)) (bytes : List ℕ) → length bytes ≡ count → count ≤ n → Consumes old new bytes
    → Consumes (option_map (cut_at n) old) (option_map (cut_at (n - count)) new) bytes
consumes_cut n count None new bytes long few h = tt
consumes_cut n count (Some xs) None bytes long few h = h
consumes_cut n count (Some xs) (Some ys) bytes long few h =
    ap (cut_at n) h ∙ (cut_rest n bytes ys (omega (arith, long, few)) ∙ ap (λ k. bytes ++ cut_at (n - k) ys) long)

end_cut : (n : ℕ) (o : Option (List ℕ)) → IsAtEnd o → IsAtEnd (option_map (cut_at n) o)
end_cut n None h = tt
end_cut n (Some xs) h = ap (cut_at n) h ∙ short_is n [] (omega arith)

-- one read of at most n bytes, into the front of a buffer
pub reads_cut : (n count : ℕ) (old new : Option (List ℕ)) (buffer more : List ℕ) → count ≤ n → count ≤ length buffer
    → (0 < length (buffer ++ more) → 0 < length buffer)
    → Consumes old new (take count buffer) × (count ≡ 0 → 0 < length buffer → IsAtEnd new)
    → Consumes (option_map (cut_at n) old) (option_map (cut_at (n - count)) new) (take count (buffer ++ more))
    × (count ≡ 0 → 0 < length (buffer ++ more) → IsAtEnd (option_map (cut_at (n - count)) new))
reads_cut n count old new buffer more few fits spare h =
    let long : length (take count buffer) ≡ count = simp length-take (omega (arith, fits)) in (
      subst (Consumes (option_map (cut_at n) old) (option_map (cut_at (n - count)) new)) (sym (take-append-le count buffer more fits))
          (consumes_cut n count old new (take count buffer) long few h.0),
      λ none given. end_cut (n - count) new (h.1 none (spare given)),
    )

-- ---- a text that is read within a limit

-- all bytes of a text that was taken to its end came
pub taken_whole : (limit : ℕ) (o : Option (List ℕ)) (stage : Stage) (n : ℕ)
    → IfSome (option_map (cut_at limit) o) (λ text. IsTaken (strip_bom text) stage n)
    → IfSome o (λ text. (length text ≤ limit) × IsTaken (strip_bom text) stage n)
taken_whole limit None stage n h = tt
taken_whole limit (Some text) stage n h = elim (cases_lt limit (length text)) [
  | inl long ↦ (let (rows, all, came, ran, counted) : IsTaken (strip_bom (take limit text ++ never ∷ [])) stage n =
      rw (long_is limit text long) at h in
      absurd (cut_is_not_all (take limit text) rows came all))
  | inr short ↦ (short, rw (short_is limit text short) at h)
]

pub tells_whole : (o : Option (List ℕ)) (limit : ℕ) (stage : Stage) (n : ℕ) (r : RecordState) → closed stage ≡ Some r
    → IfSome o (λ text. (length text ≤ limit) × IsTaken (strip_bom text) stage n)
    → IfSome o (λ text. TextTells (strip_bom text) r)
tells_whole None limit stage n r end h = tt
tells_whole (Some text) limit stage n r end h = closed-tells (strip_bom text) stage n r h.1 end

pub tells_within : (o : Option (List ℕ)) (limit : ℕ) (stage : Stage) (n : ℕ)
    → IfSome o (λ text. (length text ≤ limit) × IsTaken (strip_bom text) stage n)
    → IfSome o (λ text. length text ≤ limit)
tells_within None limit stage n h = tt
tells_within (Some text) limit stage n h = h.0

pub missing_within : (o : Option (List ℕ)) (limit : ℕ) (stage : Stage) (n : ℕ) → closed stage ≡ None
    → IfSome o (λ text. (length text ≤ limit) × IsTaken (strip_bom text) stage n)
    → IfSome o (λ text. IsMalformedWithin limit text n)
missing_within None limit stage n end h = tt
missing_within (Some text) limit stage n end h = inl (h.0, open-malformed (strip_bom text) stage n h.1 end)

pub bad_within : (limit n : ℕ) (o : Option (List ℕ))
    → IfSome (option_map (cut_at limit) o) (λ text. HasBadRow (from_row (strip_bom text)) n)
    → IfSome o (λ text. IsMalformedWithin limit text n)
bad_within limit n None h = tt
bad_within limit n (Some text) h = elim (cases_lt limit (length text)) [
  | inl long ↦ inr (long, cut_malformed (take limit text) n (rw (long_is limit text long) at h))
  | inr short ↦ inl (short, bad_passes (strip_bom text) n (rw (short_is limit text short) at h))
]

-- ---- what is read of a text

abbrev pub read_of : ℕ → Option (List ℕ) → Option (List ℕ)
read_of limit o = option_map (ends_at_long_row at.Text most_row_bytes) (option_map (cut_at limit) o)

pub read_whole : (limit : ℕ) (o source : Option (List ℕ)) (stage : Stage) (n : ℕ) → source ≡ option_map strip_bom (read_of limit o)
    → IfSome source (λ text. IsTaken text stage n)
    → IfSome o (λ text. (length text ≤ limit) × IsTaken (strip_bom text) stage n)
read_whole limit o source stage n is taken =
    taken_whole limit o stage n (passed_taken (option_map (cut_at limit) o) stage n (text-taken (read_of limit o) source stage n is taken))

pub read_bad : (limit : ℕ) (o source : Option (List ℕ)) (n : ℕ) → source ≡ option_map strip_bom (read_of limit o)
    → IfSome source (λ text. HasBadRow text n)
    → IfSome o (λ text. IsMalformedWithin limit text n)
read_bad limit o source n is bad =
    bad_within limit n o (passed_bad (option_map (cut_at limit) o) n (text-bad (read_of limit o) source n is bad))
