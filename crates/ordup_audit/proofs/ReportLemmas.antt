-- What was reported at a place, by the changes up to it.
use Rattle.ordup_audit.proofs.Common.{◌-◌, ◌<◌, ◌∷◌, ◌≡◌, ◌≤◌, [], All, All-tail, AllPairs, AllPairs-from_increasing, arith, cases_lt}
use Rattle.ordup_audit.proofs.Common.{false, get_or, get_or-map, inl, inr, IsStrictlyIncreasing, le-leb, leb, leb-true, length, length-map}
use Rattle.ordup_audit.proofs.Common.{List, lt-leb, map, nat_le, refl, report_at, suc, sym, true, zero, ℕ}
use Rattle.std.proofs.Common.{fold}
use Rattle.std.specs.Prelude.{if◌then◌else◌}
use Rattle.std.specs.List.Sorted.{IsNonDecreasingBy, IsPartitionPoint}
use Rattle.std.proofs.lemmas.Bool.{leb-false}
use Rattle.std.proofs.lemmas.List.Elements.{All-head}
use Rattle.ordup_audit.specs.declared.report_change.ReportChange.{ReportChange}

-- what was reported at a place, where it was this before the changes
abbrev report_from : ℕ → List ReportChange → ℕ → ℕ
report_from reported changes k = fold (λ reported c. if nat_le c.place k then c.reported else reported) reported changes

-- later changes leave it as it was
report_from-later : (reported : ℕ) (changes : List ReportChange) (k : ℕ) → All (λ (c : ReportChange). k < c.place) changes
    → report_from reported changes k ≡ reported
report_from-later reported [] k later = refl
report_from-later reported (c ∷ changes) k later =
    rw (lt-leb c.place k (All-head (λ (c : ReportChange). k < c.place) c changes later))
    (report_from-later reported changes k (All-tail (λ (c : ReportChange). k < c.place) c changes later))

-- the report at k is that of change i, where i is at or before k and all changes after it are later
report_from-last : (reported : ℕ) (changes : List ReportChange) (k i : ℕ) (d : ReportChange) → i < length changes
    → (get_or changes i d).place ≤ k
    → ((j : ℕ) (e : ReportChange) → i < j → j < length changes → k < (get_or changes j e).place)
    → report_from reported changes k ≡ (get_or changes i d).reported
report_from-last reported [] k i d lt last later = absurd (omega arith)
report_from-last reported (c ∷ changes) k zero d lt last later =
    rw (le-leb c.place k last) (report_from-later c.reported changes k
    (λ j e there. later (suc j) e (omega arith) (omega arith)))
report_from-last reported (c ∷ changes) k (suc i) d lt last later =
    report_from-last (if nat_le c.place k then c.reported else reported) changes k i d (omega arith) last
    (λ j e after there. later (suc j) e (omega arith) (omega arith))

-- the places of the changes do not fall
pub places-rise : (changes : List ReportChange) → IsStrictlyIncreasing (map (λ (c : ReportChange). c.place) changes)
    → IsNonDecreasingBy (λ (c : ReportChange). c.place) changes
places-rise changes rise i j d le there = elim (cases_lt i j) [
  | inl lt ↦ (
      let places = map (λ (c : ReportChange). c.place) changes in
      let pairs : AllPairs (λ x y. x < y) places = AllPairs-from_increasing places rise in
      let last : j < length places = rw (length-map changes (λ (c : ReportChange). c.place)) there in
      let before : get_or places i d.place < get_or places j d.place = pairs i j d.place lt last in
      let first : get_or places i d.place ≡ (get_or changes i d).place =
      get_or-map (λ (c : ReportChange). c.place) changes i d d.place (omega arith) in
      let second : get_or places j d.place ≡ (get_or changes j d).place =
      get_or-map (λ (c : ReportChange). c.place) changes j d d.place there in
      omega arith)
  | inr past ↦ (let same : i ≡ j = omega arith in rw same (omega arith))
]

-- the changes up to a place are the first n
abbrev pub ArePassed : List ReportChange → ℕ → ℕ → Type 0
ArePassed changes k n = IsPartitionPoint (λ (c : ReportChange). leb c.place k ≡ true) (λ c. leb c.place k ≡ false) changes n

-- where there are none, nothing was reported
pub report_at-none : (changes : List ReportChange) (k n : ℕ) → ArePassed changes k n → n ≡ 0 → 0 ≡ report_at changes k
report_at-none changes k n passed none =
    sym (report_from-later 0 changes k (λ j d there. leb-false (get_or changes j d).place k (passed.1 j d (omega arith) there)))

-- and else it was reported with the last of them
pub report_at-last : (changes : List ReportChange) (k n : ℕ) (d : ReportChange) → ArePassed changes k n → 0 < n
    → n ≤ length changes
    → (get_or changes (n - 1) d).reported ≡ report_at changes k
report_at-last changes k n d passed some le =
    sym (report_from-last 0 changes k (n - 1) d (omega arith)
    (leb-true (get_or changes (n - 1) d).place k (passed.0 (n - 1) d (omega arith) (omega arith)))
    (λ j e after there. leb-false (get_or changes j e).place k (passed.1 j e (omega arith) there)))
