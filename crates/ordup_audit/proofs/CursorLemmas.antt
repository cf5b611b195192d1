-- Places that are passed one after the other.
use Rattle.ordup_audit.proofs.Common.{◌+◌, ◌-◌, ◌<◌, ◌∙◌, ◌∷◌, ◌≡◌, ◌≤◌, [], AllPairs, AllPairs-from_increasing, ap, arith, awaited_place}
use Rattle.ordup_audit.proofs.Common.{Bool, cases_lt, eq-eqb, false, full_rounds, get_or, get_or-map, get_or_default, inl, inr}
use Rattle.ordup_audit.proofs.Common.{IsStrictlyIncreasing, le-leb, length, length-map, List, lt-leb, map, None, or-true, refl, report_at}
use Rattle.ordup_audit.proofs.Common.{Some, suc, sym, true, zero, ℕ}
use Rattle.std.specs.Prelude.{◌==◌, ◌⊎◌, if◌then◌else◌, unwrap_or}
use Rattle.std.proofs.lemmas.Bool.{ne_eqb}
use Rattle.ordup_rounds.proofs.PlaceLemmas.{has_place}
use Rattle.ordup_audit.specs.declared.report_change.ReportChange.{ReportChange}
use Rattle.ordup_audit.proofs.ReportLemmas.{ArePassed, report_at-none, report_at-last}
use Rattle.ordup_audit.specs.Cursors.{AreUpto}

-- none of them is up to 0
pub upto-none : (places : List ℕ) → ((i d : ℕ) → i < length places → 0 < get_or places i d) → AreUpto 0 places 0
upto-none places some = record { few = omega arith; parted = (λ j d le lt. absurd (omega arith), λ j d le lt. some j d lt) }

-- the next one is this place
pub upto-more : (k n place : ℕ) (places : List ℕ) → IsStrictlyIncreasing places → AreUpto k places n → n < length places
    → get_or places n 0 ≡ place → k + 1 ≡ place → AreUpto place places (n + 1)
upto-more k n place places rise upto there here now =
    let pairs : AllPairs (λ x y. x < y) places = AllPairs-from_increasing places rise in
    record {
      few = omega arith;
      parted = (
        λ j d le lt. elim (cases_lt j n) [
          | inl before ↦ omega (arith, upto.parted.0 j d (omega arith) before)
          | inr past ↦ (let same : j ≡ n = omega arith in rw (same, get_or_default places n d 0 there) (omega arith))
        ],
        λ j d le lt. omega (arith, pairs n j d (omega arith) lt, get_or_default places n d 0 there),
      );
    }

-- the next one is not this place
pub upto-same : (k n place : ℕ) (places : List ℕ) → IsStrictlyIncreasing places → AreUpto k places n
    → (n < length places → get_or places n 0 ≡ place → ⊥) → k + 1 ≡ place → AreUpto place places n
upto-same k n place places rise upto other now =
    let pairs : AllPairs (λ x y. x < y) places = AllPairs-from_increasing places rise in
    record {
      few = upto.few;
      parted = (
        λ j d le lt. omega (arith, upto.parted.0 j d le lt),
        λ j d le lt. elim (cases_lt n j) [
          | inl after ↦ omega (arith, pairs n j d after lt, upto.parted.1 n d (omega arith) (omega arith))
          | inr at ↦ (
              let same : j ≡ n = omega arith in
              let here : n < length places = omega arith in
              let past : k < get_or places n d = upto.parted.1 n d (omega arith) here in
              let default : get_or places n d ≡ get_or places n 0 = get_or_default places n d 0 here in
              elim (cases_lt place (get_or places n 0)) [
                | inl lt ↦ rw same (omega arith)
                | inr le ↦ absurd (other here (omega arith))
              ])
        ],
      );
    }

-- ---- what was reported

abbrev pub places_of : List ReportChange → List ℕ
places_of changes = map (λ (c : ReportChange). c.place) changes

place-at : (changes : List ReportChange) (n : ℕ) (d : ReportChange) (e : ℕ) → n < length changes
    → get_or (places_of changes) n e ≡ (get_or changes n d).place
place-at changes n d e lt = get_or-map (λ (c : ReportChange). c.place) changes n d e lt

places-count : (changes : List ReportChange) → length (places_of changes) ≡ length changes
places-count changes = length-map changes (λ (c : ReportChange). c.place)

pub reports-more : (changes : List ReportChange) (k n place : ℕ) (d : ReportChange) → IsStrictlyIncreasing (places_of changes)
    → AreUpto k (places_of changes) n → n < length changes → (get_or changes n d).place ≡ place → k + 1 ≡ place
    → AreUpto place (places_of changes) (n + 1)
reports-more changes k n place d rise upto there here now =
    upto-more k n place (places_of changes) rise upto (rw (places-count changes) there) (place-at changes n d 0 there ∙ here) now

pub reports-same : (changes : List ReportChange) (k n place : ℕ) (d : ReportChange) → IsStrictlyIncreasing (places_of changes)
    → AreUpto k (places_of changes) n → (n < length changes → (get_or changes n d).place ≡ place → ⊥) → k + 1 ≡ place
    → AreUpto place (places_of changes) n
reports-same changes k n place d rise upto other now =
    upto-same k n place (places_of changes) rise upto
    (λ lt at. (let there : n < length changes = rw (places-count changes) at lt in
    other there (sym (place-at changes n d 0 there) ∙ at))) now

upto-passed : (changes : List ReportChange) (k n : ℕ) → AreUpto k (places_of changes) n → ArePassed changes k n
upto-passed changes k n upto =
    let same = places-count changes in (
      λ j d le lt. le-leb (get_or changes j d).place k
          (rw (place-at changes j d d.place (omega (arith, upto.few))) at (upto.parted.0 j d.place le lt)),
      λ j d le lt. lt-leb (get_or changes j d).place k
          (rw (place-at changes j d d.place lt) at (upto.parted.1 j d.place le (omega arith))),
    )

pub reported-none : (changes : List ReportChange) (k n : ℕ) → n ≡ 0 → AreUpto k (places_of changes) n
    → 0 ≡ report_at changes k
reported-none changes k n none upto = report_at-none changes k n (upto-passed changes k n upto) none

pub reported-last : (changes : List ReportChange) (k n : ℕ) (d : ReportChange) → (n ≡ 0 → ⊥) → n ≤ length changes
    → AreUpto k (places_of changes) n → (get_or changes (n - 1) d).reported ≡ report_at changes k
reported-last changes k n d some le upto = report_at-last changes k n d (upto-passed changes k n upto) (omega arith) le

-- ---- what is awaited

place-absent : (k : ℕ) (xs : List ℕ) → ((i : ℕ) → i < length xs → get_or xs i 0 ≡ k → ⊥) → has_place k xs ≡ false
place-absent k [] absent = refl
place-absent k (x ∷ xs) absent =
    rw (ne_eqb x k (absent 0 (omega arith))) (place-absent k xs (λ i lt. absent (suc i) (omega arith)))

place-there : (k i : ℕ) (xs : List ℕ) → i < length xs → get_or xs i 0 ≡ k → has_place k xs ≡ true
place-there k i [] lt at = absurd (omega arith)
place-there k zero (x ∷ xs) lt at = rw (eq-eqb x k at) refl
place-there k (suc i) (x ∷ xs) lt at = rw (place-there k i xs (omega arith) at) (or-true (x == k))

awaits-upto : (b : Bool) (k : ℕ) → unwrap_or (if b then Some k else None) 0 ≤ k
awaits-upto true k = omega arith
awaits-upto false k = omega arith

awaited-upto : (rounds : List ℕ) (k : ℕ) → awaited_place (full_rounds rounds) k ≤ k
awaited-upto rounds zero = omega arith
awaited-upto rounds (suc k) = omega (arith, awaited-upto rounds k, awaits-upto (has_place (suc k) rounds) (suc k))

-- it is the last of the rounds up to the place
awaited-at : (rounds : List ℕ) (k m : ℕ) → m ≤ k → (m ≡ 0) ⊎ (has_place m rounds ≡ true)
    → ((j : ℕ) → m < j → j ≤ k → has_place j rounds ≡ false) → m ≡ awaited_place (full_rounds rounds) k
awaited-at rounds zero m le is later = omega arith
awaited-at rounds (suc k) m le is later = elim (cases_lt m (suc k)) [
  | inl before ↦ rw (later (suc k) before (omega arith))
      (omega (arith, awaited-at rounds k m (omega arith) is (λ j after upto. later j after (omega arith))))
  | inr past ↦ (
      let at : m ≡ suc k = omega arith in
      elim is [
        | inl none ↦ absurd (omega arith)
        | inr there ↦ (
            let has : has_place (suc k) rounds ≡ true = rw at at there in
            rw has (omega (arith, awaited-upto rounds k)))
      ])
]

pub awaited-none : (rounds : List ℕ) (k n : ℕ) → n ≡ 0 → AreUpto k rounds n → 0 ≡ awaited_place (full_rounds rounds) k
awaited-none rounds k n none upto =
    awaited-at rounds k 0 (omega arith) (inl refl)
    (λ j some le. place-absent j rounds (λ i there e. omega (arith, upto.parted.1 i 0 (omega arith) there)))

pub awaited-last : (rounds : List ℕ) (k n : ℕ) → IsStrictlyIncreasing rounds → (n ≡ 0 → ⊥) → AreUpto k rounds n
    → get_or rounds (n - 1) 0 ≡ awaited_place (full_rounds rounds) k
awaited-last rounds k n rise some upto =
    let pairs : AllPairs (λ x y. x < y) rounds = AllPairs-from_increasing rounds rise in
    let there : n - 1 < length rounds = omega (arith, upto.few) in
    awaited-at rounds k (get_or rounds (n - 1) 0) (upto.parted.0 (n - 1) 0 (omega arith) (omega arith))
    (inr (place-there (get_or rounds (n - 1) 0) (n - 1) rounds there refl))
    (λ j after le. place-absent j rounds (λ i lt e. elim (cases_lt i n) [
      | inl before ↦ elim (cases_lt i (n - 1)) [
        | inl earlier ↦ absurd (omega (arith, pairs i (n - 1) 0 earlier there))
        | inr last ↦ (let same : i ≡ n - 1 = omega arith in absurd (omega (arith, ap (λ x. get_or rounds x 0) same)))
      ]
      | inr past ↦ absurd (omega (arith, upto.parted.1 i 0 past lt))
    ]))
