-- Lists of round places, as schedules of full rounds.
use Rattle.std.proofs.Common.{◌≡◌, ℕ, zero, suc, ◌+◌, ◌<◌, ◌≤◌, ◌==◌, Bool, true, false, Some, None}
use Rattle.std.proofs.Common.{cond, List, [], ◌∷◌, ◌++◌, length, inl, inr, arith, refl, sym, ap, ◌∙◌}
use Rattle.std.specs.Prelude.{if◌then◌else◌, nat_le, is_some, unwrap_or, All, AllPairs}
use Rattle.std.specs.List.{list_any}
use Rattle.std.proofs.lemmas.Bool.{cases_order, le-leb, lt-leb, eq-eqb, ne_eqb}
use Rattle.std.proofs.lemmas.List.Elements.{All-head, All-tail, All-weaker}
use Rattle.std.proofs.lemmas.List.Kept.{AllPairs-from_increasing}
use Rattle.std.proofs.lemmas.List.Sums.{sum_by-cons, sum_by_push}
use Rattle.ordup_rounds.specs.Schedules.{round_count, awaited_place}
use Rattle.ordup_rounds.specs.Rounds.{AreRoundPlaces, count_upto, full_rounds}
use Rattle.ordup_rounds.specs.Fewest.{RoundPlacesAreASchedule}

-- whether k is one of the places
abbrev pub has_place : ℕ → List ℕ → Bool
has_place k places = list_any (λ p. p == k) places

-- ---- how many of the places are up to one

count_upto-here : (e x : ℕ) (xs : List ℕ) → x ≤ e → count_upto e (x ∷ xs) ≡ 1 + count_upto e xs
count_upto-here e x xs le =
    sum_by-cons (λ k. cond (nat_le k e) 1 0) x xs ∙ ap (λ (b : Bool). cond {A = ℕ} b 1 0 + count_upto e xs) (le-leb x e le)

count_upto-past : (e x : ℕ) (xs : List ℕ) → e < x → count_upto e (x ∷ xs) ≡ 0 + count_upto e xs
count_upto-past e x xs lt =
    sum_by-cons (λ k. cond (nat_le k e) 1 0) x xs ∙ ap (λ (b : Bool). cond {A = ℕ} b 1 0 + count_upto e xs) (lt-leb x e lt)

-- a later one at the end is not counted
pub count_upto-push : (e x : ℕ) (xs : List ℕ) → e < x → count_upto e (xs ++ x ∷ []) ≡ count_upto e xs
count_upto-push e x xs lt =
    let added : count_upto e (xs ++ x ∷ []) ≡ count_upto e xs + 0 =
    sum_by_push (λ k. cond (nat_le k e) 1 0) xs x ∙ ap (λ (b : Bool). count_upto e xs + cond {A = ℕ} b 1 0) (lt-leb x e lt) in
    omega arith

-- where all are later, none is counted
pub count_upto-none : (e : ℕ) (xs : List ℕ) → All (λ x. e < x) xs → count_upto e xs ≡ 0
count_upto-none e [] later = refl
count_upto-none e (x ∷ xs) later =
    omega (
      arith,
      count_upto-past e x xs (All-head (λ y. e < y) x xs later),
      count_upto-none e xs (All-tail (λ y. e < y) x xs later),
    )

-- and where none is, all are
pub count_upto-all : (e : ℕ) (xs : List ℕ) → All (λ x. x ≤ e) xs → count_upto e xs ≡ length xs
count_upto-all e [] upto = refl
count_upto-all e (x ∷ xs) upto =
    omega (
      arith,
      count_upto-here e x xs (All-head (λ y. y ≤ e) x xs upto),
      count_upto-all e xs (All-tail (λ y. y ≤ e) x xs upto),
    )

has_place-none : (k : ℕ) (xs : List ℕ) → All (λ x. k < x) xs → has_place k xs ≡ false
has_place-none k [] later = refl
has_place-none k (x ∷ xs) later =
    rw (ne_eqb x k (omega (arith, All-head (λ y. k < y) x xs later))) (has_place-none k xs (All-tail (λ y. k < y) x xs later))

-- up to the next place there is one more, where it is one of them
count_upto-suc : (e : ℕ) (xs : List ℕ) → AllPairs (λ x y. x < y) xs
    → count_upto (suc e) xs ≡ count_upto e xs + cond (has_place (suc e) xs) 1 0
count_upto-suc e [] pairs = refl
count_upto-suc e (x ∷ xs) pairs =
    let rest : AllPairs (λ x y. x < y) xs = λ i j d lt there. pairs (suc i) (suc j) d (omega arith) (omega arith) in
    let above : All (λ y. x < y) xs = λ j d there. pairs 0 (suc j) d (omega arith) (omega arith) in
    elim (cases_order x (suc e)) [
      | inl here ↦ (
          let later : All (λ y. suc e < y) xs = rw (← here) above in
          rw (eq-eqb x (suc e) here) (omega (
            arith,
            count_upto-here (suc e) x xs (omega arith),
            count_upto-past e x xs (omega arith),
            count_upto-none (suc e) xs later,
            count_upto-none e xs (All-weaker (λ y. suc e < y) (λ y. e < y) (λ y lt. omega arith) xs later),
          )))
      | inr (inl before) ↦ rw (ne_eqb x (suc e) (omega arith)) (omega (
        arith,
        count_upto-here (suc e) x xs (omega arith),
        count_upto-here e x xs (omega arith),
        count_upto-suc e xs rest,
      ))
      | inr (inr past) ↦ (
          let later : All (λ y. suc e < y) xs = All-weaker (λ y. x < y) (λ y. suc e < y) (λ y lt. omega arith) xs above in
          rw (ne_eqb x (suc e) (omega arith), has_place-none (suc e) xs later) (omega (
            arith,
            count_upto-past (suc e) x xs past,
            count_upto-past e x xs (omega arith),
            count_upto-none (suc e) xs later,
            count_upto-none e xs (All-weaker (λ y. suc e < y) (λ y. e < y) (λ y lt. omega arith) xs later),
          )))
    ]

-- ---- the schedule with a full round at each of them

full-own : (b : Bool) (k m : ℕ) → (if b then Some k else None) ≡ Some m → m ≤ k
full-own true k m e = let same : k ≡ m = cc in omega arith
full-own false k m e = absurd (cc)

full-count : (b : Bool) (k n c : ℕ) → n ≡ c → (if is_some (if b then Some k else None) then n + 1 else n) ≡ c + cond b 1 0
full-count true k n c e = omega arith
full-count false k n c e = omega arith

module _ (decided : ℕ) (places : List ℕ) (are : AreRoundPlaces decided places) where
  round_count-full : (e : ℕ) → round_count (full_rounds places) e ≡ count_upto e places
  round_count-full zero =
      sym (count_upto-none 0 places (All-weaker (λ k. (0 < k) × (k ≤ decided)) (λ k. 0 < k) (λ k is. is.0) places are.each))
  round_count-full (suc e) =
      full-count (has_place (suc e) places) (suc e) (round_count (full_rounds places) e) (count_upto e places) (round_count-full e)
      ∙ sym (count_upto-suc e places (AllPairs-from_increasing places are.ascending))

  -- all of them are counted
  pub round_count-places : round_count (full_rounds places) decided ≡ length places
  round_count-places =
      round_count-full decided
      ∙ count_upto-all decided places
      (All-weaker (λ k. (0 < k) × (k ≤ decided)) (λ k. k ≤ decided) (λ k is. is.1) places are.each)

pub round_places_are_a_schedule : RoundPlacesAreASchedule
round_places_are_a_schedule decided places are =
    (λ k m some le awaits. full-own (has_place k places) k m awaits, round_count-full decided places are)

-- up to one of them, its round waits for it
pub awaited_place-full : (places : List ℕ) (k : ℕ) → 0 < k → has_place k places ≡ true
    → k ≤ awaited_place (full_rounds places) k
awaited_place-full places zero some has = absurd (omega arith)
awaited_place-full places (suc k) some has =
    let own : unwrap_or (full_rounds places (suc k)) 0 ≡ suc k = rw has refl in
    omega arith
