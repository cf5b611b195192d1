-- Lists of the numbers for which a test passes, and rounds.
use Rattle.std.proofs.Common.{◌≡◌, ℕ, zero, suc, ◌+◌, ◌<◌, ◌≤◌, ◌==◌, Bool, true, false, not, List, [], ◌∷◌, ◌++◌, length, ◌-◌, add-one, arith, refl}
use Rattle.std.proofs.Common.{ap, ◌∙◌, inl, inr}
use Rattle.std.proofs.lemmas.Bool.{cases_Bool, cases_lt, ne_eqb, eq-eqb}
use Rattle.std.proofs.lemmas.List.{length_push, get_or_push}
use Rattle.ordup_rounds.specs.Rounds.{rounds_upto}
use Rattle.ordup_primary.specs.Settling.{where_below, last_place}

-- a number more, for which the test passes
pub where_below-more : (test : ℕ → Bool) (n : ℕ) (xs : List ℕ) → xs ≡ where_below test n → test n ≡ true
    → xs ++ n ∷ [] ≡ where_below test (n + 1)
where_below-more test n xs same passes = rw (add-one, passes, same) refl

-- a number more, for which it fails
pub where_below-kept : (test : ℕ → Bool) (n : ℕ) (xs : List ℕ) → xs ≡ where_below test n → test n ≡ false
    → xs ≡ where_below test (n + 1)
where_below-kept test n xs same fails = rw (add-one, fails, same) refl

-- where none is listed, the test passes for none
pub where_below-none : (test : ℕ → Bool) (n s : ℕ) → s < n → where_below test n ≡ [] → test s ≡ false
where_below-none test zero s lt e = absurd (omega arith)
where_below-none test (suc n) s lt e = elim (cases_Bool (test n)) [
  | inl passes ↦
      absurd (let more : where_below test n ++ n ∷ [] ≡ [] = rw passes at e in
      omega (arith, ap length more, length_push (where_below test n) n))
  | inr fails ↦ elim (cases_lt s n) [
    | inl before ↦ where_below-none test n s before (rw fails at e)
    | inr past ↦ (let here : s ≡ n = omega arith in ap test here ∙ fails)
  ]
]

-- tests that agree below n list the same
pub where_below-same : (p q : ℕ → Bool) (n : ℕ) → ((s : ℕ) → s < n → p s ≡ q s) → where_below p n ≡ where_below q n
where_below-same p q zero same = refl
where_below-same p q (suc n) same = rw (same n (omega arith), where_below-same p q n (λ s lt. same s (omega arith))) refl

last_place-push : (places : List ℕ) (k : ℕ) → last_place (places ++ k ∷ []) ≡ k
last_place-push places k = get_or_push places k 0 (length (places ++ k ∷ []) - 1) (omega (arith, length_push places k))

last_round-upto : (v : ℕ → ℕ → Bool) (f : ℕ → ℕ) (d : ℕ) → last_place (rounds_upto v f d) ≤ d
last_round-upto v f zero = omega arith
last_round-upto v f (suc d) = elim (cases_Bool (v (f (suc d)) (suc d))) [
  | inl kept ↦ (let before : last_place (rounds_upto v f d) ≤ d = last_round-upto v f d in rw kept (omega arith))
  | inr forced ↦ rw (forced, last_place-push (rounds_upto v f d) (suc d)) (omega arith)
]

-- the last round is at place d exactly where the site was forced there
pub last_round-forced : (v : ℕ → ℕ → Bool) (f : ℕ → ℕ) (d : ℕ) → 0 < d
    → (last_place (rounds_upto v f d) == d) ≡ not (v (f d) d)
last_round-forced v f zero some = absurd (omega arith)
last_round-forced v f (suc d) some = elim (cases_Bool (v (f (suc d)) (suc d))) [
  | inl kept ↦ rw kept (ne_eqb (last_place (rounds_upto v f d)) (suc d) (omega (arith, last_round-upto v f d)))
  | inr forced ↦ rw (forced, last_place-push (rounds_upto v f d) (suc d)) (eq-eqb (suc d) (suc d) refl)
]
