-- Sums.
use Rattle.std.proofs.Common.{◌≡◌, ℕ, zero, suc, ◌+◌, ◌*◌, ◌<◌, ◌≤◌, false, arith, refl, ap, ◌∙◌, inl, inr}
use Rattle.std.specs.Prelude.{◌==◌, if◌then◌else◌}
use Rattle.std.proofs.lemmas.Bool.{cases_Bool, cases_lt}
use Rattle.std.proofs.lemmas.Bool.Decides.{nat_tests}
use Rattle.ordup_objects.specs.Sums.{sum_from}

-- the first m places, and then the others
pub sum_from-add : (f : ℕ → ℕ) (a m n : ℕ) → sum_from f a (m + n) ≡ sum_from f a m + sum_from f (a + m) n
sum_from-add f a m zero = ap (sum_from f a) (let e : m + 0 ≡ m = omega arith in e) ∙ (omega arith)
sum_from-add f a m (suc n) =
    let e : m + suc n ≡ suc (m + n) = omega arith in
    let place : a + (m + n) ≡ a + m + n = omega arith in
    omega (arith, ap (sum_from f a) e, sum_from-add f a m n, ap f place)

-- sums of the same numbers are the same
pub sum_from-same : (f g : ℕ → ℕ) (a n : ℕ) → ((j : ℕ) → j < a + n → f j ≡ g j) → sum_from f a n ≡ sum_from g a n
sum_from-same f g a zero h = refl
sum_from-same f g a (suc n) h = omega (arith, sum_from-same f g a n (λ j lt. h j (omega arith)), h (a + n) (omega arith))

-- what is no more at each place is no more in sum
pub sum_from-most : (f g : ℕ → ℕ) (a n : ℕ) → ((j : ℕ) → j < a + n → f j ≤ g j) → sum_from f a n ≤ sum_from g a n
sum_from-most f g a zero h = omega arith
sum_from-most f g a (suc n) h = omega (arith, sum_from-most f g a n (λ j lt. h j (omega arith)), h (a + n) (omega arith))

-- one number n times
pub sum_from-constant : (d a n : ℕ) → sum_from (λ j. d) a n ≡ d * n
sum_from-constant d a zero = omega arith
sum_from-constant d a (suc n) = grind (arith, sum_from-constant d a n)

-- n numbers that are no more than this
pub sum_from-few : (f : ℕ → ℕ) (most a n : ℕ) → ((j : ℕ) → j < a + n → f j ≤ most) → sum_from f a n ≤ most * n
sum_from-few f most a n few = omega (arith, sum_from-most f (λ j. most) a n few, sum_from-constant most a n)

-- ---- a sum without one of its numbers

-- f, but 0 at x
abbrev pub without : ℕ → (ℕ → ℕ) → ℕ → ℕ
without x f y = if x == y then 0 else f y

pub without-other : (x : ℕ) (f : ℕ → ℕ) (y : ℕ) → (x == y) ≡ false → without x f y ≡ f y
without-other x f y other = rw other refl

pub without-none : (x : ℕ) (f : ℕ → ℕ) (y : ℕ) → f y ≡ 0 → without x f y ≡ 0
without-none x f y none = elim (cases_Bool (x == y)) [
  | inl same ↦ rw same refl
  | inr other ↦ rw other none
]

-- it is none of them
sum_from-without_past : (x : ℕ) (f : ℕ → ℕ) (a n : ℕ) → a + n ≤ x → sum_from (without x f) a n ≡ sum_from f a n
sum_from-without_past x f a zero past = refl
sum_from-without_past x f a (suc n) past =
    let other : (x == (a + n)) ≡ false = grind (arith, nat_tests) in
    omega (arith, sum_from-without_past x f a n (omega arith), without-other x f (a + n) other)

-- it is one of them
pub sum_from-without : (x : ℕ) (f : ℕ → ℕ) (a n : ℕ) → a ≤ x → x < a + n
    → sum_from f a n ≡ f x + sum_from (without x f) a n
sum_from-without x f a zero first last = absurd (omega arith)
sum_from-without x f a (suc n) first last = elim (cases_lt x (a + n)) [
  | inl lt ↦ (let other : (x == (a + n)) ≡ false = grind (arith, nat_tests) in
      omega (arith, sum_from-without x f a n first lt, without-other x f (a + n) other))
  | inr le ↦ (let is : a + n ≡ x = omega arith in
      let here : without x f (a + n) ≡ 0 = rw is (grind (arith, nat_tests)) in
      omega (arith, sum_from-without_past x f a n (omega arith), here, ap f is))
]
