-- How many rounds a schedule has, and what they wait for.
use Rattle.std.proofs.Common.{◌≡◌, ℕ, zero, suc, ◌+◌, ◌<◌, ◌≤◌, Option}
use Rattle.std.proofs.Common.{Some, None, max, ◌⊎◌, inl, inr, arith, refl, ap}
use Rattle.std.specs.Prelude.{if◌then◌else◌, is_some, unwrap_or, IsSome}
use Rattle.std.proofs.lemmas.Bool.{cases_lt}
use Rattle.ordup_rounds.specs.Schedules.{Schedule, IsSchedule, round_count, awaited_place}

count-one : (o : Option ℕ) (n : ℕ) → n ≤ (if is_some o then n + 1 else n)
count-one None n = omega arith
count-one (Some m) n = omega arith

-- later places only add rounds
pub round_count-le : (p : Schedule) (a b : ℕ) → a ≤ b → round_count p a ≤ round_count p b
round_count-le p a zero le = let same : a ≡ 0 = omega arith in omega (arith, ap (round_count p) same)
round_count-le p a (suc b) le = elim (cases_lt b a) [
  | inl past ↦ (let same : a ≡ suc b = omega arith in omega (arith, ap (round_count p) same))
  | inr before ↦ omega (arith, round_count-le p a b before, count-one (p (suc b)) (round_count p b))
]

-- and a round after a, up to b, is one that they add
pub round_count-lt : (p : Schedule) (a b k : ℕ) → a < k → k ≤ b → IsSome (p k) → round_count p a < round_count p b
round_count-lt p a b zero after upto some = absurd (omega arith)
round_count-lt p a b (suc k) after upto some =
    let one : round_count p (suc k) ≡ round_count p k + 1 = rw some refl in
    omega (arith, one, round_count-le p a k (omega arith), round_count-le p (suc k) b upto)

awaited-one : (o : Option ℕ) (n : ℕ) → ((m : ℕ) → o ≡ Some m → m ≤ n) → unwrap_or o 0 ≤ n
awaited-one None n own = omega arith
awaited-one (Some m) n own = own m refl

-- no round up to a decided place waits for a later one
pub awaited_place-le : (decided : ℕ) (p : Schedule) → IsSchedule decided p → (k : ℕ) → k ≤ decided → awaited_place p k ≤ k
awaited_place-le decided p is zero le = omega arith
awaited_place-le decided p is (suc k) le =
    omega (
      arith,
      awaited_place-le decided p is k (omega arith),
      awaited-one (p (suc k)) (suc k) (λ m awaits. is (suc k) m (omega arith) le awaits),
    )

near_or_round-suc : (p : Schedule) (a b : ℕ) (o : Option ℕ) → p (suc b) ≡ o → a ≤ b → awaited_place p b ≤ a
    → (max (awaited_place p b) (unwrap_or o 0) ≤ a) ⊎ ((k : ℕ) × (a < k) × (k ≤ suc b) × IsSome (p k))
near_or_round-suc p a b None at le near = inl (omega arith)
near_or_round-suc p a b (Some m) at le near = inr (suc b, omega arith, omega arith, ap is_some at)

-- where no round is after a, up to b, none of them up to b waits for more than a
pub near_or_round : (decided : ℕ) (p : Schedule) → IsSchedule decided p → (a b : ℕ) → a ≤ b → b ≤ decided
    → (awaited_place p b ≤ a) ⊎ ((k : ℕ) × (a < k) × (k ≤ b) × IsSome (p k))
near_or_round decided p is a zero le last = inl (omega arith)
near_or_round decided p is a (suc b) le last = elim (cases_lt b a) [
  | inl past ↦ inl (omega (arith, awaited_place-le decided p is (suc b) last))
  | inr before ↦ elim (near_or_round decided p is a b before (omega arith)) [
    | inl near ↦ near_or_round-suc p a b (p (suc b)) refl before near
    | inr has ↦ inr (has.0, has.1, omega (arith, has.2), has.3)
  ]
]
