-- Schedules of rounds, and which of them keep the limits of a site.
use Rattle.std.specs.Prelude.{◌≡◌, ℕ, zero, suc, ◌+◌, ◌<◌, ◌≤◌, Bool, true}
use Rattle.std.specs.Prelude.{if◌then◌else◌, Option, Some, is_some, unwrap_or, max}

-- Here and in the files beside it `within a b` tells whether the span from a to b passes no limit of a site, and `reported_at k` is
-- what the site had reported at the decision of place k. The places from 1 to `decided` are decided.

-- What is asked of the test: a span that begins later and ends at the same place passes no limit that the longer one keeps, and an
-- empty span passes none. Nothing is said of spans that end elsewhere.
pub record IsLimitTest (within : ℕ → ℕ → Bool) : Type 0 where
  pub later : (a b c : ℕ) → a ≤ b → within a c ≡ true → within b c ≡ true
  pub empty : (a b : ℕ) → b ≤ a → within a b ≡ true

-- At each place a schedule has a round, which waits until the site has applied up to a place, or none. A round that waits for its
-- own place is full, and one that waits for less is partial.
abbrev pub Schedule : Type 0
Schedule = ℕ → Option ℕ

-- no round at a decided place waits for a later place
abbrev pub IsSchedule : ℕ → Schedule → Type 0
IsSchedule decided p = (k m : ℕ) → 0 < k → k ≤ decided → p k ≡ Some m → m ≤ k

-- how many rounds there are up to place e
abbrev pub round_count : Schedule → ℕ → ℕ
round_count p zero = 0
round_count p (suc e) = if is_some (p (suc e)) then round_count p e + 1 else round_count p e

-- the furthest place for which a round up to place k waits, 0 where there is none
abbrev pub awaited_place : Schedule → ℕ → ℕ
awaited_place p zero = 0
awaited_place p (suc k) = max (awaited_place p k) (unwrap_or (p (suc k)) 0)

-- the base of place k: what the site is known to have applied when k is acknowledged, by its report and by the rounds up to k
abbrev pub base : (ℕ → ℕ) → Schedule → ℕ → ℕ
base reported_at p k = max (reported_at k) (awaited_place p k)

-- a schedule keeps the limits where the span from the base of each decided place to the place passes none
abbrev pub StaysWithin : (ℕ → ℕ → Bool) → (ℕ → ℕ) → ℕ → Schedule → Type 0
StaysWithin within reported_at decided p = (k : ℕ) → 0 < k → k ≤ decided → within (base reported_at p k) k ≡ true
