-- Limits where a history goes on in a next one.
use Rattle.std.specs.Prelude.{ℕ, ◌-◌, nat_le, if◌then◌else◌, length}
use Rattle.ordup_objects.specs.Joins.{BeginsAtEnd, joined}
use Rattle.ordup_objects.specs.Serial.{History}
use Rattle.ordup_log.specs.Groups.{GroupList}
use Rattle.ordup_rounds.specs.Joins.{JoinsTests}
use Rattle.ordup_rounds.specs.Schedules.{IsLimitTest}
use Rattle.ordup_limits.specs.Limits.{Limits, within}

-- the limits at a place of the whole, where the first history has n places: up to its end its own, and then those of the next one
abbrev pub joined_limits : ℕ → (ℕ → Limits) → (ℕ → Limits) → ℕ → Limits
joined_limits n first next k = if nat_le k n then first k else next (k - n)

-- the test of the whole is that of each history on its part, whatever limits each has at its places
abbrev pub TestsJoin : Type 0
TestsJoin =
    (h next : History) (groups : GroupList) (first_limits next_limits : ℕ → Limits) → BeginsAtEnd h next →
    JoinsTests (length h.sets)
    (λ a b. within (joined h next) groups (joined_limits (length h.sets) first_limits next_limits b) a b)
    (λ a b. within h groups (first_limits b) a b) (λ a b. within next groups (next_limits b) a b)

-- the limits of each place, whatever they are there, are a test of the spans that end at it
abbrev pub LimitsByPlaceAreTests : Type 0
LimitsByPlaceAreTests = (h : History) (groups : GroupList) (limits : ℕ → Limits) → IsLimitTest (λ a b. within h groups (limits b) a b)
