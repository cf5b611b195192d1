-- Sets that are dealt to callers in turn.
use Rattle.std.specs.Prelude.{◌≡◌, ℕ, ◌*◌, ◌+◌, Some, List, length, slice_get, Vec}

-- There is a hand for each caller. The set after the first i of hand c is the one after the first i * callers + c of all, and there
-- is no set in the one place where there is none in the other.
pub record AreDealt {X A : Type 0} (callers : ℕ) (sets : List X) (hands : List (Vec X A)) : Type 0 where
  pub count : length hands ≡ callers
  pub each : (c i : ℕ) (hand : Vec X A) → slice_get hands c ≡ Some hand → slice_get hand.items i ≡ slice_get sets (i * callers + c)
