-- Lists of round places, and the rounds and windows of the rule that a site is forced where its report is too old.
use Rattle.std.specs.Prelude.{◌≡◌, ℕ, zero, suc, ◌<◌, ◌≤◌, ◌==◌, nat_le, Bool, false, if◌then◌else◌}
use Rattle.std.specs.Prelude.{Some, None, List, [], ◌∷◌, ◌++◌, All, count_by}
use Rattle.std.specs.List.{list_any}
use Rattle.std.specs.List.Sorted.{IsStrictlyIncreasing}
use Rattle.ordup_rounds.specs.declared.window.Window.{Window}
use Rattle.ordup_rounds.specs.Schedules.{Schedule}

-- decided places in ascending order
pub record AreRoundPlaces (decided : ℕ) (places : List ℕ) : Type 0 where
  pub ascending : IsStrictlyIncreasing places
  pub each : All (λ k. (0 < k) × (k ≤ decided)) places

-- the schedule with a full round at each of the places, and no other
abbrev pub full_rounds : List ℕ → Schedule
full_rounds places k = if list_any (λ p. p == k) places then Some k else None

-- how many of the places are up to place e
abbrev pub count_upto : ℕ → List ℕ → ℕ
count_upto e places = count_by (λ k. nat_le k e) places

-- a site's rounds: the places up to d for which the span from what it had reported at the decision passes a limit
abbrev pub rounds_upto : (ℕ → ℕ → Bool) → (ℕ → ℕ) → ℕ → List ℕ
rounds_upto within reported_at zero = []
rounds_upto within reported_at (suc d) =
    if within (reported_at (suc d)) (suc d) then rounds_upto within reported_at d else rounds_upto within reported_at d ++ suc d ∷ []

-- a site's windows: one for each of these rounds, from what it had reported to the place
abbrev pub windows_upto : (ℕ → ℕ → Bool) → (ℕ → ℕ) → ℕ → List Window
windows_upto within reported_at zero = []
windows_upto within reported_at (suc d) =
    if within (reported_at (suc d)) (suc d) then windows_upto within reported_at d
    else windows_upto within reported_at d ++ record { from = reported_at (suc d); to = suc d } ∷ []

-- a place that has a round was reported before a later place is decided
abbrev pub AreRoundsReported : (ℕ → ℕ → Bool) → (ℕ → ℕ) → ℕ → Type 0
AreRoundsReported within reported_at decided =
    (j k : ℕ) → 0 < j → j < k → k ≤ decided → within (reported_at j) j ≡ false → j ≤ reported_at k
