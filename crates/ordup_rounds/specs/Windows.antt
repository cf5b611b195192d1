-- Windows: stretches of decided places that are over a limit alone.
use Rattle.std.specs.Prelude.{◌≡◌, ℕ, ◌<◌, ◌≤◌, Bool, false, List, length, All, IsSome}
use Rattle.std.specs.List.{AllAdjacentBelow}
use Rattle.ordup_rounds.specs.declared.window.Window.{Window}
use Rattle.ordup_rounds.specs.Schedules.{Schedule}

-- the span of a window passes a limit, and at the decision of its last place the site had reported nothing of it
pub record IsWindow (within : ℕ → ℕ → Bool) (reported_at : ℕ → ℕ) (decided : ℕ) (w : Window) : Type 0 where
  pub forward : w.from < w.to
  pub last : w.to ≤ decided
  pub over : within w.from w.to ≡ false
  pub unreported : reported_at w.to ≤ w.from

-- windows are disjoint where each ends at or before the `from` of the next
pub record AreDisjointWindows (within : ℕ → ℕ → Bool) (reported_at : ℕ → ℕ) (decided : ℕ) (windows : List Window)
    : Type 0 where
  pub each : All (IsWindow within reported_at decided) windows
  pub apart : AllAdjacentBelow (λ v w. v.to ≤ w.from) windows (length windows)

-- the schedule has a round at a place of the window
abbrev pub HasRoundIn : Schedule → Window → Type 0
HasRoundIn p w = (k : ℕ) × (w.from < k) × (k ≤ w.to) × IsSome (p k)
