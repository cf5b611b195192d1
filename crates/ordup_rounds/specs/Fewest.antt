-- The fewest rounds, how windows show them, and the laws of both.
use Rattle.std.specs.Prelude.{◌≡◌, ℕ, ◌≤◌, Bool, List, length}
use Rattle.ordup_rounds.specs.declared.window.Window.{Window}
use Rattle.ordup_rounds.specs.Schedules.{IsLimitTest, Schedule, IsSchedule, StaysWithin, round_count}
use Rattle.ordup_rounds.specs.Windows.{IsWindow, AreDisjointWindows, HasRoundIn}
use Rattle.ordup_rounds.specs.Rounds.{AreRoundPlaces, count_upto, full_rounds, rounds_upto, windows_upto, AreRoundsReported}

-- a certificate: rounds that keep the limits, and as many disjoint windows
pub record IsCertificate (within : ℕ → ℕ → Bool) (reported_at : ℕ → ℕ) (decided : ℕ) (rounds : List ℕ)
    (windows : List Window) : Type 0 where
  pub places : AreRoundPlaces decided rounds
  pub keeps : StaysWithin within reported_at decided (full_rounds rounds)
  pub disjoint : AreDisjointWindows within reported_at decided windows
  pub count : length windows ≡ length rounds

-- The promise for a site: its rounds and windows are a certificate; no list of disjoint windows is longer; and no schedule of full or
-- partial rounds that keeps the limits has fewer rounds, up to each decided place.
pub record AreFewest (within : ℕ → ℕ → Bool) (reported_at : ℕ → ℕ) (decided : ℕ) (rounds : List ℕ) (windows : List Window)
    : Type 0 where
  pub certificate : IsCertificate within reported_at decided rounds windows
  pub longest : (ws : List Window) → AreDisjointWindows within reported_at decided ws → length ws ≤ length rounds
  pub fewest : (p : Schedule) → IsSchedule decided p → StaysWithin within reported_at decided p →
      (e : ℕ) → e ≤ decided → count_upto e rounds ≤ round_count p e

-- a schedule that keeps the limits has a round in each window
abbrev pub EachWindowHasARound : Type 0
EachWindowHasARound =
    (within : ℕ → ℕ → Bool) (reported_at : ℕ → ℕ) (decided : ℕ) → IsLimitTest within →
    (p : Schedule) → IsSchedule decided p → StaysWithin within reported_at decided p →
    (w : Window) → IsWindow within reported_at decided w → HasRoundIn p w

-- so it has at least as many rounds as there are disjoint windows
abbrev pub NoFewerRoundsThanWindows : Type 0
NoFewerRoundsThanWindows =
    (within : ℕ → ℕ → Bool) (reported_at : ℕ → ℕ) (decided : ℕ) → IsLimitTest within →
    (p : Schedule) → IsSchedule decided p → StaysWithin within reported_at decided p →
    (windows : List Window) → AreDisjointWindows within reported_at decided windows → length windows ≤ round_count p decided

-- a list of round places is a schedule, which has just these rounds
abbrev pub RoundPlacesAreASchedule : Type 0
RoundPlacesAreASchedule =
    (decided : ℕ) (places : List ℕ) → AreRoundPlaces decided places →
    IsSchedule decided (full_rounds places) × ((e : ℕ) → round_count (full_rounds places) e ≡ count_upto e places)

-- no schedule that keeps the limits has fewer rounds than a certificate
abbrev pub CertifiedRoundsAreFewest : Type 0
CertifiedRoundsAreFewest =
    (within : ℕ → ℕ → Bool) (reported_at : ℕ → ℕ) (decided : ℕ) → IsLimitTest within →
    (rounds : List ℕ) (windows : List Window) → IsCertificate within reported_at decided rounds windows →
    (p : Schedule) → IsSchedule decided p → StaysWithin within reported_at decided p → length rounds ≤ round_count p decided

-- the rounds and the windows of the rule keep the promise
abbrev pub ForcedRoundsAreFewest : Type 0
ForcedRoundsAreFewest =
    (within : ℕ → ℕ → Bool) (reported_at : ℕ → ℕ) (decided : ℕ) → IsLimitTest within
    → AreRoundsReported within reported_at decided →
    AreFewest within reported_at decided (rounds_upto within reported_at decided) (windows_upto within reported_at decided)
