-- Windows, and the rounds in them.
use Rattle.std.proofs.Common.{◌≡◌, ℕ, zero, suc, ◌+◌, ◌<◌, ◌≤◌, Bool, true, List}
use Rattle.std.proofs.Common.{[], ◌∷◌, length, get_or, inl, inr, arith, sym, ◌∙◌}
use Rattle.std.proofs.lemmas.Bool.{false≢true}
use Rattle.ordup_rounds.specs.declared.window.Window.{Window}
use Rattle.ordup_rounds.specs.Schedules.{IsLimitTest, Schedule, IsSchedule, StaysWithin, base, round_count}
use Rattle.ordup_rounds.specs.Windows.{IsWindow, AreDisjointWindows, HasRoundIn}
use Rattle.ordup_rounds.specs.Fewest.{EachWindowHasARound, NoFewerRoundsThanWindows}
use Rattle.ordup_rounds.proofs.ScheduleLemmas.{round_count-le, round_count-lt, near_or_round}

-- without a round in the window the base of its last place would be before it, and the window would pass no limit
pub each_window_has_a_round : EachWindowHasARound
each_window_has_a_round within reported_at decided test p is keeps w window =
    let forward : w.from < w.to = window.forward in
    elim (near_or_round decided p is w.from w.to (omega arith) window.last) [
      | inl near ↦ (
          let kept : within (base reported_at p w.to) w.to ≡ true = keeps w.to (omega arith) window.last in
          let before : base reported_at p w.to ≤ w.from = omega (arith, window.unreported) in
          let alone : within w.from w.to ≡ true = test.later (base reported_at p w.to) w.from w.to before kept in
          absurd (false≢true (sym window.over ∙ alone)))
      | inr has ↦ has
    ]

module _ (within : ℕ → ℕ → Bool) (reported_at : ℕ → ℕ) (decided : ℕ) (test : IsLimitTest within)
    (p : Schedule) (is : IsSchedule decided p) (keeps : StaysWithin within reported_at decided p) where
  -- so there are more rounds up to its end than before it
  rounds_more : (w : Window) → IsWindow within reported_at decided w → round_count p w.from < round_count p w.to
  rounds_more w window =
      let has : HasRoundIn p w = each_window_has_a_round within reported_at decided test p is keeps w window in
      round_count-lt p w.from w.to has.0 has.1 has.2 has.3

  -- and up to the end of each of disjoint windows at least as many as windows
  rounds_at : (ws : List Window) → AreDisjointWindows within reported_at decided ws → (d : Window) (i : ℕ) → i < length ws
      → i < round_count p (get_or ws i d).to
  rounds_at ws are d zero there = omega (arith, rounds_more (get_or ws 0 d) (are.each 0 d there))
  rounds_at ws are d (suc i) there =
      let next : i + 1 ≡ suc i = omega arith in
      let apart : (get_or ws i d).to ≤ (get_or ws (suc i) d).from = rw next at (are.apart i d (omega arith)) in
      omega (
        arith,
        rounds_at ws are d i (omega arith),
        round_count-le p (get_or ws i d).to (get_or ws (suc i) d).from apart,
        rounds_more (get_or ws (suc i) d) (are.each (suc i) d there),
      )

  windows-le-rounds : (ws : List Window) → AreDisjointWindows within reported_at decided ws → length ws ≤ round_count p decided
  windows-le-rounds [] are = omega arith
  windows-le-rounds (w ∷ ws) are =
      let there : length ws < length (w ∷ ws) = omega arith in
      omega (
        arith,
        rounds_at (w ∷ ws) are w (length ws) there,
        round_count-le p (get_or (w ∷ ws) (length ws) w).to decided (are.each (length ws) w there).last,
      )

pub no_fewer_rounds_than_windows : NoFewerRoundsThanWindows
no_fewer_rounds_than_windows = windows-le-rounds
