-- What is tested of a record. Updates, changes and windows are counted from 0 here.
use Rattle.std.specs.Prelude.{◌≡◌, ℕ, zero, suc, ◌<◌, nat_le, not, Bool, true, false, [], map, slice_index_or}
use Rattle.ordup_objects.specs.Serial.{serial}
use Rattle.ordup_objects.specs.States.{result_at, in_range, is_legal}
use Rattle.ordup_rounds.specs.Schedules.{base}
use Rattle.ordup_rounds.specs.Rounds.{full_rounds}
use Rattle.ordup_rounds.specs.declared.window.Window.{Window}
use Rattle.ordup_audit.specs.Records.{RecordState, history_of, is_within, report_at}

-- the test passes at each of the numbers below n
abbrev pub PassesBelow : (ℕ → Bool) → ℕ → Type 0
PassesBelow test n = (k : ℕ) → k < n → test k ≡ true

-- k is the first of the numbers below n at which the test fails
pub record IsFirstFailure (test : ℕ → Bool) (n k : ℕ) : Type 0 where
  pub there : k < n
  pub fails : test k ≡ false
  pub before : PassesBelow test k

-- the update is legal on the serial result of those before it
abbrev pub is_update_legal : RecordState → ℕ → Bool
is_update_legal r i = is_legal (slice_index_or r.sets i []) (serial (history_of r) i)

-- the result of a change of the update is in range
abbrev pub is_change_in_range : RecordState → ℕ → ℕ → Bool
is_change_in_range r i p = slice_index_or (map (λ c. in_range (result_at (serial (history_of r) i) c)) (slice_index_or r.sets i [])) p true

-- the span from the base of the update's place to the place passes no limit
abbrev pub is_place_within : RecordState → ℕ → Bool
is_place_within r i = is_within r (base (report_at r.reports) (full_rounds r.rounds) (suc i)) (suc i)

-- the window after the first j, from 0 to 0 where there is none
abbrev pub window_at : RecordState → ℕ → Window
window_at r j = slice_index_or r.windows j (record { from = 0; to = 0 })

-- the span of the window passes a limit
abbrev pub is_window_over : RecordState → ℕ → Bool
is_window_over r j = not (is_within r (window_at r j).from (window_at r j).to)

-- where the window before it ends
abbrev pub end_before : RecordState → ℕ → ℕ
end_before r zero = 0
end_before r (suc j) = (window_at r j).to

-- the window begins at or after the end of the one before it
abbrev pub is_window_apart : RecordState → ℕ → Bool
is_window_apart r j = nat_le (end_before r j) (window_at r j).from

-- at the decision of its last place the site had reported nothing of the window
abbrev pub is_window_unreported : RecordState → ℕ → Bool
is_window_unreported r j = nat_le (report_at r.reports (window_at r j).to) (window_at r j).from
