-- Verdicts on records.
use Rattle.std.specs.Prelude.{◌≡◌, ℕ, ◌≤◌, ◌≢◌, [], length, slice_index_or}
use Rattle.ordup_rounds.specs.Schedules.{Schedule, IsSchedule, StaysWithin, round_count}
use Rattle.ordup_audit.specs.Records.{RecordState, is_within, report_at}
use Rattle.ordup_audit.specs.Rows.{change_row, window_row, last_row}
use Rattle.ordup_audit.specs.Passing.{PassesBelow, IsFirstFailure, is_update_legal, is_change_in_range, is_place_within}
use Rattle.ordup_audit.specs.Passing.{is_window_over, is_window_apart, is_window_unreported}
use Rattle.ordup_audit.specs.declared.verdict.Verdict.{Verdict}
use Rattle.ordup_audit.specs.declared.verdict.Verdict.TheVariants.{Fewest, No}
use Rattle.ordup_audit.specs.declared.verdict.Reason.TheVariants.{NotLegal, LimitsBroken, WindowLight, WindowsMeet}
use Rattle.ordup_audit.specs.declared.verdict.Reason.TheVariants.{WindowBeforeReport, CountDiffers}

-- ---- what passes, over the whole record

-- the updates are legal one after the other
abbrev pub AreUpdatesLegal : RecordState → Type 0
AreUpdatesLegal r = PassesBelow (is_update_legal r) (length r.sets)

-- the rounds keep the limits
abbrev pub ArePlacesWithin : RecordState → Type 0
ArePlacesWithin r = PassesBelow (is_place_within r) (length r.sets)

-- each window passes a limit
abbrev pub AreWindowsOver : RecordState → Type 0
AreWindowsOver r = PassesBelow (is_window_over r) (length r.windows)

-- no window begins before the one before it ends
abbrev pub AreWindowsApart : RecordState → Type 0
AreWindowsApart r = PassesBelow (is_window_apart r) (length r.windows)

-- nothing of a window was reported when its last place was decided
abbrev pub AreWindowsUnreported : RecordState → Type 0
AreWindowsUnreported r = PassesBelow (is_window_unreported r) (length r.windows)

-- ---- what fails first, and its row

-- the first change out of range of the first update that is not legal
abbrev pub IsIllegalRow : RecordState → ℕ → Type 0
IsIllegalRow r row =
    (i : ℕ) × (p : ℕ) × IsFirstFailure (is_update_legal r) (length r.sets) i
    × IsFirstFailure (is_change_in_range r i) (length (slice_index_or r.sets i [])) p × (row ≡ change_row r i p)

-- the first change of the first place that passes a limit
abbrev pub IsBrokenRow : RecordState → ℕ → Type 0
IsBrokenRow r row = (i : ℕ) × IsFirstFailure (is_place_within r) (length r.sets) i × (row ≡ change_row r i 0)

-- the first window that passes no limit
abbrev pub IsLightRow : RecordState → ℕ → Type 0
IsLightRow r row = (j : ℕ) × IsFirstFailure (is_window_over r) (length r.windows) j × (row ≡ window_row r j)

-- the first window that begins before the one before it ends
abbrev pub IsMeetingRow : RecordState → ℕ → Type 0
IsMeetingRow r row = (j : ℕ) × IsFirstFailure (is_window_apart r) (length r.windows) j × (row ≡ window_row r j)

-- the first window of which something was reported when its last place was decided
abbrev pub IsReportedRow : RecordState → ℕ → Type 0
IsReportedRow r row = (j : ℕ) × IsFirstFailure (is_window_unreported r) (length r.windows) j × (row ≡ window_row r j)

-- ---- verdicts

-- The reasons are looked for in this order, each over the whole record before the next one.
abbrev pub IsVerdict : RecordState → Verdict → Type 0
IsVerdict r (No row NotLegal) = IsIllegalRow r row
IsVerdict r (No row LimitsBroken) = AreUpdatesLegal r × IsBrokenRow r row
IsVerdict r (No row WindowLight) = AreUpdatesLegal r × ArePlacesWithin r × IsLightRow r row
IsVerdict r (No row WindowsMeet) = AreUpdatesLegal r × ArePlacesWithin r × AreWindowsOver r × IsMeetingRow r row
IsVerdict r (No row WindowBeforeReport) =
    AreUpdatesLegal r × ArePlacesWithin r × AreWindowsOver r × AreWindowsApart r × IsReportedRow r row
IsVerdict r (No row CountDiffers) =
    AreUpdatesLegal r × ArePlacesWithin r × AreWindowsOver r × AreWindowsApart r × AreWindowsUnreported r
    × (length r.windows ≢ length r.rounds) × (row ≡ last_row r)
IsVerdict r (Fewest n) =
    AreUpdatesLegal r × ArePlacesWithin r × AreWindowsOver r × AreWindowsApart r × AreWindowsUnreported r
    × (length r.windows ≡ length r.rounds) × (n ≡ length r.rounds)

-- the verdict is a number of rounds for which this holds, or no such number
abbrev pub IfFewest : Verdict → (ℕ → Type 0) → Type 0
IfFewest (Fewest n) P = P n
IfFewest (No row reason) P = Unit {0}

-- no schedule that keeps the limits has fewer than n rounds
abbrev pub NoFewerRounds : RecordState → ℕ → Type 0
NoFewerRounds r n =
    (p : Schedule) → IsSchedule (length r.sets) p → StaysWithin (is_within r) (report_at r.reports) (length r.sets) p →
    n ≤ round_count p (length r.sets)
