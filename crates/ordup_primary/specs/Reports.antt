-- What a site had reported at each decision.
use Rattle.std.specs.Prelude.{ℕ, List, [], ◌∷◌, ◌++◌, ◌-◌, ◌==◌, if◌then◌else◌, length, slice_index_or}
use Rattle.ordup_log.specs.Steps.{steps_of}

-- the places at whose decision a site had reported another number than at the decision before, each with it, and how many more of
-- them the list can take before it grows
pub record ReportList : Type 0 where
  pub changes : List (ℕ × ℕ)
  pub spare : ℕ

-- what a site had reported at the decision of place k, and 0 before the first
abbrev pub reported_from_start : List ℕ → ℕ → ℕ
reported_from_start reports k = slice_index_or (0 ∷ reports) k 0

-- the places at whose decision a site had reported another number than at the decision before, each with it
abbrev pub changes_of : List ℕ → List (ℕ × ℕ)
changes_of reports = steps_of (reported_from_start reports) (length reports)

-- the number that the last of these changes goes to, and 0 where there is none
abbrev pub last_report : List (ℕ × ℕ) → ℕ
last_report changes = (slice_index_or changes (length changes - 1) (0, 0)).1

-- changes with the report at the decision of a later place: one change more where it is another number than the last
abbrev pub with_report : List (ℕ × ℕ) → ℕ → ℕ → List (ℕ × ℕ)
with_report changes k report = if report == last_report changes then changes else changes ++ (k, report) ∷ []
