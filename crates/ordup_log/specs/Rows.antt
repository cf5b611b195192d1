-- Rows of marks: after each so many updates what all updates so far weigh on each object.
use Rattle.std.specs.Prelude.{ℕ, ◌%◌, ◌==◌, if◌then◌else◌, List, []}

-- the updates from a row to the next, as `marks.rt` has them
abbrev pub updates_a_row : ℕ
updates_a_row = 256

-- the marks that the update with this number adds: a row, if one is due, and else none
abbrev pub row_due : ℕ → List ℕ → List ℕ
row_due number travelled = if number % updates_a_row == 0 then travelled else []

-- how many these are, over so many objects
abbrev pub marks_due : ℕ → ℕ → ℕ
marks_due number objects = if number % updates_a_row == 0 then objects else 0
