-- A text that ends in a row that is too long for one of a record.
use Rattle.std.specs.Prelude.{ℕ, ◌-◌, ◌==◌, ◌||◌, Bool, true, false, List, [], ◌∷◌, Option, None, Some, if◌then◌else◌}
use Rattle.ordup_check.specs.declared.short_rows.RowState.{RowState}
use Rattle.ordup_check.specs.declared.short_rows.RowState.TheVariants as at

-- the most bytes of a row
abbrev pub most_row_bytes : ℕ
most_row_bytes = 300

-- the state after a byte that is not quoted
abbrev pub in_column : ℕ → RowState
in_column b = if b == 44 then at.Edge else if (b == 13) || (b == 10) then at.Row else at.Plain

-- the state after such a byte where a quote begins quoted bytes
abbrev pub at_edge : ℕ → RowState
at_edge b = if b == 34 then at.Quoted else in_column b

-- the state after a byte
abbrev pub state_after : RowState → ℕ → RowState
state_after at.Text b = if b == 239 then at.MarkOfOne else at_edge b
state_after at.MarkOfOne b = if b == 187 then at.MarkOfTwo else in_column b
state_after at.MarkOfTwo b = if b == 191 then at.Row else in_column b
state_after at.Row b = at_edge b
state_after at.Edge b = at_edge b
state_after at.Plain b = in_column b
state_after at.Quoted b = if b == 34 then at.Edge else at.Quoted

-- no byte of a row was read in this state
abbrev pub is_row : RowState → Bool
is_row at.Row = true
is_row _ = false

-- how many bytes more the row may have after one that leads to this state; none where that one is too many
abbrev pub left_after : RowState → ℕ → Option ℕ
left_after state left = if is_row state then Some most_row_bytes else if left == 0 then None else Some (left - 1)

-- The text that is read from a state on, where the row may have this many bytes more: all of it, or up to the first byte that is
-- too many of a row.
abbrev pub ends_at_long_row : RowState → ℕ → List ℕ → List ℕ
ends_at_long_row state left [] = []
ends_at_long_row state left (b ∷ rest) =
    b ∷ (if is_row (state_after state b) then ends_at_long_row at.Row most_row_bytes rest
    else if left == 0 then []
    else ends_at_long_row (state_after state b) (left - 1) rest)

-- the text from the start of a row on
abbrev pub from_row : List ℕ → List ℕ
from_row text = ends_at_long_row at.Row most_row_bytes text
