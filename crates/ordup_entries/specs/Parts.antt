-- The lines of a text.
use Rattle.std.specs.Prelude.{ℕ, Bool, ◌==◌, List}
use Rattle.std.specs.List.{slice_split}

abbrev pub is_line_feed : ℕ → Bool
is_line_feed byte = byte == 10

-- the lines of a text, and what stands behind its last line feed
abbrev pub parts_of : List ℕ → List (List ℕ)
parts_of text = slice_split is_line_feed text
