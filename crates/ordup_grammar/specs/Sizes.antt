-- The sizes of a line, as `sizes.rt` has them.
use Rattle.std.specs.Prelude.{ℕ}

-- the bytes of a line, its line feed not counted
abbrev pub most_line_bytes : ℕ
most_line_bytes = 4096

-- the digits of a number
abbrev pub most_digits : ℕ
most_digits = 19
