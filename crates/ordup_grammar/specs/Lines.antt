-- A line of a script, and the byte that ends it.
use Rattle.std.specs.Prelude.{◌≡◌, ℕ, Bool, false, ◌==◌, List, length, nat_lt, Option, Some, None, if◌then◌else◌}
use Rattle.std.specs.List.{All}
use Rattle.ordup_grammar.specs.Sizes.{most_line_bytes}

-- a line: its bytes, or nothing of one that is too long
abbrev pub Line : Type 0
Line = Option (List ℕ)

-- the line that bytes are: one of more than 4,096 is too long
abbrev pub cut : List ℕ → Line
cut bytes = if nat_lt most_line_bytes (length bytes) then None else Some bytes

-- the byte that ends a line
abbrev pub is_line_feed : ℕ → Bool
is_line_feed byte = byte == 10

-- bytes among which no line ends
abbrev pub IsPart : List ℕ → Type 0
IsPart bytes = All (λ byte. is_line_feed byte ≡ false) bytes
