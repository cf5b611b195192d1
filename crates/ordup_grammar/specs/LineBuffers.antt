-- What a line buffer holds of a line.
use Rattle.std.specs.Prelude.{◌≡◌, ◌+◌, ◌≤◌, ℕ, List, length, take}
use Rattle.ordup_grammar.specs.Sizes.{most_line_bytes}
use Rattle.ordup_grammar.specs.Lines.{Line, IsPart, cut}
use Rattle.ordup_grammar.specs.declared.line_buffer.LineBuffer.TheInside.{Inside}

-- the line that the buffer holds
abbrev pub line_of : Inside → Line
line_of b = cut (take b.len b.bytes)

-- one byte more can be held than a line may have
pub record IsBuffer (b : Inside) : Type 0 where
  pub spare : length b.bytes ≡ most_line_bytes + 1
  pub few : b.len ≤ most_line_bytes + 1

-- the line that is held is this part of a line, in which no line feed stands
pub record Holds (held : Line) (part : List ℕ) : Type 0 where
  pub unended : IsPart part
  pub is : held ≡ cut part
