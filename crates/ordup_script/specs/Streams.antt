-- What goes in and what comes out.
use Rattle.std.specs.Prelude.{ℕ, List, Option}

-- the bytes that a reader has left, or that a writer holds, where they are known
abbrev pub Bytes : Type 0
Bytes = Option (List ℕ)

-- what a reader had before and has after, and the most bytes that belong
pub record Input : Type 0 where
  pub had : Bytes
  pub has : Bytes
  pub limit : ℕ

-- what a reader had before and has after, and what a writer held before and holds after
pub record Streams : Type 0 where
  pub had : Bytes
  pub has : Bytes
  pub old : Bytes
  pub new : Bytes

-- the most lines or bytes that a number of 64 bits counts
abbrev pub most_counted : ℕ
most_counted = 18446744073709551615
