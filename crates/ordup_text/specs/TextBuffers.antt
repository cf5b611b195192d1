-- What a text buffer holds.
use Rattle.std.specs.Prelude.{ℕ, List}

-- a text, and how many bytes of spare capacity are behind it
pub record BufferedText : Type 0 where
  pub text : List ℕ
  pub spare : ℕ
