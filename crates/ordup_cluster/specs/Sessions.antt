-- What a session keeps.
use Rattle.std.specs.Prelude.{ℕ}

-- how many updates it has seen
pub record SessionState : Type 0 where
  pub seen : ℕ
