-- A line that is pushed into an empty text is all of it.
use Rattle.std.proofs.Common.{◌≡◌, ◌++◌, [], ℕ, List, Ok}
use Rattle.std.specs.Prelude.{OnOk, Result}

pub pushed_line : {E : Type 0} (r : Result (Unit {0}) E) (old new line : List ℕ) → OnOk r (new ≡ old ++ line) → old ≡ [] → r ≡ Ok tt → new ≡ line
pushed_line r old new line is none ok = rw (ok, none) at is
