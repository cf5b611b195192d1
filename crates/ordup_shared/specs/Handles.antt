-- When a handle is open.
use Rattle.std.specs.Prelude.{◌≡◌, ℕ, Bool, true, false, ◌==◌, Option, Some, None}
use Rattle.ordup_shared.specs.declared.thing.Thing.{Thing}
use Rattle.ordup_shared.specs.declared.handle.TheConstants.{MARK}

-- whether there is a thing
abbrev pub is_open : Option Thing → Bool
is_open None = false
is_open (Some thing) = true

-- it has this mark where there is a thing, and no other
abbrev pub IsMarked : ℕ → Option Thing → Type 0
IsMarked mark thing = (mark == MARK) ≡ is_open thing
