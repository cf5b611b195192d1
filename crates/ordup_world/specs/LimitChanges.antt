-- What changes of limits leave as it was.
use Rattle.std.specs.Prelude.{◌≡◌, ℕ, ◌≤◌, ◌∷◌, false}
use Rattle.ordup_log.specs.declared.scope.Scope.{Scope}
use Rattle.ordup_primary.specs.Declarations.{Declared}
use Rattle.ordup_world.specs.Events.{Past, decisions, limits_at, rounds, windows, reply, is_refused}
use Rattle.ordup_world.specs.declared.event.Event.TheVariants.{Relimit}

-- a change of a limit that is accepted leaves the limits in force at each decided place as they were
abbrev pub LimitChangesLeaveDecidedPlaces : Type 0 → Type 0
LimitChangesLeaveDecidedPlaces A =
    (setup : Declared) (past : Past A) (s t k : ℕ) (scope : Scope) (amount : ℕ)
    → is_refused (reply setup past (Relimit s scope amount)) ≡ false → k ≤ (decisions setup past).decided
    → limits_at setup (Relimit s scope amount ∷ past) t k ≡ limits_at setup past t k

-- it leaves the rounds and the windows of each site as they were
abbrev pub LimitChangesLeaveRounds : Type 0 → Type 0
LimitChangesLeaveRounds A =
    (setup : Declared) (past : Past A) (s t : ℕ) (scope : Scope) (amount : ℕ)
    → is_refused (reply setup past (Relimit s scope amount)) ≡ false
    → (rounds setup t (Relimit s scope amount ∷ past) ≡ rounds setup t past)
    × (windows setup t (Relimit s scope amount ∷ past) ≡ windows setup t past)
