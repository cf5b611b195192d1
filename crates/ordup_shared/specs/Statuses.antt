-- The statuses of refusals.
use Rattle.std.specs.Prelude.{◌≡◌, ℕ, ◌+◌, Option, Some, None}
use Rattle.ordup_objects.specs.declared.refusal.Refusal.{Refusal}
use Rattle.ordup_objects.specs.Refusals.{refusal_number}
use Rattle.ordup_shared.specs.declared.status.TheConstants.{REFUSED, NO_MEMORY}

-- the status of a refusal
abbrev pub status_of : Refusal → ℕ
status_of r = REFUSED + refusal_number r

-- the status of a call that is refused for this reason, or for want of memory where there is none
abbrev pub IsRefused : Option Refusal → ℕ → Type 0
IsRefused None status = status ≡ NO_MEMORY
IsRefused (Some r) status = status ≡ status_of r
