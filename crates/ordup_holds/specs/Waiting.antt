-- How waiting for an update ends unmet.
use Rattle.std.specs.Prelude.{◌≡◌, ℕ, ◌<◌, ◌⊎◌, Bool, true, false}
use Rattle.ordup_objects.specs.declared.refusal.Refusal.{Refusal}
use Rattle.ordup_objects.specs.declared.refusal.Refusal.TheVariants.{NoMemory, NotYet}

-- what turns have come to: how many updates are acknowledged, how many turns were made, and whether the last was refused a growth
pub record TurnsMade : Type 0 where
  pub acked : ℕ
  pub made : ℕ
  pub refused : Bool

-- all turns were made, and the update with this number is not acknowledged
abbrev pub IsLeft : ℕ → ℕ → TurnsMade → Type 0
IsLeft number turns at_end = (at_end.acked < number) × (at_end.made ≡ turns)

-- How a wait for an update is refused, by the turns at its end, of which there are at most as many as this. Where the last was
-- refused a growth, there was no memory; else the update is left.
abbrev pub EndsUnmet : ℕ → ℕ → TurnsMade → Refusal → Type 0
EndsUnmet number turns at_end e =
    ((at_end.refused ≡ true) × (e ≡ NoMemory)) ⊎ ((at_end.refused ≡ false) × (e ≡ NotYet number) × IsLeft number turns at_end)

-- the same of an update that is numbered, whatever the refusal says of it
abbrev pub StaysPending : ℕ → ℕ → TurnsMade → Type 0
StaysPending number turns at_end = (at_end.refused ≡ true) ⊎ IsLeft number turns at_end
