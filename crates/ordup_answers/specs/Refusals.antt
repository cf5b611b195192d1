-- What calls give, or why they are refused.
use Rattle.std.specs.Prelude.{◌≡◌, ◌⊎◌, Option, Some, None, Result, Ok, Err}
use Rattle.ordup_objects.specs.declared.refusal.Refusal.{Refusal}
use Rattle.ordup_objects.specs.declared.refusal.Refusal.TheVariants.{NoMemory}

-- a value, where it is not refused
abbrev pub unless : {T : Type 0} → Option Refusal → T → Result T Refusal
unless None x = Ok x
unless (Some r) x = Err r

-- what is made of a value, where it is not refused
abbrev pub made_of : {T U : Type 0} → (T → U) → Result T Refusal → Result U Refusal
made_of f (Ok x) = Ok (f x)
made_of f (Err r) = Err r

-- a call gives what is wanted, or is refused for want of memory
abbrev pub Gives : {T : Type 0} → Result T Refusal → Result T Refusal → Type 0
Gives wanted (Ok x) = wanted ≡ Ok x
Gives wanted (Err e) = (wanted ≡ Err e) ⊎ (e ≡ NoMemory)

-- a call makes of an old value what is wanted, or is refused, also for want of memory, and leaves the value as it was
abbrev pub Makes : {T : Type 0} → Result T Refusal → T → T → Result (Unit {0}) Refusal → Type 0
Makes wanted old new (Ok done) = wanted ≡ Ok new
Makes wanted old new (Err e) = ((wanted ≡ Err e) ⊎ (e ≡ NoMemory)) × (new ≡ old)
