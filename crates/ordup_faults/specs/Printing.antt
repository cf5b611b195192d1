-- What is printed: all of a text, or a prefix of it where the writer failed.
use Rattle.std.specs.Prelude.{◌≡◌, ℕ, List, Option, Ok, Err}
use Rattle.std.specs.Io.KnownBytes.{Appends}
use Rattle.ordup_text.specs.Fronts.{AppendsFront}
use Rattle.ordup_faults.specs.Faults.{Outcome}
use Rattle.ordup_faults.specs.declared.fault.Fault.TheVariants as fault

-- the text was printed, with this exit status where all of it was
abbrev pub Prints : ℕ → List ℕ → Option (List ℕ) → Option (List ℕ) → Outcome → Type 0
Prints status text old new (Ok s) = (s ≡ status) × Appends old new text
Prints status text old new (Err fault.Write) = AppendsFront old new text
Prints status text old new (Err e) = ⊥

-- the same, or nothing was printed for want of memory
abbrev pub PrintsIfMemory : ℕ → List ℕ → Option (List ℕ) → Option (List ℕ) → Outcome → Type 0
PrintsIfMemory status text old new (Err fault.NoMemory) = new ≡ old
PrintsIfMemory status text old new outcome = Prints status text old new outcome
