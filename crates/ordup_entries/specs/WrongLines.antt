-- The line that is told of a text that is no entry.
use Rattle.std.specs.Prelude.{◌≡◌, ◌⊎◌, ◌≤◌, ◌<◌, ◌+◌, ◌++◌, ℕ, true, List, length}
use Rattle.ordup_entries.specs.Sizes.{most_counted, most_entry_bytes}
use Rattle.ordup_entries.specs.Orders.{are_steps}
use Rattle.ordup_entries.specs.Entries.{ScriptEntry, is_header, text_of}
use Rattle.ordup_entries.specs.declared.error.ReadError.{ReadError}
use Rattle.ordup_entries.specs.declared.error.ReadError.TheVariants as errors
use Rattle.ordup_entries.specs.declared.order.Part.TheVariants.{Start}

-- a text begins with an entry of so many lines that is of the form, whatever its size
abbrev pub BeginsAsEntry : List ℕ → ℕ → Type 0
BeginsAsEntry text lines =
    (e : ScriptEntry) × (rest : List ℕ) × (is_header e.header ≡ true) × (are_steps Start most_counted e.steps ≡ true)
    × (text ≡ text_of e ++ rest)
    × (length e.steps + 1 ≡ lines)

-- the first line that is wrong: the lines before it are an entry, but for a first line, and with it they are none
pub record IsFirstWrong (text : List ℕ) (number : ℕ) : Type 0 where
  pub before : (number ≡ 1) ⊎ ((lines : ℕ) × (number ≡ lines + 1) × BeginsAsEntry text lines)
  pub wrong : (lines : ℕ) → number ≤ lines → BeginsAsEntry text lines → ⊥

-- what is told of a text
abbrev pub IsTold : List ℕ → ReadError → Type 0
IsTold text errors.Memory = Unit {0}
IsTold text errors.TooLong = most_entry_bytes < length text
IsTold text (errors.Line number) = IsFirstWrong text number
