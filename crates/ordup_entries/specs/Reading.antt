-- How an entry is read, line by line.
use Rattle.std.specs.Prelude.{◌≡◌, ℕ, ◌==◌, ◌+◌, ◌-◌, List, [], ◌∷◌, length, Option, Some, None, Result, Ok, Err}
use Rattle.std.specs.Prelude.{option_map, codes, if◌then◌else◌, nat_lt}
use Rattle.std.specs.Str.{bytes_eq}
use Rattle.ordup_entries.specs.Sizes.{most_counted, most_number, most_word_bytes, most_writer_bytes, most_entry_bytes}
use Rattle.ordup_entries.specs.Words.{is_word}
use Rattle.ordup_entries.specs.Parts.{parts_of}
use Rattle.ordup_entries.specs.Fields.{first_word, tested_at, number_at, last, both, after}
use Rattle.ordup_entries.specs.Lines.{step_of}
use Rattle.ordup_entries.specs.Orders.{may_be_next, part_behind, counted}
use Rattle.ordup_entries.specs.Entries.{ScriptEntry}
use Rattle.ordup_entries.specs.declared.entry.Header.{Header}
use Rattle.ordup_entries.specs.declared.error.ReadError.{ReadError}
use Rattle.ordup_entries.specs.declared.error.ReadError.TheVariants as errors
use Rattle.ordup_entries.specs.declared.order.Part.{Part}
use Rattle.ordup_entries.specs.declared.order.Part.TheVariants.{Start}
use Rattle.ordup_entries.specs.declared.step.Step.{Step}

abbrev pub header_by : ℕ × (List ℕ × List ℕ) → Header
header_by x = record { epoch = x.0; version = x.1.0; writer = x.1.1 }

-- what the first line says behind its first word
unfoldable pub header_at : List ℕ → Option Header
header_at bytes =
    option_map header_by
    (after (codes "1") (after (codes "epoch") (both (number_at 1 most_number) (after (codes "ordup") (both (tested_at (is_word most_word_bytes)) (after (codes "writer") (last (tested_at (is_word most_writer_bytes)))))))) bytes)

abbrev pub header_of : List ℕ → Option Header
header_of line = if bytes_eq (first_word line).0 (codes "ordup-node") then header_at (first_word line).1 else None

-- a step, where it may be next
abbrev pub next_by : Part → ℕ → Option Step → Option Step
next_by part room None = None
next_by part room (Some step) = if may_be_next part room step then Some step else None

abbrev pub with_step : Step → Result (List Step) ℕ → Result (List Step) ℕ
with_step step (Ok steps) = Ok (step ∷ steps)
with_step step (Err number) = Err number

abbrev pub with_header : Header → Result (List Step) ℕ → Result ScriptEntry ℕ
with_header header (Ok steps) = Ok (record { header = header; steps = steps })
with_header header (Err number) = Err number

abbrev pub option_cases : {X Y : Type 0} → Option X → Y → (X → Y) → Y
option_cases None none some = none
option_cases (Some x) none some = some x

-- The steps of lines, by the number of the first, or the number of the first line that may not stand there. Nothing is behind the last
-- line feed.
abbrev pub steps_of : ℕ → Part → ℕ → List (List ℕ) → Result (List Step) ℕ
steps_of number part room [] = Err number
steps_of number part room (end ∷ []) = if length end == 0 then Ok [] else Err number
steps_of number part room (line ∷ next ∷ lines) =
    option_cases (next_by part room (step_of line)) (Err number)
    (λ step. with_step step (steps_of (number + 1) (part_behind step) (room - counted step) (next ∷ lines)))

-- the entry that lines are, or the number of the first one that may not stand there
abbrev pub entry_by : List (List ℕ) → Result ScriptEntry ℕ
entry_by [] = Err 1
entry_by (end ∷ []) = Err 1
entry_by (line ∷ next ∷ lines) =
    option_cases (header_of line) (Err 1) (λ header. with_header header (steps_of 2 Start most_counted (next ∷ lines)))

abbrev pub told : Result ScriptEntry ℕ → Result ScriptEntry ReadError
told (Ok entry) = Ok entry
told (Err number) = Err (errors.Line number)

-- the entry that a text is, or what is wrong with it
unfoldable pub entry_of : List ℕ → Result ScriptEntry ReadError
entry_of text = if nat_lt most_entry_bytes (length text) then Err errors.TooLong else told (entry_by (parts_of text))

-- what a call answers that reads this, unless memory is refused
abbrev pub Fails : ReadError → Result ScriptEntry ReadError → Type 0
Fails errors.Memory read = Unit {0}
Fails errors.TooLong read = read ≡ Err errors.TooLong
Fails (errors.Line number) read = read ≡ Err (errors.Line number)

abbrev pub Gives : Result ScriptEntry ReadError → Result ScriptEntry ReadError → Type 0
Gives (Ok entry) read = read ≡ Ok entry
Gives (Err e) read = Fails e read

-- the same of the steps
abbrev pub FailsSteps : ReadError → Result (List Step) ℕ → Type 0
FailsSteps errors.Memory read = Unit {0}
FailsSteps errors.TooLong read = ⊥
FailsSteps (errors.Line number) read = read ≡ Err number

abbrev pub GivesSteps : {X : Type 0} → (X → List Step) → Result X ReadError → Result (List Step) ℕ → Type 0
GivesSteps view (Ok steps) read = read ≡ Ok (view steps)
GivesSteps view (Err e) read = FailsSteps e read
