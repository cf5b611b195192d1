-- The steps of an entry, line by line.
use Rattle.std.proofs.Common.{◌≡◌, ◌∙◌, ap, sym, refl, ℕ, ◌+◌, ◌-◌, Bool, true, false}
use Rattle.std.proofs.Common.{List, [], ◌∷◌, ◌++◌, length, Option, Some, None, Result, Ok, Err, cond, nat_lt, append_assoc}
use Rattle.std.specs.List.{onto_first}
use Rattle.ordup_entries.specs.Parts.{is_line_feed, parts_of}
use Rattle.ordup_entries.specs.Lines.{step_of}
use Rattle.ordup_entries.specs.Orders.{may_be_next, part_behind, counted}
use Rattle.ordup_entries.specs.Reading.{next_by, with_step, with_header, header_of, option_cases, steps_of, entry_by, entry_of, told, Fails, FailsSteps}
use Rattle.ordup_entries.specs.declared.entry.Header.{Header}
use Rattle.ordup_entries.specs.declared.error.ReadError.{ReadError}
use Rattle.ordup_entries.specs.declared.error.ReadError.TheVariants as errors
use Rattle.ordup_entries.specs.declared.order.Part.{Part}
use Rattle.ordup_entries.specs.declared.order.Part.TheVariants.{Start}
use Rattle.ordup_entries.specs.declared.step.Step.{Step}

some_of : (b : Bool) (byte : ℕ) (parts : List (List ℕ))
    → (p : List ℕ × List (List ℕ)) × (cond b ([] ∷ parts) (onto_first byte parts) ≡ p.0 ∷ p.1)
some_of true byte parts = (([], parts), refl)
some_of false byte [] = ((byte ∷ [], []), refl)
some_of false byte (part ∷ parts) = ((byte ∷ part, parts), refl)

-- a text has a part
pub some_parts : (text : List ℕ) → (p : List ℕ × List (List ℕ)) × (parts_of text ≡ p.0 ∷ p.1)
some_parts [] = (([], []), refl)
some_parts (byte ∷ text) = some_of (is_line_feed byte) byte (parts_of text)

-- the steps of a line and what is behind it
pub one_more : (number : ℕ) (part : Part) (room : ℕ) (line text : List ℕ)
    → steps_of number part room (line ∷ parts_of text)
    ≡ option_cases (next_by part room (step_of line)) (Err number)
    (λ step. with_step step (steps_of (number + 1) (part_behind step) (room - counted step) (parts_of text)))
one_more number part room line text = let s = some_parts text in rw s.1 refl

pub no_next : (number : ℕ) (part : Part) (room : ℕ) (lines line text : List ℕ) → parts_of lines ≡ line ∷ parts_of text
    → next_by part room (step_of line) ≡ None
    → steps_of number part room (parts_of lines) ≡ Err number
no_next number part room lines line text is none = rw is (one_more number part room line text ∙ rw none refl)

pub a_next : (number : ℕ) (part : Part) (room : ℕ) (lines line text : List ℕ) (step : Step) → parts_of lines ≡ line ∷ parts_of text
    → next_by part room (step_of line) ≡ Some step
    → steps_of number part room (parts_of lines)
    ≡ with_step step (steps_of (number + 1) (part_behind step) (room - counted step) (parts_of text))
a_next number part room lines line text step is some = rw is (one_more number part room line text ∙ rw some refl)

pub next-some : (part : Part) (room : ℕ) (o : Option Step) (step : Step) → o ≡ Some step → may_be_next part room step ≡ true
    → next_by part room o ≡ Some step
next-some part room o step is may = rw (is, may) refl

pub next-none : (part : Part) (room : ℕ) (o : Option Step) (step : Step) → o ≡ Some step → may_be_next part room step ≡ false
    → next_by part room o ≡ None
next-none part room o step is may = rw (is, may) refl

-- what is read behind these steps
abbrev pub with_front : List Step → Result (List Step) ℕ → Result (List Step) ℕ
with_front steps (Ok more) = Ok (steps ++ more)
with_front steps (Err number) = Err number

regrouped : (steps : List Step) (step : Step) (read : Result (List Step) ℕ)
    → with_front steps (with_step step read) ≡ with_front (steps ++ step ∷ []) read
regrouped steps step (Ok more) = ap (λ (ss : List Step). Ok ss) (sym (append_assoc steps (step ∷ []) more))
regrouped steps step (Err number) = refl

pub goes_on : (steps : List Step) (step : Step) (number next : ℕ) (read : ℕ → Result (List Step) ℕ) (whole total : Result (List Step) ℕ)
    → next ≡ number + 1
    → whole ≡ with_step step (read (number + 1))
    → with_front steps whole ≡ total
    → with_front (steps ++ step ∷ []) (read next) ≡ total
goes_on steps step number next read whole total is more so_far =
    sym (regrouped steps step (read next)) ∙ ap (λ n. with_front steps (with_step step (read n))) is ∙ ap (with_front steps) (sym more) ∙ so_far

pub a_header : (text line rest : List ℕ) (header : Header) → parts_of text ≡ line ∷ parts_of rest → header_of line ≡ Some header
    → told (entry_by (parts_of text)) ≡ told (with_header header (steps_of 2 Start 1000000 (parts_of rest)))
a_header text line rest header is some =
    let s = some_parts rest in
    rw (is, s.1) (ap (λ (o : Option Header). told (option_cases o (Err 1) (λ header. with_header header (steps_of 2 Start 1000000 (s.0.0 ∷ s.0.1))))) some)

-- what the whole fails with where its steps do
pub fails_whole : (e : ReadError) (header : Header) (read : Result (List Step) ℕ) → FailsSteps e read → Fails e (told (with_header header read))
fails_whole errors.Memory header read h = tt
fails_whole errors.TooLong header read h = absurd h
fails_whole (errors.Line number) header read h = rw h refl

pub fails : (text line rest : List ℕ) (header : Header) (e : ReadError) → nat_lt 2097152 (length text) ≡ false
    → parts_of text ≡ line ∷ parts_of rest
    → header_of line ≡ Some header
    → FailsSteps e (steps_of 2 Start 1000000 (parts_of rest))
    → Fails e (entry_of text)
unfolding entry_of
fails text line rest header e few is some h = rw (few, a_header text line rest header is some) (fails_whole e header _ h)
