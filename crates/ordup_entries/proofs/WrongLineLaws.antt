-- The line that is told is the first wrong one: the lines before it begin an entry, and with it they begin none.
use Rattle.std.proofs.Common.{◌≡◌, ◌∙◌, ap, sym, refl, inl, inr, ℕ, ◌+◌, ◌-◌, ◌≤◌, Bool, true, false, ◌&&◌, ◌==◌, nat_lt}
use Rattle.std.proofs.Common.{List, [], ◌∷◌, ◌++◌, length, map, Option, Some, None, Result, Ok, Err, arith, cond, append_assoc}
use Rattle.std.specs.Prelude.{◌⊎◌, IfErr}
use Rattle.std.specs.List.{onto_first}
use Rattle.std.proofs.lemmas.Bool.{and_parts, and_from, eqb-true}
use Rattle.std.proofs.lemmas.Bool.Decides.{nat_tests}
use Rattle.ordup_entries.specs.Parts.{is_line_feed, parts_of}
use Rattle.ordup_entries.specs.Steps.{step_text, is_step}
use Rattle.ordup_entries.specs.Lines.{step_of}
use Rattle.ordup_entries.specs.Orders.{may_be_next, part_behind, counted, are_steps}
use Rattle.ordup_entries.specs.Entries.{ScriptEntry, header_text, is_header, line_of}
use Rattle.ordup_entries.specs.Reading.{header_of, next_by, with_step, with_header, option_cases, steps_of, entry_by, told, entry_of, Gives}
use Rattle.ordup_entries.specs.WrongLines.{BeginsAsEntry, IsFirstWrong, IsTold}
use Rattle.ordup_entries.specs.declared.entry.Header.{Header}
use Rattle.ordup_entries.specs.declared.error.ReadError.{ReadError}
use Rattle.ordup_entries.specs.declared.error.ReadError.TheVariants as errors
use Rattle.ordup_entries.specs.declared.order.Part.{Part}
use Rattle.ordup_entries.specs.declared.order.Part.TheVariants.{Start}
use Rattle.ordup_entries.specs.declared.step.Step.{Step}
use Rattle.ordup_entries.proofs.ReadingLemmas.{some_parts}
use Rattle.ordup_entries.proofs.StepLaws.{step_of-takes, step_of-again, step_inner}
use Rattle.ordup_entries.proofs.EntryLaws.{line_parts, lines_of, next_ok, header-takes, header-again, header_inner}

-- a list that has a first element
abbrev IsSome : List (List ℕ) → Type 0
IsSome parts = (p : List ℕ × List (List ℕ)) × (parts ≡ p.0 ∷ p.1)

some_behind : (steps : List Step) (tail : List (List ℕ)) → IsSome tail → IsSome (map step_text steps ++ tail)
some_behind [] tail some = some
some_behind (step ∷ steps) tail some = ((step_text step, map step_text steps ++ tail), refl)

abbrev failed : ℕ → Result (List Step) ℕ
failed number = Err number

number_is : (a b : ℕ) → failed a ≡ failed b → a ≡ b
number_is a b h = cc

with_step_err : (step : Step) (read : Result (List Step) ℕ) (n : ℕ) → with_step step read ≡ Err n → read ≡ Err n
with_step_err step (Ok more) n h = absurd cc
with_step_err step (Err number) n h = h

cases_err : (o : Option Step) (number : ℕ) (f : Step → Result (List Step) ℕ) (n : ℕ) → option_cases o (Err number) f ≡ Err n
    → (number ≡ n) ⊎ ((step : Step) × (o ≡ Some step) × (f step ≡ Err n))
cases_err None number f n h = inl (number_is number n h)
cases_err (Some step) number f n h = inr (step, refl, h)

end_err : (b : Bool) (number n : ℕ) → cond b (Ok []) (failed number) ≡ Err n → number ≡ n
end_err true number n h = absurd cc
end_err false number n h = number_is number n h

-- ---- with the line they begin none

err_least : (number : ℕ) (part : Part) (room : ℕ) (parts : List (List ℕ)) (n : ℕ) → steps_of number part room parts ≡ Err n → number ≤ n
err_least number part room [] n h = omega (arith, number_is number n h)
err_least number part room (end ∷ []) n h = omega (arith, end_err (length end == 0) number n h)
err_least number part room (line ∷ next ∷ lines) n h =
    let rest = λ (step : Step). steps_of (number + 1) (part_behind step) (room - counted step) (next ∷ lines) in
    elim (cases_err (next_by part room (step_of line)) number (λ step. with_step step (rest step)) n h) [
      | inl is ↦ omega (arith, is)
      | inr c ↦ omega (arith, err_least (number + 1) (part_behind c.0) (room - counted c.0) (next ∷ lines) n (with_step_err c.0 (rest c.0) n c.2))
    ]

-- a step of the form, and what is behind it
step_more : (number : ℕ) (part : Part) (room : ℕ) (step : Step) (rest : List (List ℕ)) → IsSome rest → is_step step ≡ true
    → may_be_next part room step ≡ true
    → steps_of number part room (step_text step ∷ rest)
    ≡ with_step step (steps_of (number + 1) (part_behind step) (room - counted step) rest)
step_more number part room step rest some is may =
    let f = λ (rest : List (List ℕ)) (step : Step). with_step step (steps_of (number + 1) (part_behind step) (room - counted step) rest) in
    ap (λ rest. steps_of number part room (step_text step ∷ rest)) some.1
    ∙ ap (λ (o : Option Step). option_cases (next_by part room o) (Err number) (f (some.0.0 ∷ some.0.1))) (step_of-again step is)
    ∙ ap (λ b. option_cases (cond b (Some step) None) (Err number) (f (some.0.0 ∷ some.0.1))) may
    ∙ ap (λ rest. with_step step (steps_of (number + 1) (part_behind step) (room - counted step) rest)) (sym some.1)

steps_err : (number : ℕ) (part : Part) (room : ℕ) (steps : List Step) (tail : List (List ℕ)) (n : ℕ) → IsSome tail
    → are_steps part room steps ≡ true
    → steps_of number part room (map step_text steps ++ tail) ≡ Err n
    → number + length steps ≤ n
steps_err number part room [] tail n some are h = omega (arith, err_least number part room tail n h)
steps_err number part room (step ∷ steps) tail n some are h =
    let parts = and_parts (is_step step) (may_be_next part room step && are_steps (part_behind step) (room - counted step) steps) are in
    let more = and_parts (may_be_next part room step) (are_steps (part_behind step) (room - counted step) steps) parts.1 in
    let rest = map step_text steps ++ tail in
    let e = sym (step_more number part room step rest (some_behind steps tail some) parts.0 more.0) ∙ h in
    let r = with_step_err step (steps_of (number + 1) (part_behind step) (room - counted step) rest) n e in
    omega (arith, steps_err (number + 1) (part_behind step) (room - counted step) steps tail n some more.1 r)

steps_begun : (part : Part) (room : ℕ) (steps : List Step) (rest : List ℕ) → are_steps part room steps ≡ true
    → parts_of (lines_of steps ++ rest) ≡ map step_text steps ++ parts_of rest
steps_begun part room [] rest are = refl
steps_begun part room (step ∷ steps) rest are =
    let parts = and_parts (is_step step) (may_be_next part room step && are_steps (part_behind step) (room - counted step) steps) are in
    let more = and_parts (may_be_next part room step) (are_steps (part_behind step) (room - counted step) steps) parts.1 in
    ap parts_of (append_assoc (line_of (step_text step)) (lines_of steps) rest)
    ∙ line_parts (step_text step) (lines_of steps ++ rest) (step_inner step parts.0)
    ∙ ap (λ ps. step_text step ∷ ps) (steps_begun (part_behind step) (room - counted step) steps rest more.1)

abbrev fails_at : ℕ → Result ScriptEntry ℕ
fails_at number = Err number

entry_number : (a b : ℕ) → fails_at a ≡ fails_at b → a ≡ b
entry_number a b h = cc

header_cases : (o : Option Header) (read : Result (List Step) ℕ) (n : ℕ)
    → option_cases o (Err 1) (λ header. with_header header read) ≡ Err n
    → (1 ≡ n) ⊎ ((header : Header) × (o ≡ Some header) × (read ≡ Err n))
header_cases None read n h = inl (entry_number 1 n h)
header_cases (Some header) (Ok steps) n h = absurd cc
header_cases (Some header) (Err number) n h = inr (header, refl, ap failed (entry_number number n h))

with_header_err : (header : Header) (read : Result (List Step) ℕ) (n : ℕ) → with_header header read ≡ Err n → read ≡ Err n
with_header_err header (Ok steps) n h = absurd cc
with_header_err header (Err number) n h = ap failed (entry_number number n h)

-- an entry that begins a text is read before a line is told
entry_err : (h : Header) (steps : List Step) (tail : List (List ℕ)) (n : ℕ) → IsSome tail → is_header h ≡ true
    → are_steps Start 1000000 steps ≡ true
    → entry_by (header_text h ∷ (map step_text steps ++ tail)) ≡ Err n
    → 2 + length steps ≤ n
entry_err h steps tail n some is are e =
    let q = some_behind steps tail some in
    let read = λ (rest : List (List ℕ)). steps_of 2 Start 1000000 rest in
    let with = ap (λ rest. entry_by (header_text h ∷ rest)) q.1
    ∙ ap (λ (o : Option Header). option_cases o (Err 1) (λ header. with_header header (read (q.0.0 ∷ q.0.1)))) (header-again h is) in
    let failing : with_header h (read (q.0.0 ∷ q.0.1)) ≡ Err n = sym with ∙ e in
    steps_err 2 Start 1000000 steps tail n some are (ap read q.1 ∙ with_header_err h (read (q.0.0 ∷ q.0.1)) n failing)

told_err : (read : Result ScriptEntry ℕ) (n : ℕ) → told read ≡ Err (errors.Line n) → read ≡ Err n
told_err (Ok entry) n h = absurd cc
told_err (Err number) n h =
    let is : number ≡ n = cc in
    ap fails_at is

sized_err : (b : Bool) (read : Result ScriptEntry ℕ) (n : ℕ) → cond b (Err errors.TooLong) (told read) ≡ Err (errors.Line n) → read ≡ Err n
sized_err true read n h = absurd cc
sized_err false read n h = told_err read n h

no_entry : (text : List ℕ) (n lines : ℕ) → entry_by (parts_of text) ≡ Err n → n ≤ lines → BeginsAsEntry text lines → ⊥
no_entry text n lines h few (e, rest, is, are, same, counts) =
    let some = some_parts rest in
    let parts : parts_of text ≡ header_text e.header ∷ (map step_text e.steps ++ parts_of rest) =
    ap parts_of (same ∙ append_assoc (line_of (header_text e.header)) (lines_of e.steps) rest)
    ∙ line_parts (header_text e.header) (lines_of e.steps ++ rest) (header_inner e.header is)
    ∙ ap (λ ps. header_text e.header ∷ ps) (steps_begun Start 1000000 e.steps rest are) in
    omega (arith, entry_err e.header e.steps (parts_of rest) n some is are (ap entry_by (sym parts) ∙ h), few, counts)

-- ---- the lines before it begin one

-- what is behind the first line of a text whose parts are these
abbrev IsCut : List ℕ → List ℕ → List (List ℕ) → Type 0
IsCut text line more = (rest : List ℕ) × (text ≡ line_of line ++ rest) × (parts_of rest ≡ more)

first_part : {part line : List ℕ} {parts more : List (List ℕ)} → part ∷ parts ≡ line ∷ more → part ≡ line
first_part h = cc

other_parts : {part line : List ℕ} {parts more : List (List ℕ)} → part ∷ parts ≡ line ∷ more → parts ≡ more
other_parts h = cc

cut_byte : (b : Bool) (byte : ℕ) (text line : List ℕ) (more : List (List ℕ)) → is_line_feed byte ≡ b
    → cond b ([] ∷ parts_of text) (onto_first byte (parts_of text)) ≡ line ∷ more
    → ((line : List ℕ) → parts_of text ≡ line ∷ more → IsCut text line more)
    → IsCut (byte ∷ text) line more
cut_byte true byte text line more feed h again =
    let nothing : [] ≡ line = first_part h in
    let is : byte ≡ 10 = eqb-true byte 10 feed in
    (text, ap (λ b. b ∷ text) is ∙ ap (λ (l : List ℕ). line_of l ++ text) nothing, other_parts h)
cut_byte false byte text line more feed h again =
    let s = some_parts text in
    let onto : (byte ∷ s.0.0) ∷ s.0.1 ≡ line ∷ more = sym (ap (onto_first byte) s.1) ∙ h in
    let c = again s.0.0 (s.1 ∙ ap (λ ps. s.0.0 ∷ ps) (other_parts onto)) in
    (c.0, ap (λ t. byte ∷ t) c.1 ∙ ap (λ l. line_of l ++ c.0) (first_part onto), c.2)

no_more : (line : List ℕ) (more : List (List ℕ)) → IsSome more → [] ∷ [] ≡ line ∷ more → ⊥
no_more line more some h =
    let none : [] ≡ some.0.0 ∷ some.0.1 = other_parts h ∙ some.1 in
    cc

cut_text : (text line : List ℕ) (more : List (List ℕ)) → IsSome more → parts_of text ≡ line ∷ more → IsCut text line more
cut_text [] line more some h = absurd (no_more line more some h)
cut_text (byte ∷ text) line more some h =
    cut_byte (is_line_feed byte) byte text line more refl h (λ line h. cut_text text line more some h)

-- the steps before the line that is told
abbrev AreBefore : ℕ → Part → ℕ → List ℕ → ℕ → Type 0
AreBefore number part room text n =
    (steps : List Step) × (rest : List ℕ) × (are_steps part room steps ≡ true) × (text ≡ lines_of steps ++ rest) × (number + length steps ≡ n)

before_by : (parts : List (List ℕ)) (number : ℕ) (part : Part) (room : ℕ) (text : List ℕ) (n : ℕ) → parts_of text ≡ parts
    → steps_of number part room parts ≡ Err n
    → AreBefore number part room text n
before_by [] number part room text n is h = ([], text, refl, refl, omega (arith, number_is number n h))
before_by (end ∷ []) number part room text n is h = ([], text, refl, refl, omega (arith, end_err (length end == 0) number n h))
before_by (line ∷ next ∷ lines) number part room text n is h =
    let rest = λ (step : Step). steps_of (number + 1) (part_behind step) (room - counted step) (next ∷ lines) in
    elim (cases_err (next_by part room (step_of line)) number (λ step. with_step step (rest step)) n h) [
      | inl at ↦ ([], text, refl, refl, omega (arith, at))
      | inr c ↦ (let step = c.0 in
          let is_next = next_ok part room (step_of line) step c.1 in
          let takes = step_of-takes line step is_next.0 in
          let cut = cut_text text line (next ∷ lines) ((next, lines), refl) is in
          let more = before_by (next ∷ lines) (number + 1) (part_behind step) (room - counted step) cut.0 n cut.2 (with_step_err step (rest step) n c.2) in (
            step ∷ more.0,
            more.1,
            and_from (is_step step) _ takes.1 (and_from (may_be_next part room step) _ is_next.1 more.2),
            cut.1 ∙ ap (λ l. line_of l ++ cut.0) takes.0 ∙ ap (λ t. line_of (step_text step) ++ t) more.3 ∙ sym (append_assoc (line_of (step_text step)) (lines_of more.0) more.1),
            omega (arith, more.4),
          ))
    ]

entry_before : (parts : List (List ℕ)) (text : List ℕ) (n : ℕ) → parts_of text ≡ parts → entry_by parts ≡ Err n
    → (n ≡ 1) ⊎ ((lines : ℕ) × (n ≡ lines + 1) × BeginsAsEntry text lines)
entry_before [] text n is h = inl (sym (entry_number 1 n h))
entry_before (end ∷ []) text n is h = inl (sym (entry_number 1 n h))
entry_before (line ∷ next ∷ lines) text n is h =
    elim (header_cases (header_of line) (steps_of 2 Start 1000000 (next ∷ lines)) n h) [
      | inl one ↦ inl (sym one)
      | inr c ↦ (let takes = header-takes line c.0 c.1 in
          let cut = cut_text text line (next ∷ lines) ((next, lines), refl) is in
          let more = before_by (next ∷ lines) 2 Start 1000000 cut.0 n cut.2 c.2 in
          let whole = cut.1 ∙ ap (λ l. line_of l ++ cut.0) takes.0 ∙ ap (λ t. line_of (header_text c.0) ++ t) more.3
          ∙ sym (append_assoc (line_of (header_text c.0)) (lines_of more.0) more.1) in
          inr (length more.0 + 1, omega (arith, more.4), (record { header = c.0; steps = more.0 }, more.1, takes.1, more.2, whole, refl)))
    ]

first_wrong : (text : List ℕ) (n : ℕ) → entry_by (parts_of text) ≡ Err n → IsFirstWrong text n
first_wrong text n h = record {
  before = entry_before (parts_of text) text n refl h;
  wrong = λ lines few begins. no_entry text n lines h few begins;
}

too_long : (b : Bool) (read : Result ScriptEntry ℕ) → cond b (Err errors.TooLong) (told read) ≡ Err errors.TooLong → b ≡ true
too_long true read h = refl
too_long false (Ok entry) h = absurd cc
too_long false (Err number) h = absurd cc

pub is_told : (text : List ℕ) (r : Result ScriptEntry ReadError) → Gives r (entry_of text) → IfErr r (λ e. IsTold text e)
unfolding entry_of
is_told text (Ok e) h = tt
is_told text (Err errors.Memory) h = tt
is_told text (Err errors.TooLong) h =
    let long = too_long (nat_lt 2097152 (length text)) (entry_by (parts_of text)) h in
    grind (arith, nat_tests)
is_told text (Err (errors.Line n)) h = first_wrong text n (sized_err (nat_lt 2097152 (length text)) (entry_by (parts_of text)) n h)
