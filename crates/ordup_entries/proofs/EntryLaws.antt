-- What is read as an entry is the text of that entry, and the text of an entry of the form is read as it.
use Rattle.std.proofs.Common.{◌≡◌, ◌∙◌, ap, sym, subst, refl, inl, inr, ℕ, ◌+◌, ◌-◌, Bool, true, false, ◌&&◌, ◌==◌, nat_lt}
use Rattle.std.proofs.Common.{List, [], ◌∷◌, ◌++◌, length, map, Option, Some, None, Result, Ok, Err, arith, cond, append_assoc}
use Rattle.std.specs.Prelude.{codes, not, nat_le, IfOk}
use Rattle.std.specs.List.{AllByRecursion, list_all, flat_map, join_with_byte}
use Rattle.std.specs.Str.{bytes_eq}
use Rattle.std.specs.Cmp.Lexicographic.{bytes_decides}
use Rattle.std.proofs.lemmas.Bool.{and_parts, and_from, eqb-true}
use Rattle.std.proofs.lemmas.Bool.Decides.{nat_tests}
use Rattle.std.proofs.lemmas.List.{nil_from_length}
use Rattle.std.proofs.lemmas.List.Elements.{All-from_recursion}
use Rattle.std.proofs.lemmas.List.Splits.{slice_split_at, join_with_byte-slice_split}
use Rattle.std.proofs.lemmas.Option.{same_Some}
use Rattle.ordup_entries.specs.Words.{is_word}
use Rattle.ordup_entries.specs.Fields.{first_word, tested_at}
use Rattle.ordup_entries.specs.Parts.{is_line_feed, parts_of}
use Rattle.ordup_entries.specs.Steps.{word_text, number_text, step_text, is_step}
use Rattle.ordup_entries.specs.Lines.{step_of}
use Rattle.ordup_entries.specs.Orders.{may_be_next, part_behind, counted, are_steps}
use Rattle.ordup_entries.specs.Entries.{ScriptEntry, header_text, is_header, line_of, text_of, is_entry}
use Rattle.ordup_entries.specs.Reading.{header_by, header_at, header_of, next_by, with_step, with_header, option_cases, steps_of, entry_by, told, entry_of, Gives}
use Rattle.ordup_entries.specs.declared.entry.Header.{Header}
use Rattle.ordup_entries.specs.declared.error.ReadError.{ReadError}
use Rattle.ordup_entries.specs.declared.error.ReadError.TheVariants as errors
use Rattle.ordup_entries.specs.declared.order.Part.{Part}
use Rattle.ordup_entries.specs.declared.order.Part.TheVariants.{Start}
use Rattle.ordup_entries.specs.declared.step.Step.{Step}
use Rattle.ordup_entries.proofs.FieldLaws.{is_inner, IsField, IsEnd, chosen, first_word-again, first_word-parts, tested_law, last_law, both_law, after_law}
use Rattle.ordup_entries.proofs.LineLaws.{mapped_law, word_words, word_law, greatest_law}
use Rattle.ordup_entries.proofs.StepLaws.{step_of-takes, step_of-again, step_inner}

-- ---- lines

not_true : (b : Bool) → not b ≡ true → b ≡ false
not_true true h = absurd cc
not_true false h = refl

inner_each : (bytes : List ℕ) → list_all is_inner bytes ≡ true → AllByRecursion (λ byte. is_line_feed byte ≡ false) bytes
inner_each [] h = tt
inner_each (byte ∷ bytes) h =
    let parts = and_parts (is_inner byte) (list_all is_inner bytes) h in
    (not_true (is_line_feed byte) parts.0, inner_each bytes parts.1)

-- the first part of a text that begins with a line
pub line_parts : (line rest : List ℕ) → list_all is_inner line ≡ true → parts_of (line_of line ++ rest) ≡ line ∷ parts_of rest
line_parts line rest h =
    ap parts_of (append_assoc line (10 ∷ []) rest)
    ∙ slice_split_at is_line_feed line 10 rest (All-from_recursion (λ byte. is_line_feed byte ≡ false) line (inner_each line h)) refl

same_parts : (a b : List ℕ) → parts_of a ≡ parts_of b → a ≡ b
same_parts a b h = sym (join_with_byte-slice_split 10 a) ∙ ap (join_with_byte 10) h ∙ join_with_byte-slice_split 10 b

-- ---- steps

abbrev pub lines_of : List Step → List ℕ
lines_of steps = flat_map (λ s. line_of (step_text s)) steps

abbrev parts_by : List Step → List (List ℕ)
parts_by steps = map step_text steps ++ [] ∷ []

steps_parts : (part : Part) (room : ℕ) (steps : List Step) → are_steps part room steps ≡ true → parts_of (lines_of steps) ≡ parts_by steps
steps_parts part room [] h = refl
steps_parts part room (step ∷ steps) h =
    let parts = and_parts (is_step step) (may_be_next part room step && are_steps (part_behind step) (room - counted step) steps) h in
    let more = and_parts (may_be_next part room step) (are_steps (part_behind step) (room - counted step) steps) parts.1 in
    line_parts (step_text step) (lines_of steps) (step_inner step parts.0)
    ∙ ap (λ ps. step_text step ∷ ps) (steps_parts (part_behind step) (room - counted step) steps more.1)

cases_ok : (o : Option Step) (number : ℕ) (f : Step → Result (List Step) ℕ) (steps : List Step) → option_cases o (Err number) f ≡ Ok steps
    → (step : Step) × (o ≡ Some step) × (f step ≡ Ok steps)
cases_ok None number f steps e = absurd cc
cases_ok (Some step) number f steps e = (step, refl, e)

abbrev read_steps : List Step → Result (List Step) ℕ
read_steps steps = Ok steps

ok_is : (a b : List Step) → read_steps a ≡ read_steps b → a ≡ b
ok_is a b e = cc

with_ok : (step : Step) (read : Result (List Step) ℕ) (steps : List Step) → with_step step read ≡ Ok steps
    → (more : List Step) × (read ≡ Ok more) × (step ∷ more ≡ steps)
with_ok step (Ok more) steps e = (more, refl, ok_is (step ∷ more) steps e)
with_ok step (Err number) steps e = absurd cc

may_ok : (b : Bool) (found step : Step) → cond b (Some found) None ≡ Some step → (b ≡ true) × (found ≡ step)
may_ok true found step e = (refl, same_Some found step e)
may_ok false found step e = absurd cc

pub next_ok : (part : Part) (room : ℕ) (o : Option Step) (step : Step) → next_by part room o ≡ Some step
    → (o ≡ Some step) × (may_be_next part room step ≡ true)
next_ok part room None step e = absurd cc
next_ok part room (Some found) step e =
    let m = may_ok (may_be_next part room found) found step e in
    (ap (λ s. Some s) m.1, subst (λ s. may_be_next part room s ≡ true) m.1 m.0)

abbrev AreRead : Part → ℕ → List (List ℕ) → List Step → Type 0
AreRead part room parts steps = (parts ≡ parts_by steps) × (are_steps part room steps ≡ true)

steps-takes : (number : ℕ) (part : Part) (room : ℕ) (parts : List (List ℕ)) (steps : List Step)
    → steps_of number part room parts ≡ Ok steps
    → AreRead part room parts steps
steps-takes number part room [] steps e = absurd cc
steps-takes number part room (end ∷ []) steps e =
    elim (chosen (length end == 0) (read_steps []) (Err number) (Ok steps) e) [
      | inl is ↦ (let nothing : end ≡ [] = nil_from_length end (eqb-true (length end) 0 is.0) in
          subst (λ ss. AreRead part room (end ∷ []) ss) (ok_is [] steps is.1) (ap (λ l. l ∷ []) nothing, refl))
      | inr none ↦ absurd (let e = none.1 in cc)
    ]
steps-takes number part room (line ∷ next ∷ lines) steps e =
    let rest = λ (step : Step). steps_of (number + 1) (part_behind step) (room - counted step) (next ∷ lines) in
    let c = cases_ok (next_by part room (step_of line)) number (λ step. with_step step (rest step)) steps e in
    let step = c.0 in
    let n = next_ok part room (step_of line) step c.1 in
    let w = with_ok step (rest step) steps c.2 in
    let t = step_of-takes line step n.0 in
    let r = steps-takes (number + 1) (part_behind step) (room - counted step) (next ∷ lines) w.0 w.1 in
    subst (λ ss. AreRead part room (line ∷ next ∷ lines) ss) w.2
    (ap (λ l. l ∷ next ∷ lines) t.0 ∙ ap (λ ls. step_text step ∷ ls) r.0, and_from (is_step step) _ t.1 (and_from (may_be_next part room step) _ n.1 r.1))

one_again : (number : ℕ) (part : Part) (room : ℕ) (step : Step) (steps : List Step) (rest : List (List ℕ)) → is_step step ≡ true
    → may_be_next part room step ≡ true
    → steps_of (number + 1) (part_behind step) (room - counted step) rest ≡ Ok steps
    → option_cases (next_by part room (step_of (step_text step))) (Err number)
    (λ step. with_step step (steps_of (number + 1) (part_behind step) (room - counted step) rest))
    ≡ Ok (step ∷ steps)
one_again number part room step steps rest is may more =
    let f = λ (step : Step). with_step step (steps_of (number + 1) (part_behind step) (room - counted step) rest) in
    ap (λ (o : Option Step). option_cases (next_by part room o) (Err number) f) (step_of-again step is)
    ∙ ap (λ b. option_cases (cond b (Some step) None) (Err number) f) may
    ∙ ap (with_step step) more

steps-again : (number : ℕ) (part : Part) (room : ℕ) (steps : List Step) → are_steps part room steps ≡ true
    → steps_of number part room (parts_by steps) ≡ Ok steps
steps-again number part room [] h = refl
steps-again number part room (step ∷ []) h =
    let parts = and_parts (is_step step) (may_be_next part room step && true) h in
    let more = and_parts (may_be_next part room step) true parts.1 in
    one_again number part room step [] (parts_by []) parts.0 more.0 refl
steps-again number part room (step ∷ next ∷ steps) h =
    let parts = and_parts (is_step step) (may_be_next part room step && are_steps (part_behind step) (room - counted step) (next ∷ steps)) h in
    let more = and_parts (may_be_next part room step) (are_steps (part_behind step) (room - counted step) (next ∷ steps)) parts.1 in
    one_again number part room step (next ∷ steps) (parts_by (next ∷ steps)) parts.0 more.0
    (steps-again (number + 1) (part_behind step) (room - counted step) (next ∷ steps) more.1)

-- ---- the first line

writer_law : IsField (tested_at (is_word 256)) word_text (is_word 256)
writer_law = tested_law (is_word 256) (word_words 256)

abbrev header_fields : Header → List ℕ
header_fields h =
    word_text (codes "1")
    ++ (word_text (codes "epoch")
    ++ (number_text h.epoch
    ++ (word_text (codes "ordup")
    ++ (word_text h.version
    ++ (word_text (codes "writer")
    ++ word_text h.writer)))))

abbrev header_back : Header → ℕ × (List ℕ × List ℕ)
header_back h = (h.epoch, (h.version, h.writer))

header_law : IsEnd header_at header_fields is_header
unfolding header_at
header_law =
    mapped_law _ _ _ (after_law (codes "1") refl _ _ _ (after_law (codes "epoch") refl _ _ _ (both_law _ _ _ greatest_law _ _ _ (after_law (codes "ordup") refl _ _ _ (both_law _ _ _ word_law _ _ _ (after_law (codes "writer") refl _ _ _ (last_law _ _ _ writer_law))))))) header_by header_back
    (λ x. refl) (λ y. refl)

pub header-takes : (line : List ℕ) (h : Header) → header_of line ≡ Some h → (line ≡ header_text h) × (is_header h ≡ true)
header-takes line h e =
    elim (chosen (bytes_eq (first_word line).0 (codes "ordup-node")) (header_at (first_word line).1) None (Some h) e) [
      | inl is ↦ (let t = header_law.takes (first_word line).1 h is.1 in
          let first : (first_word line).0 ≡ codes "ordup-node" = (bytes_decides (first_word line).0 (codes "ordup-node")).0 is.0 in
          (first_word-parts line ∙ ap (λ f. f ++ (first_word line).1) first ∙ ap (λ r. codes "ordup-node" ++ r) t.0, t.1))
      | inr none ↦ absurd (let e = none.1 in cc)
    ]

pub header-again : (h : Header) → is_header h ≡ true → header_of (header_text h) ≡ Some h
header-again h is =
    ap (λ (w : List ℕ × List ℕ). cond (bytes_eq w.0 (codes "ordup-node")) (header_at w.1) None)
    (first_word-again (codes "ordup-node") (header_fields h) refl refl)
    ∙ header_law.again h is

pub header_inner : (h : Header) → is_header h ≡ true → list_all is_inner (header_text h) ≡ true
header_inner h is = header_law.inner h is

-- ---- entries

entry_parts : (e : ScriptEntry) → is_header e.header ≡ true → are_steps Start 1000000 e.steps ≡ true
    → parts_of (text_of e) ≡ header_text e.header ∷ parts_by e.steps
entry_parts e is are =
    line_parts (header_text e.header) (lines_of e.steps) (header_inner e.header is)
    ∙ ap (λ ps. header_text e.header ∷ ps) (steps_parts Start 1000000 e.steps are)

header_ok : (o : Option Header) (read : Result (List Step) ℕ) (e : ScriptEntry)
    → option_cases o (Err 1) (λ header. with_header header read) ≡ Ok e
    → (o ≡ Some e.header) × (read ≡ Ok e.steps)
header_ok None read e h = absurd cc
header_ok (Some header) (Ok steps) e h =
    let is : record { header = header; steps = steps } ≡ e = cc in
    (ap (λ (e : ScriptEntry). Some e.header) is, ap (λ (e : ScriptEntry). read_steps e.steps) is)
header_ok (Some header) (Err number) e h = absurd cc

entry_by-takes : (parts : List (List ℕ)) (e : ScriptEntry) → entry_by parts ≡ Ok e
    → (parts ≡ header_text e.header ∷ parts_by e.steps) × (is_header e.header ≡ true) × (are_steps Start 1000000 e.steps ≡ true)
entry_by-takes [] e h = absurd cc
entry_by-takes (end ∷ []) e h = absurd cc
entry_by-takes (line ∷ next ∷ lines) e h =
    let o = header_ok (header_of line) (steps_of 2 Start 1000000 (next ∷ lines)) e h in
    let t = header-takes line e.header o.0 in
    let r = steps-takes 2 Start 1000000 (next ∷ lines) e.steps o.1 in
    (ap (λ l. l ∷ next ∷ lines) t.0 ∙ ap (λ ls. header_text e.header ∷ ls) r.0, t.1, r.1)

told_ok : (read : Result ScriptEntry ℕ) (e : ScriptEntry) → told read ≡ Ok e → read ≡ Ok e
told_ok (Ok entry) e h =
    let is : entry ≡ e = cc in
    ap (λ (e : ScriptEntry). Ok e) is
told_ok (Err number) e h = absurd cc

sized : (b : Bool) (read : Result ScriptEntry ReadError) (e : ScriptEntry) → cond b (Err errors.TooLong) read ≡ Ok e → (b ≡ false) × (read ≡ Ok e)
sized true read e h = absurd cc
sized false read e h = (refl, h)

pub entry-takes : (text : List ℕ) (e : ScriptEntry) → entry_of text ≡ Ok e → (is_entry e ≡ true) × (text ≡ text_of e)
unfolding entry_of
entry-takes text e h =
    let s = sized (nat_lt 2097152 (length text)) (told (entry_by (parts_of text))) e h in
    let t = entry_by-takes (parts_of text) e (told_ok (entry_by (parts_of text)) e s.1) in
    let is : text ≡ text_of e = same_parts text (text_of e) (t.0 ∙ sym (entry_parts e t.1 t.2)) in
    let few : nat_le (length text) 2097152 ≡ true = (let h = s.0 in grind (arith, nat_tests)) in
    (and_from (is_header e.header) _ t.1 (and_from (are_steps Start 1000000 e.steps) _ t.2 (subst (λ t. nat_le (length t) 2097152 ≡ true) is few)), is)

entry_by-again : (h : Header) (steps : List Step) (rest : List ℕ) (rests : List (List ℕ)) → header_of (header_text h) ≡ Some h
    → steps_of 2 Start 1000000 (rest ∷ rests) ≡ Ok steps
    → entry_by (header_text h ∷ rest ∷ rests) ≡ Ok (record { header = h; steps = steps })
entry_by-again h steps rest rests head more =
    ap (λ (o : Option Header). option_cases o (Err 1) (λ header. with_header header (steps_of 2 Start 1000000 (rest ∷ rests)))) head
    ∙ ap (with_header h) more

entry_by_steps : (h : Header) (steps : List Step) → is_header h ≡ true → are_steps Start 1000000 steps ≡ true
    → entry_by (header_text h ∷ parts_by steps) ≡ Ok (record { header = h; steps = steps })
entry_by_steps h [] is are = entry_by-again h [] [] [] (header-again h is) refl
entry_by_steps h (step ∷ steps) is are =
    entry_by-again h (step ∷ steps) (step_text step) (parts_by steps) (header-again h is) (steps-again 2 Start 1000000 (step ∷ steps) are)

pub entry-again : (e : ScriptEntry) → is_entry e ≡ true → entry_of (text_of e) ≡ Ok e
unfolding entry_of
entry-again e h =
    let parts = and_parts (is_header e.header) (are_steps Start 1000000 e.steps && nat_le (length (text_of e)) 2097152) h in
    let more = and_parts (are_steps Start 1000000 e.steps) (nat_le (length (text_of e)) 2097152) parts.1 in
    let few : nat_lt 2097152 (length (text_of e)) ≡ false = (let h = more.1 in grind (arith, nat_tests)) in
    ap (λ b. cond b (Err errors.TooLong) (told (entry_by (parts_of (text_of e))))) few
    ∙ ap told (ap entry_by (entry_parts e parts.0 more.0) ∙ entry_by_steps e.header e.steps parts.0 more.0)

-- ---- what the reader says

entry_ok : (e f : ScriptEntry) → ◌≡◌ {A = Result ScriptEntry ReadError} (Ok e) (Ok f) → e ≡ f
entry_ok e f h = cc

pub one_text : (e f : ScriptEntry) → is_entry e ≡ true → is_entry f ≡ true → text_of e ≡ text_of f → e ≡ f
one_text e f is also same = entry_ok e f (sym (entry-again e is) ∙ ap entry_of same ∙ entry-again f also)

pub is_found : (text : List ℕ) (r : Result ScriptEntry ReadError) → Gives r (entry_of text)
    → IfOk r (λ e. (is_entry e ≡ true) × (text ≡ text_of e))
is_found text (Ok e) h = entry-takes text e h
is_found text (Err e) h = tt

pub is_only : (text : List ℕ) (r : Result ScriptEntry ReadError) → Gives r (entry_of text) → (e : ScriptEntry) → is_entry e ≡ true
    → text ≡ text_of e
    → Gives r (Ok e)
is_only text r h e is same = subst (λ read. Gives r read) (ap entry_of same ∙ entry-again e is) h
