-- Lines of words, as the text of a script, are read back as these lines.
use Rattle.std.proofs.Common.{◌≡◌, ◌∙◌, refl, ap, sym, ℕ, true, List, [], ◌∷◌, ◌++◌, append_assoc, Some}
use Rattle.std.specs.List.{All}
use Rattle.std.proofs.lemmas.List.Elements.{All-head, All-tail}
use Rattle.ordup_grammar.specs.Lines.{IsPart, cut}
use Rattle.ordup_grammar.specs.Requests.{request_by_words, request_of}
use Rattle.ordup_answers.specs.Replies.{reply, request_reply}
use Rattle.ordup_answers.specs.ScriptStates.{ScriptState, first_state}
use Rattle.ordup_answers.specs.Output.{Written, answered, state_after, unwritten}
use Rattle.ordup_answers.specs.Scripts.{IsCut, after_lines, lines_of}
use Rattle.ordup_answers.proofs.Lines.{ends}
use Rattle.ordup_succession.specs.Lines.{lines_text, spaced}
use Rattle.ordup_succession.proofs.Words.{IsWordLine, state_by}
use Rattle.ordup_succession.proofs.WordLemmas.{words_are_part, words_are_printed, words_are_read, words_are_short}

-- ---- the lines of a text

-- bytes before which no line ended
not_cut : (part : List ℕ) → IsCut part [] part
not_cut part = record { same = λ counts rest. refl }

-- a line feed ends the first line
first_line : (part rest : List ℕ) → IsPart part → lines_of true (part ++ 10 ∷ rest) ≡ cut part ∷ lines_of true rest
first_line part rest unended =
    ap (lines_of true) (sym (append_assoc part (10 ∷ []) rest)) ∙ (ends (not_cut part) unended).same true rest

-- the first line of words
pub line_of_words : (words : List (List ℕ)) (rest : List ℕ) → IsWordLine words
    → lines_of true (spaced words ++ 10 ∷ rest) ≡ Some (spaced words) ∷ lines_of true rest
line_of_words words rest is =
    first_line (spaced words) rest (words_are_part words is.each)
    ∙ ap (λ line. line ∷ lines_of true rest) (words_are_short words is.few is.each)

-- ---- what a line of words asks for

-- it asks for what its words ask for
pub request_of_words : (words : List (List ℕ)) → IsWordLine words → request_of (Some (spaced words)) ≡ request_by_words words
unfolding request_of
request_of_words words is =
    rw (is.command, words_are_printed words is.each, words_are_read words is.each) refl

-- so the reply is that to its words
pub reply_to_words : {A : Type 0} (s : ScriptState A) (words : List (List ℕ)) → IsWordLine words
    → reply s (Some (spaced words)) ≡ request_reply s (request_by_words words)
unfolding reply
reply_to_words s words is = ap (request_reply s) (request_of_words words is)

-- ---- the state after a text of lines

states_read : {A : Type 0} (w : Written A) (lines : List (List (List ℕ))) → All IsWordLine lines
    → (after_lines answered w (lines_of true (lines_text lines))).0 ≡ state_by w.0 lines
unfolding lines_of
states_read w [] are = refl
states_read {A} w (words ∷ lines) are =
    let is = All-head IsWordLine words lines are in
    let line : lines_of true (lines_text (words ∷ lines)) ≡ Some (spaced words) ∷ lines_of true (lines_text lines) =
    line_of_words words (lines_text lines) is in
    ap (λ all. (after_lines answered w all).0) line
    ∙ states_read (answered w (Some (spaced words))) lines (All-tail IsWordLine words lines are)
    ∙ ap (λ r. state_by r.0 lines) (reply_to_words w.0 words is)

-- a script that is the text of lines of words leads where these lines lead
pub lines_read : (A : Type 0) (lines : List (List (List ℕ))) → All IsWordLine lines
    → state_after A (lines_text lines) ≡ state_by first_state lines
lines_read A lines are = states_read {A = A} unwritten lines are
