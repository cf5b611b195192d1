-- A line that is read as a step is the text of that step, and the text of a step of the form is read as it.
use Rattle.std.proofs.Common.{◌≡◌, ◌∙◌, ap, refl, inl, inr, ℕ, Bool, true, ◌&&◌}
use Rattle.std.proofs.Common.{List, ◌++◌, Option, Some, None, option_map, if◌then◌else◌}
use Rattle.std.specs.Prelude.{codes}
use Rattle.std.specs.List.{list_all}
use Rattle.std.specs.Str.{bytes_eq}
use Rattle.ordup_objects.specs.Names.{is_name}
use Rattle.ordup_grammar.specs.declared.declaration.ScopeWord.{ScopeWord}
use Rattle.ordup_entries.specs.Words.{within, is_word, is_client, is_changes}
use Rattle.ordup_entries.specs.Steps.{word_text, number_text, answer_text, limit_answer_text, settings_text, scope_text, step_text}
use Rattle.ordup_entries.specs.Steps.{is_answer, is_limit_answer, is_settings, is_scope, is_step}
use Rattle.ordup_entries.specs.Fields.{first_word, tested_at, number_at, text_at, last, both}
use Rattle.ordup_entries.specs.Lines.{answer_at, limit_answer_at, aged_at, settings_at, scope_at}
use Rattle.ordup_entries.specs.Lines.{known_at, tell_at, ask_at, gone_at, relimit_at, answered_at, step_by, step_of}
use Rattle.ordup_entries.specs.declared.answer.Answer.{Answer}
use Rattle.ordup_entries.specs.declared.answer.LimitAnswer.{LimitAnswer}
use Rattle.ordup_entries.specs.declared.settings.Settings.{Settings}
use Rattle.ordup_entries.specs.declared.step.Step.{Step}
use Rattle.ordup_entries.specs.declared.step.Step.TheVariants.{
  Begin,
  Declare,
  Known,
  Tell,
  Ask,
  Settle,
  Wish,
  Want,
  Leave,
  Gone,
  Relimit,
  Elapsed,
  Answered,
}
use Rattle.ordup_entries.proofs.FieldLaws.{is_inner, IsEnd, chosen, first_word-again, first_word-parts}
use Rattle.ordup_entries.proofs.FieldLaws.{text_law, last_law, both_law}
use Rattle.ordup_entries.proofs.LineLaws.{named, client_law, name_law, word_law, counted_law, from_zero_law, greatest_law, amount_law, aged_text, is_aged}
use Rattle.ordup_entries.proofs.LineLaws.{answer_law, limit_law, aged_law, settings_law, scope_law}

-- ---- each kind

abbrev ask_fields : List ℕ × (ℕ × List ℕ) → List ℕ
ask_fields x = word_text x.0 ++ (number_text x.1.0 ++ word_text x.1.1)

abbrev ask_fits : List ℕ × (ℕ × List ℕ) → Bool
ask_fits x = is_client x.0 && (within 1 999999999999999999 x.1.0 && is_changes x.1.1)

abbrev ask_made : List ℕ × (ℕ × List ℕ) → Step
ask_made x = Ask x.0 x.1.0 x.1.1

ask_end : IsEnd (both (tested_at is_client) (both (number_at 1 999999999999999999) text_at)) ask_fields ask_fits
ask_end = both_law _ _ _ client_law _ _ _ (both_law _ _ _ greatest_law _ _ _ text_law)

abbrev answer_fields : List ℕ × (ℕ × (List ℕ × Answer)) → List ℕ
answer_fields x = word_text x.0 ++ (number_text x.1.0 ++ (word_text x.1.1.0 ++ answer_text x.1.1.1))

abbrev answer_fits : List ℕ × (ℕ × (List ℕ × Answer)) → Bool
answer_fits x = is_client x.0 && (within 1 999999999999999999 x.1.0 && (is_word 64 x.1.1.0 && is_answer x.1.1.1))

abbrev answer_made : List ℕ × (ℕ × (List ℕ × Answer)) → Step
answer_made x = Answered x.0 x.1.0 x.1.1.0 x.1.1.1

answer_end : IsEnd (both (tested_at is_client) (both (number_at 1 999999999999999999) (both (tested_at (is_word 64)) answer_at))) answer_fields answer_fits
answer_end = both_law _ _ _ client_law _ _ _ (both_law _ _ _ greatest_law _ _ _ (both_law _ _ _ word_law _ _ _ answer_law))

abbrev tell_fields : List ℕ × ℕ → List ℕ
tell_fields x = word_text x.0 ++ number_text x.1

abbrev tell_fits : List ℕ × ℕ → Bool
tell_fits x = is_name x.0 && within 1 1000000 x.1

abbrev tell_made : List ℕ × ℕ → Step
tell_made x = Tell x.0 x.1

tell_end : IsEnd (both (tested_at is_name) (last (number_at 1 1000000))) tell_fields tell_fits
tell_end = both_law _ _ _ name_law _ _ _ (last_law _ _ _ counted_law)

abbrev settle_fields : ℕ → List ℕ
settle_fields x = number_text x

abbrev settle_fits : ℕ → Bool
settle_fits x = within 1 1000000 x

abbrev settle_made : ℕ → Step
settle_made x = Settle x

settle_end : IsEnd (last (number_at 1 1000000)) settle_fields settle_fits
settle_end = last_law _ _ _ counted_law

abbrev elapsed_fields : ℕ → List ℕ
elapsed_fields x = number_text x

abbrev elapsed_fits : ℕ → Bool
elapsed_fits x = within 1 1000000 x

abbrev elapsed_made : ℕ → Step
elapsed_made x = Elapsed x

elapsed_end : IsEnd (last (number_at 1 1000000)) elapsed_fields elapsed_fits
elapsed_end = last_law _ _ _ counted_law

abbrev known_fields : List ℕ × (ℕ × (List ℕ × (ℕ × (ℕ × Answer)))) → List ℕ
known_fields x = word_text x.0 ++ (number_text x.1.0 ++ (word_text x.1.1.0 ++ (number_text x.1.1.1.0 ++ aged_text x.1.1.1.1)))

abbrev known_fits : List ℕ × (ℕ × (List ℕ × (ℕ × (ℕ × Answer)))) → Bool
known_fits x = is_client x.0 && (within 1 999999999999999999 x.1.0 && (is_word 64 x.1.1.0 && (within 1 999999999999999999 x.1.1.1.0 && is_aged x.1.1.1.1)))

abbrev known_made : List ℕ × (ℕ × (List ℕ × (ℕ × (ℕ × Answer)))) → Step
known_made x = Known x.0 x.1.0 x.1.1.0 x.1.1.1.0 x.1.1.1.1.0 x.1.1.1.1.1

known_end : IsEnd (both (tested_at is_client) (both (number_at 1 999999999999999999) (both (tested_at (is_word 64)) (both (number_at 1 999999999999999999) aged_at)))) known_fields known_fits
known_end = both_law _ _ _ client_law _ _ _ (both_law _ _ _ greatest_law _ _ _ (both_law _ _ _ word_law _ _ _ (both_law _ _ _ greatest_law _ _ _ aged_law)))

abbrev declare_fields : List ℕ → List ℕ
declare_fields x = word_text x

abbrev declare_fits : List ℕ → Bool
declare_fits x = is_changes x

abbrev declare_made : List ℕ → Step
declare_made x = Declare x

declare_end : IsEnd (text_at) declare_fields declare_fits
declare_end = text_law

abbrev begin_fields : Settings → List ℕ
begin_fields x = settings_text x

abbrev begin_fits : Settings → Bool
begin_fits x = is_settings x

abbrev begin_made : Settings → Step
begin_made x = Begin x

begin_end : IsEnd (settings_at) begin_fields begin_fits
begin_end = settings_law

abbrev wish_fields : Settings → List ℕ
wish_fields x = settings_text x

abbrev wish_fits : Settings → Bool
wish_fits x = is_settings x

abbrev wish_made : Settings → Step
wish_made x = Wish x

wish_end : IsEnd (settings_at) wish_fields wish_fits
wish_end = settings_law

abbrev want_fields : List ℕ → List ℕ
want_fields x = word_text x

abbrev want_fits : List ℕ → Bool
want_fits x = is_changes x

abbrev want_made : List ℕ → Step
want_made x = Want x

want_end : IsEnd (text_at) want_fields want_fits
want_end = text_law

abbrev leave_fields : List ℕ → List ℕ
leave_fields x = word_text x

abbrev leave_fits : List ℕ → Bool
leave_fits x = is_name x

abbrev leave_made : List ℕ → Step
leave_made x = Leave x

leave_end : IsEnd (last (tested_at is_name)) leave_fields leave_fits
leave_end = last_law _ _ _ name_law

abbrev gone_fields : List ℕ × ℕ → List ℕ
gone_fields x = word_text x.0 ++ number_text x.1

abbrev gone_fits : List ℕ × ℕ → Bool
gone_fits x = is_name x.0 && within 0 1000000 x.1

abbrev gone_made : List ℕ × ℕ → Step
gone_made x = Gone x.0 x.1

gone_end : IsEnd (both (tested_at is_name) (last (number_at 0 1000000))) gone_fields gone_fits
gone_end = both_law _ _ _ name_law _ _ _ (last_law _ _ _ from_zero_law)

abbrev relimit_fields : List ℕ × (ScopeWord × (ℕ × LimitAnswer)) → List ℕ
relimit_fields x = word_text x.0 ++ (scope_text x.1.0 ++ (number_text x.1.1.0 ++ limit_answer_text x.1.1.1))

abbrev relimit_fits : List ℕ × (ScopeWord × (ℕ × LimitAnswer)) → Bool
relimit_fits x = is_name x.0 && (is_scope x.1.0 && (within 0 9223372036854775807 x.1.1.0 && is_limit_answer x.1.1.1))

abbrev relimit_made : List ℕ × (ScopeWord × (ℕ × LimitAnswer)) → Step
relimit_made x = Relimit x.0 x.1.0 x.1.1.0 x.1.1.1

relimit_end : IsEnd (both (tested_at is_name) (both scope_at (both (number_at 0 9223372036854775807) limit_answer_at))) relimit_fields relimit_fits
relimit_end = both_law _ _ _ name_law _ _ _ (both_law _ _ _ scope_law _ _ _ (both_law _ _ _ amount_law _ _ _ limit_law))

-- ---- by the first word

abbrev from_relimit : List ℕ × List ℕ → Option Step
from_relimit w = if bytes_eq w.0 (codes "relimit") then option_map relimit_made ((both (tested_at is_name) (both scope_at (both (number_at 0 9223372036854775807) limit_answer_at))) w.1) else None

from_relimit-takes : (w : List ℕ × List ℕ) (s : Step) → from_relimit w ≡ Some s → (w.0 ++ w.1 ≡ step_text s) × (is_step s ≡ true)
from_relimit-takes w s e =
    elim (chosen (bytes_eq w.0 (codes "relimit")) (option_map relimit_made ((both (tested_at is_name) (both scope_at (both (number_at 0 9223372036854775807) limit_answer_at))) w.1)) (None) (Some s) e) [
      | inl is ↦ named (both (tested_at is_name) (both scope_at (both (number_at 0 9223372036854775807) limit_answer_at))) relimit_fields relimit_fits relimit_end relimit_made step_text is_step (codes "relimit") w.0 w.1 s (λ x. refl) (λ x. refl) is.0 is.1
      | inr more ↦ absurd (let e = more.1 in cc)
    ]

abbrev from_gone : List ℕ × List ℕ → Option Step
from_gone w = if bytes_eq w.0 (codes "gone") then option_map gone_made ((both (tested_at is_name) (last (number_at 0 1000000))) w.1) else from_relimit w

from_gone-takes : (w : List ℕ × List ℕ) (s : Step) → from_gone w ≡ Some s → (w.0 ++ w.1 ≡ step_text s) × (is_step s ≡ true)
from_gone-takes w s e =
    elim (chosen (bytes_eq w.0 (codes "gone")) (option_map gone_made ((both (tested_at is_name) (last (number_at 0 1000000))) w.1)) (from_relimit w) (Some s) e) [
      | inl is ↦ named (both (tested_at is_name) (last (number_at 0 1000000))) gone_fields gone_fits gone_end gone_made step_text is_step (codes "gone") w.0 w.1 s (λ x. refl) (λ x. refl) is.0 is.1
      | inr more ↦ from_relimit-takes w s more.1
    ]

abbrev from_leave : List ℕ × List ℕ → Option Step
from_leave w = if bytes_eq w.0 (codes "leave") then option_map leave_made ((last (tested_at is_name)) w.1) else from_gone w

from_leave-takes : (w : List ℕ × List ℕ) (s : Step) → from_leave w ≡ Some s → (w.0 ++ w.1 ≡ step_text s) × (is_step s ≡ true)
from_leave-takes w s e =
    elim (chosen (bytes_eq w.0 (codes "leave")) (option_map leave_made ((last (tested_at is_name)) w.1)) (from_gone w) (Some s) e) [
      | inl is ↦ named (last (tested_at is_name)) leave_fields leave_fits leave_end leave_made step_text is_step (codes "leave") w.0 w.1 s (λ x. refl) (λ x. refl) is.0 is.1
      | inr more ↦ from_gone-takes w s more.1
    ]

abbrev from_want : List ℕ × List ℕ → Option Step
from_want w = if bytes_eq w.0 (codes "want") then option_map want_made ((text_at) w.1) else from_leave w

from_want-takes : (w : List ℕ × List ℕ) (s : Step) → from_want w ≡ Some s → (w.0 ++ w.1 ≡ step_text s) × (is_step s ≡ true)
from_want-takes w s e =
    elim (chosen (bytes_eq w.0 (codes "want")) (option_map want_made ((text_at) w.1)) (from_leave w) (Some s) e) [
      | inl is ↦ named (text_at) want_fields want_fits want_end want_made step_text is_step (codes "want") w.0 w.1 s (λ x. refl) (λ x. refl) is.0 is.1
      | inr more ↦ from_leave-takes w s more.1
    ]

abbrev from_wish : List ℕ × List ℕ → Option Step
from_wish w = if bytes_eq w.0 (codes "wish") then option_map wish_made ((settings_at) w.1) else from_want w

from_wish-takes : (w : List ℕ × List ℕ) (s : Step) → from_wish w ≡ Some s → (w.0 ++ w.1 ≡ step_text s) × (is_step s ≡ true)
from_wish-takes w s e =
    elim (chosen (bytes_eq w.0 (codes "wish")) (option_map wish_made ((settings_at) w.1)) (from_want w) (Some s) e) [
      | inl is ↦ named (settings_at) wish_fields wish_fits wish_end wish_made step_text is_step (codes "wish") w.0 w.1 s (λ x. refl) (λ x. refl) is.0 is.1
      | inr more ↦ from_want-takes w s more.1
    ]

abbrev from_begin : List ℕ × List ℕ → Option Step
from_begin w = if bytes_eq w.0 (codes "begin") then option_map begin_made ((settings_at) w.1) else from_wish w

from_begin-takes : (w : List ℕ × List ℕ) (s : Step) → from_begin w ≡ Some s → (w.0 ++ w.1 ≡ step_text s) × (is_step s ≡ true)
from_begin-takes w s e =
    elim (chosen (bytes_eq w.0 (codes "begin")) (option_map begin_made ((settings_at) w.1)) (from_wish w) (Some s) e) [
      | inl is ↦ named (settings_at) begin_fields begin_fits begin_end begin_made step_text is_step (codes "begin") w.0 w.1 s (λ x. refl) (λ x. refl) is.0 is.1
      | inr more ↦ from_wish-takes w s more.1
    ]

abbrev from_declare : List ℕ × List ℕ → Option Step
from_declare w = if bytes_eq w.0 (codes "declare") then option_map declare_made ((text_at) w.1) else from_begin w

from_declare-takes : (w : List ℕ × List ℕ) (s : Step) → from_declare w ≡ Some s → (w.0 ++ w.1 ≡ step_text s) × (is_step s ≡ true)
from_declare-takes w s e =
    elim (chosen (bytes_eq w.0 (codes "declare")) (option_map declare_made ((text_at) w.1)) (from_begin w) (Some s) e) [
      | inl is ↦ named (text_at) declare_fields declare_fits declare_end declare_made step_text is_step (codes "declare") w.0 w.1 s (λ x. refl) (λ x. refl) is.0 is.1
      | inr more ↦ from_begin-takes w s more.1
    ]

abbrev from_known : List ℕ × List ℕ → Option Step
from_known w = if bytes_eq w.0 (codes "known") then option_map known_made ((both (tested_at is_client) (both (number_at 1 999999999999999999) (both (tested_at (is_word 64)) (both (number_at 1 999999999999999999) aged_at)))) w.1) else from_declare w

from_known-takes : (w : List ℕ × List ℕ) (s : Step) → from_known w ≡ Some s → (w.0 ++ w.1 ≡ step_text s) × (is_step s ≡ true)
from_known-takes w s e =
    elim (chosen (bytes_eq w.0 (codes "known")) (option_map known_made ((both (tested_at is_client) (both (number_at 1 999999999999999999) (both (tested_at (is_word 64)) (both (number_at 1 999999999999999999) aged_at)))) w.1)) (from_declare w) (Some s) e) [
      | inl is ↦ named (both (tested_at is_client) (both (number_at 1 999999999999999999) (both (tested_at (is_word 64)) (both (number_at 1 999999999999999999) aged_at)))) known_fields known_fits known_end known_made step_text is_step (codes "known") w.0 w.1 s (λ x. refl) (λ x. refl) is.0 is.1
      | inr more ↦ from_declare-takes w s more.1
    ]

abbrev from_elapsed : List ℕ × List ℕ → Option Step
from_elapsed w = if bytes_eq w.0 (codes "elapsed") then option_map elapsed_made ((last (number_at 1 1000000)) w.1) else from_known w

from_elapsed-takes : (w : List ℕ × List ℕ) (s : Step) → from_elapsed w ≡ Some s → (w.0 ++ w.1 ≡ step_text s) × (is_step s ≡ true)
from_elapsed-takes w s e =
    elim (chosen (bytes_eq w.0 (codes "elapsed")) (option_map elapsed_made ((last (number_at 1 1000000)) w.1)) (from_known w) (Some s) e) [
      | inl is ↦ named (last (number_at 1 1000000)) elapsed_fields elapsed_fits elapsed_end elapsed_made step_text is_step (codes "elapsed") w.0 w.1 s (λ x. refl) (λ x. refl) is.0 is.1
      | inr more ↦ from_known-takes w s more.1
    ]

abbrev from_settle : List ℕ × List ℕ → Option Step
from_settle w = if bytes_eq w.0 (codes "settle") then option_map settle_made ((last (number_at 1 1000000)) w.1) else from_elapsed w

from_settle-takes : (w : List ℕ × List ℕ) (s : Step) → from_settle w ≡ Some s → (w.0 ++ w.1 ≡ step_text s) × (is_step s ≡ true)
from_settle-takes w s e =
    elim (chosen (bytes_eq w.0 (codes "settle")) (option_map settle_made ((last (number_at 1 1000000)) w.1)) (from_elapsed w) (Some s) e) [
      | inl is ↦ named (last (number_at 1 1000000)) settle_fields settle_fits settle_end settle_made step_text is_step (codes "settle") w.0 w.1 s (λ x. refl) (λ x. refl) is.0 is.1
      | inr more ↦ from_elapsed-takes w s more.1
    ]

abbrev from_tell : List ℕ × List ℕ → Option Step
from_tell w = if bytes_eq w.0 (codes "tell") then option_map tell_made ((both (tested_at is_name) (last (number_at 1 1000000))) w.1) else from_settle w

from_tell-takes : (w : List ℕ × List ℕ) (s : Step) → from_tell w ≡ Some s → (w.0 ++ w.1 ≡ step_text s) × (is_step s ≡ true)
from_tell-takes w s e =
    elim (chosen (bytes_eq w.0 (codes "tell")) (option_map tell_made ((both (tested_at is_name) (last (number_at 1 1000000))) w.1)) (from_settle w) (Some s) e) [
      | inl is ↦ named (both (tested_at is_name) (last (number_at 1 1000000))) tell_fields tell_fits tell_end tell_made step_text is_step (codes "tell") w.0 w.1 s (λ x. refl) (λ x. refl) is.0 is.1
      | inr more ↦ from_settle-takes w s more.1
    ]

abbrev from_answer : List ℕ × List ℕ → Option Step
from_answer w = if bytes_eq w.0 (codes "answer") then option_map answer_made ((both (tested_at is_client) (both (number_at 1 999999999999999999) (both (tested_at (is_word 64)) answer_at))) w.1) else from_tell w

from_answer-takes : (w : List ℕ × List ℕ) (s : Step) → from_answer w ≡ Some s → (w.0 ++ w.1 ≡ step_text s) × (is_step s ≡ true)
from_answer-takes w s e =
    elim (chosen (bytes_eq w.0 (codes "answer")) (option_map answer_made ((both (tested_at is_client) (both (number_at 1 999999999999999999) (both (tested_at (is_word 64)) answer_at))) w.1)) (from_tell w) (Some s) e) [
      | inl is ↦ named (both (tested_at is_client) (both (number_at 1 999999999999999999) (both (tested_at (is_word 64)) answer_at))) answer_fields answer_fits answer_end answer_made step_text is_step (codes "answer") w.0 w.1 s (λ x. refl) (λ x. refl) is.0 is.1
      | inr more ↦ from_tell-takes w s more.1
    ]

abbrev from_ask : List ℕ × List ℕ → Option Step
from_ask w = if bytes_eq w.0 (codes "ask") then option_map ask_made ((both (tested_at is_client) (both (number_at 1 999999999999999999) text_at)) w.1) else from_answer w

from_ask-takes : (w : List ℕ × List ℕ) (s : Step) → from_ask w ≡ Some s → (w.0 ++ w.1 ≡ step_text s) × (is_step s ≡ true)
from_ask-takes w s e =
    elim (chosen (bytes_eq w.0 (codes "ask")) (option_map ask_made ((both (tested_at is_client) (both (number_at 1 999999999999999999) text_at)) w.1)) (from_answer w) (Some s) e) [
      | inl is ↦ named (both (tested_at is_client) (both (number_at 1 999999999999999999) text_at)) ask_fields ask_fits ask_end ask_made step_text is_step (codes "ask") w.0 w.1 s (λ x. refl) (λ x. refl) is.0 is.1
      | inr more ↦ from_answer-takes w s more.1
    ]

pub step_of-takes : (line : List ℕ) (s : Step) → step_of line ≡ Some s → (line ≡ step_text s) × (is_step s ≡ true)
unfolding step_by ask_at answered_at tell_at known_at gone_at relimit_at
step_of-takes line s e =
    let t = from_ask-takes (first_word line) s e in
    (first_word-parts line ∙ t.0, t.1)

pub step_of-again : (s : Step) → is_step s ≡ true → step_of (step_text s) ≡ Some s
unfolding step_by ask_at answered_at tell_at known_at gone_at relimit_at
step_of-again (Ask client number changes) h =
    ap step_by (first_word-again (codes "ask") (ask_fields (client, (number, changes))) refl (ask_end.stops (client, (number, changes))))
    ∙ ap (option_map ask_made) (ask_end.again (client, (number, changes)) h)
step_of-again (Answered client number digest a) h =
    ap step_by (first_word-again (codes "answer") (answer_fields (client, (number, (digest, a)))) refl (answer_end.stops (client, (number, (digest, a)))))
    ∙ ap (option_map answer_made) (answer_end.again (client, (number, (digest, a))) h)
step_of-again (Tell site count) h =
    ap step_by (first_word-again (codes "tell") (tell_fields (site, count)) refl (tell_end.stops (site, count)))
    ∙ ap (option_map tell_made) (tell_end.again (site, count) h)
step_of-again (Settle count) h =
    ap step_by (first_word-again (codes "settle") (settle_fields count) refl (settle_end.stops count))
    ∙ ap (option_map settle_made) (settle_end.again count h)
step_of-again (Elapsed seconds) h =
    ap step_by (first_word-again (codes "elapsed") (elapsed_fields seconds) refl (elapsed_end.stops seconds))
    ∙ ap (option_map elapsed_made) (elapsed_end.again seconds h)
step_of-again (Known client number digest epoch age a) h =
    ap step_by (first_word-again (codes "known") (known_fields (client, (number, (digest, (epoch, (age, a)))))) refl (known_end.stops (client, (number, (digest, (epoch, (age, a)))))))
    ∙ ap (option_map known_made) (known_end.again (client, (number, (digest, (epoch, (age, a))))) h)
step_of-again (Declare line) h =
    ap step_by (first_word-again (codes "declare") (declare_fields line) refl (declare_end.stops line))
    ∙ ap (option_map declare_made) (declare_end.again line h)
step_of-again (Begin s) h =
    ap step_by (first_word-again (codes "begin") (begin_fields s) refl (begin_end.stops s))
    ∙ ap (option_map begin_made) (begin_end.again s h)
step_of-again (Wish s) h =
    ap step_by (first_word-again (codes "wish") (wish_fields s) refl (wish_end.stops s))
    ∙ ap (option_map wish_made) (wish_end.again s h)
step_of-again (Want line) h =
    ap step_by (first_word-again (codes "want") (want_fields line) refl (want_end.stops line))
    ∙ ap (option_map want_made) (want_end.again line h)
step_of-again (Leave site) h =
    ap step_by (first_word-again (codes "leave") (leave_fields site) refl (leave_end.stops site))
    ∙ ap (option_map leave_made) (leave_end.again site h)
step_of-again (Gone site count) h =
    ap step_by (first_word-again (codes "gone") (gone_fields (site, count)) refl (gone_end.stops (site, count)))
    ∙ ap (option_map gone_made) (gone_end.again (site, count) h)
step_of-again (Relimit site scope amount a) h =
    ap step_by (first_word-again (codes "relimit") (relimit_fields (site, (scope, (amount, a)))) refl (relimit_end.stops (site, (scope, (amount, a)))))
    ∙ ap (option_map relimit_made) (relimit_end.again (site, (scope, (amount, a))) h)

pub step_inner : (s : Step) → is_step s ≡ true → list_all is_inner (step_text s) ≡ true
step_inner (Ask client number changes) h = ask_end.inner (client, (number, changes)) h
step_inner (Answered client number digest a) h = answer_end.inner (client, (number, (digest, a))) h
step_inner (Tell site count) h = tell_end.inner (site, count) h
step_inner (Settle count) h = settle_end.inner count h
step_inner (Elapsed seconds) h = elapsed_end.inner seconds h
step_inner (Known client number digest epoch age a) h = known_end.inner (client, (number, (digest, (epoch, (age, a))))) h
step_inner (Declare line) h = declare_end.inner line h
step_inner (Begin s) h = begin_end.inner s h
step_inner (Wish s) h = wish_end.inner s h
step_inner (Want line) h = want_end.inner line h
step_inner (Leave site) h = leave_end.inner site h
step_inner (Gone site count) h = gone_end.inner (site, count) h
step_inner (Relimit site scope amount a) h = relimit_end.inner (site, (scope, (amount, a))) h
