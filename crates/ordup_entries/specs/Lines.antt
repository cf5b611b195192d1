-- How the line of a step is read.
use Rattle.std.specs.Prelude.{ℕ, ◌==◌, ◌+◌, List, length, Option, Some, None}
use Rattle.std.specs.Prelude.{option_map, option_and_then, codes, if◌then◌else◌}
use Rattle.std.specs.Str.{bytes_eq}
use Rattle.ordup_objects.specs.Names.{is_name}
use Rattle.ordup_grammar.specs.declared.declaration.ScopeWord.{ScopeWord}
use Rattle.ordup_grammar.specs.declared.declaration.ScopeWord.TheVariants as scope
use Rattle.ordup_entries.specs.Sizes.{most_counted, most_number, most_word_bytes, most_amount}
use Rattle.ordup_entries.specs.Words.{is_word, is_client}
use Rattle.ordup_entries.specs.Fields.{first_word, word_at, tested_at, number_at, text_at, last, both, after}
use Rattle.ordup_entries.specs.declared.answer.Answer.{Answer}
use Rattle.ordup_entries.specs.declared.answer.Answer.TheVariants as answer
use Rattle.ordup_entries.specs.declared.answer.LimitAnswer.{LimitAnswer}
use Rattle.ordup_entries.specs.declared.answer.LimitAnswer.TheVariants as limit
use Rattle.ordup_entries.specs.declared.settings.Settings.{Settings}
use Rattle.ordup_entries.specs.declared.settings.Began.{Began}
use Rattle.ordup_entries.specs.declared.step.Step.{Step}
use Rattle.ordup_entries.specs.declared.step.Step.TheVariants.{
  Begin,
  Declare,
  Known,
  Tell,
  Ask,
  Settle,
  Wish,
  Want,
  Leave,
  Gone,
  Relimit,
  Elapsed,
  Answered,
}

-- the number and the name of a refusal
abbrev pub refusal_at : List ℕ → Option (ℕ × List ℕ)
refusal_at = both (number_at 1 most_counted) (last (tested_at (is_word most_word_bytes)))

-- a place and an epoch
abbrev pub acknowledged_at : List ℕ → Option (ℕ × ℕ)
acknowledged_at = after (codes "acked") (both (number_at 1 most_counted) (after (codes "epoch") (last (number_at 1 most_number))))

-- an answer, by its first word and what is behind it
abbrev pub answer_by : List ℕ × List ℕ → Option Answer
answer_by w =
    if bytes_eq w.0 (codes "refused") then option_map (λ x. answer.Refused x.0 x.1) (refusal_at w.1)
    else if bytes_eq w.0 (codes "ok") then option_map (λ x. answer.Acknowledged x.0 x.1) (acknowledged_at w.1)
    else None

unfoldable pub answer_at : List ℕ → Option Answer
answer_at bytes = option_and_then answer_by (word_at bytes)

abbrev pub limit_answer_by : List ℕ × List ℕ → Option LimitAnswer
limit_answer_by w =
    if bytes_eq w.0 (codes "refused") then option_map (λ x. limit.Refused x.0 x.1) (refusal_at w.1)
    else if bytes_eq w.0 (codes "ok") then option_map (λ n. limit.InForce n) (last (number_at 1 (most_counted + 1)) w.1)
    else None

unfoldable pub limit_answer_at : List ℕ → Option LimitAnswer
limit_answer_at bytes = option_and_then limit_answer_by (word_at bytes)

-- an age, where there is one, and an answer behind it: no answer begins with a number
abbrev pub aged_by : List ℕ → Option (ℕ × List ℕ) → Option (ℕ × Answer)
aged_by bytes None = option_map (λ a. (0, a)) (answer_at bytes)
aged_by bytes (Some age) = option_map (λ a. (age.0, a)) (answer_at age.1)

unfoldable pub aged_at : List ℕ → Option (ℕ × Answer)
aged_at bytes = aged_by bytes (number_at 1 most_number bytes)

-- the seconds of both settings, of which one is not 0, or nothing
unfoldable pub seconds_at : List ℕ → Option (ℕ × ℕ)
seconds_at bytes =
    if length bytes == 0 then Some (0, 0)
    else option_and_then (λ (s : ℕ × ℕ). if s.0 + s.1 == 0 then None else Some s)
    (both (number_at 0 most_counted) (last (number_at 0 most_counted)) bytes)

-- how a primary began, and the seconds of both settings
abbrev pub began_by : ℕ × (ℕ × (List ℕ × (ℕ × ℕ))) → Began × ℕ
began_by x = (record { every = x.0; remembers = x.1.0; origin = x.1.1.0; seconds = x.1.1.1.1 }, x.1.1.1.0)

unfoldable pub began_at : List ℕ → Option (Began × ℕ)
began_at bytes =
    option_map began_by
    (both (number_at 1 most_counted) (both (number_at 1 most_counted) (both (tested_at (is_word most_word_bytes)) seconds_at)) bytes)

abbrev pub settings_by : ℕ × (ℕ × (List ℕ × (List ℕ × (Began × ℕ)))) → Settings
settings_by x =
    record { every = x.0; remembers = x.1.0; origin = x.1.1.0; version = x.1.1.1.0; began = x.1.1.1.1.0; seconds = x.1.1.1.1.1 }

unfoldable pub settings_at : List ℕ → Option Settings
settings_at bytes =
    option_map settings_by
    (both (number_at 1 most_counted)
    (both (number_at 1 most_counted)
    (both (tested_at (is_word most_word_bytes)) (both (tested_at (is_word most_word_bytes)) began_at))) bytes)

-- what a limit weighs, by the first word and what is behind it
abbrev pub scope_by : List ℕ × List ℕ → Option (ScopeWord × List ℕ)
scope_by w =
    if bytes_eq w.0 (codes "object") then option_map (λ x. (scope.Object x.0, x.1)) (tested_at is_name w.1)
    else if bytes_eq w.0 (codes "group") then option_map (λ x. (scope.Group x.0, x.1)) (tested_at is_name w.1)
    else if bytes_eq w.0 (codes "all") then Some (scope.All, w.1)
    else if bytes_eq w.0 (codes "count") then Some (scope.Count, w.1)
    else None

unfoldable pub scope_at : List ℕ → Option (ScopeWord × List ℕ)
scope_at bytes = option_and_then scope_by (word_at bytes)

-- ---- each kind of step, from what is behind its first word

unfoldable pub known_at : List ℕ → Option Step
known_at bytes =
    option_map (λ x. Known x.0 x.1.0 x.1.1.0 x.1.1.1.0 x.1.1.1.1.0 x.1.1.1.1.1)
    (both (tested_at is_client)
    (both (number_at 1 most_number) (both (tested_at (is_word most_word_bytes)) (both (number_at 1 most_number) aged_at))) bytes)

unfoldable pub tell_at : List ℕ → Option Step
tell_at bytes = option_map (λ x. Tell x.0 x.1) (both (tested_at is_name) (last (number_at 1 most_counted)) bytes)

unfoldable pub ask_at : List ℕ → Option Step
ask_at bytes =
    option_map (λ x. Ask x.0 x.1.0 x.1.1) (both (tested_at is_client) (both (number_at 1 most_number) text_at) bytes)

unfoldable pub gone_at : List ℕ → Option Step
gone_at bytes = option_map (λ x. Gone x.0 x.1) (both (tested_at is_name) (last (number_at 0 most_counted)) bytes)

unfoldable pub relimit_at : List ℕ → Option Step
relimit_at bytes =
    option_map (λ x. Relimit x.0 x.1.0 x.1.1.0 x.1.1.1)
    (both (tested_at is_name) (both scope_at (both (number_at 0 most_amount) limit_answer_at)) bytes)

unfoldable pub answered_at : List ℕ → Option Step
answered_at bytes =
    option_map (λ x. Answered x.0 x.1.0 x.1.1.0 x.1.1.1)
    (both (tested_at is_client) (both (number_at 1 most_number) (both (tested_at (is_word most_word_bytes)) answer_at)) bytes)

-- a step, by its first word and what is behind it
unfoldable pub step_by : List ℕ × List ℕ → Option Step
step_by w =
    if bytes_eq w.0 (codes "ask") then ask_at w.1
    else if bytes_eq w.0 (codes "answer") then answered_at w.1
    else if bytes_eq w.0 (codes "tell") then tell_at w.1
    else if bytes_eq w.0 (codes "settle") then option_map (λ n. Settle n) (last (number_at 1 most_counted) w.1)
    else if bytes_eq w.0 (codes "elapsed") then option_map (λ n. Elapsed n) (last (number_at 1 most_counted) w.1)
    else if bytes_eq w.0 (codes "known") then known_at w.1
    else if bytes_eq w.0 (codes "declare") then option_map (λ line. Declare line) (text_at w.1)
    else if bytes_eq w.0 (codes "begin") then option_map (λ s. Begin s) (settings_at w.1)
    else if bytes_eq w.0 (codes "wish") then option_map (λ s. Wish s) (settings_at w.1)
    else if bytes_eq w.0 (codes "want") then option_map (λ line. Want line) (text_at w.1)
    else if bytes_eq w.0 (codes "leave") then option_map (λ s. Leave s) (last (tested_at is_name) w.1)
    else if bytes_eq w.0 (codes "gone") then gone_at w.1
    else if bytes_eq w.0 (codes "relimit") then relimit_at w.1
    else None

-- the step that a line is
abbrev pub step_of : List ℕ → Option Step
step_of line = step_by (first_word line)
