-- The text of a step, without its line feed, and which steps are of the form.
use Rattle.std.specs.Prelude.{ℕ, Bool, true, ◌&&◌, ◌==◌, ◌+◌, List, [], ◌∷◌, ◌++◌, codes, if◌then◌else◌}
use Rattle.std.specs.Fmt.{decimal}
use Rattle.ordup_objects.specs.Names.{is_name}
use Rattle.ordup_grammar.specs.declared.declaration.ScopeWord.{ScopeWord}
use Rattle.ordup_grammar.specs.declared.declaration.ScopeWord.TheVariants as scope
use Rattle.ordup_entries.specs.Sizes.{most_counted, most_number, most_word_bytes, most_amount}
use Rattle.ordup_entries.specs.Words.{within, is_word, is_client, is_changes}
use Rattle.ordup_entries.specs.declared.answer.Answer.{Answer}
use Rattle.ordup_entries.specs.declared.answer.Answer.TheVariants as answer
use Rattle.ordup_entries.specs.declared.answer.LimitAnswer.{LimitAnswer}
use Rattle.ordup_entries.specs.declared.answer.LimitAnswer.TheVariants as limit
use Rattle.ordup_entries.specs.declared.settings.Settings.{Settings}
use Rattle.ordup_entries.specs.declared.step.Step.{Step}
use Rattle.ordup_entries.specs.declared.step.Step.TheVariants.{
  Begin,
  Declare,
  Known,
  Tell,
  Ask,
  Settle,
  Wish,
  Want,
  Leave,
  Gone,
  Relimit,
  Elapsed,
  Answered,
}

-- a space and a word
abbrev pub word_text : List ℕ → List ℕ
word_text word = 32 ∷ word

-- a space and a number
abbrev pub number_text : ℕ → List ℕ
number_text n = 32 ∷ decimal n

-- the number and the name of a refusal
abbrev pub refusal_text : ℕ → List ℕ → List ℕ
refusal_text number name = word_text (codes "refused") ++ (number_text number ++ word_text name)

abbrev pub answer_text : Answer → List ℕ
answer_text (answer.Acknowledged place epoch) =
    word_text (codes "ok") ++ (word_text (codes "acked") ++ (number_text place ++ (word_text (codes "epoch") ++ number_text epoch)))
answer_text (answer.Refused number name) = refusal_text number name

abbrev pub limit_answer_text : LimitAnswer → List ℕ
limit_answer_text (limit.InForce place) = word_text (codes "ok") ++ number_text place
limit_answer_text (limit.Refused number name) = refusal_text number name

-- an age is written where it is not 0
abbrev pub age_text : ℕ → List ℕ
age_text age = if age == 0 then [] else number_text age

-- what is behind the other settings: the seconds of both, where these are not 0
abbrev pub seconds_text : ℕ → ℕ → List ℕ
seconds_text seconds began = if seconds + began == 0 then [] else number_text seconds ++ number_text began

abbrev pub settings_text : Settings → List ℕ
settings_text s =
    number_text s.every
    ++ (number_text s.remembers
    ++ (word_text s.origin
    ++ (word_text s.version
    ++ (number_text s.began.every
    ++ (number_text s.began.remembers
    ++ (word_text s.began.origin
    ++ seconds_text s.seconds s.began.seconds))))))

-- what a limit weighs
abbrev pub scope_text : ScopeWord → List ℕ
scope_text (scope.Object x) = word_text (codes "object") ++ word_text x
scope_text (scope.Group g) = word_text (codes "group") ++ word_text g
scope_text scope.All = word_text (codes "all")
scope_text scope.Count = word_text (codes "count")

-- the line of a step, without its line feed
abbrev pub step_text : Step → List ℕ
step_text (Begin s) = codes "begin" ++ settings_text s
step_text (Declare line) = codes "declare" ++ word_text line
step_text (Known client number digest epoch age answer) =
    codes "known"
    ++ (word_text client
    ++ (number_text number
    ++ (word_text digest
    ++ (number_text epoch
    ++ (age_text age
    ++ answer_text answer)))))
step_text (Tell site count) = codes "tell" ++ (word_text site ++ number_text count)
step_text (Ask client number changes) = codes "ask" ++ (word_text client ++ (number_text number ++ word_text changes))
step_text (Settle count) = codes "settle" ++ number_text count
step_text (Wish s) = codes "wish" ++ settings_text s
step_text (Want line) = codes "want" ++ word_text line
step_text (Leave site) = codes "leave" ++ word_text site
step_text (Gone site count) = codes "gone" ++ (word_text site ++ number_text count)
step_text (Relimit site scope amount answer) =
    codes "relimit" ++ (word_text site ++ (scope_text scope ++ (number_text amount ++ limit_answer_text answer)))
step_text (Elapsed seconds) = codes "elapsed" ++ number_text seconds
step_text (Answered client number digest answer) =
    codes "answer" ++ (word_text client ++ (number_text number ++ (word_text digest ++ answer_text answer)))

-- ---- the form

abbrev pub is_refusal : ℕ → List ℕ → Bool
is_refusal number name = within 1 most_counted number && is_word most_word_bytes name

abbrev pub is_answer : Answer → Bool
is_answer (answer.Acknowledged place epoch) = within 1 most_counted place && within 1 most_number epoch
is_answer (answer.Refused number name) = is_refusal number name

-- a log that is full has no update at the place behind it
abbrev pub is_limit_answer : LimitAnswer → Bool
is_limit_answer (limit.InForce place) = within 1 (most_counted + 1) place
is_limit_answer (limit.Refused number name) = is_refusal number name

abbrev pub is_settings : Settings → Bool
is_settings s =
    within 1 most_counted s.every
    && (within 1 most_counted s.remembers
    && (is_word most_word_bytes s.origin
    && (is_word most_word_bytes s.version
    && (within 1 most_counted s.began.every
    && (within 1 most_counted s.began.remembers
    && (is_word most_word_bytes s.began.origin
    && (within 0 most_counted s.seconds && within 0 most_counted s.began.seconds)))))))

abbrev pub is_scope : ScopeWord → Bool
is_scope (scope.Object x) = is_name x
is_scope (scope.Group g) = is_name g
is_scope scope.All = true
is_scope scope.Count = true

abbrev pub is_step : Step → Bool
is_step (Begin s) = is_settings s
is_step (Declare line) = is_changes line
is_step (Known client number digest epoch age answer) =
    is_client client
    && (within 1 most_number number
    && (is_word most_word_bytes digest
    && (within 1 most_number epoch
    && (within 0 most_number age && is_answer answer))))
is_step (Tell site count) = is_name site && within 1 most_counted count
is_step (Ask client number changes) = is_client client && (within 1 most_number number && is_changes changes)
is_step (Settle count) = within 1 most_counted count
is_step (Wish s) = is_settings s
is_step (Want line) = is_changes line
is_step (Leave site) = is_name site
is_step (Gone site count) = is_name site && within 0 most_counted count
is_step (Relimit site scope amount answer) =
    is_name site && (is_scope scope && (within 0 most_amount amount && is_limit_answer answer))
is_step (Elapsed seconds) = within 1 most_counted seconds
is_step (Answered client number digest answer) =
    is_client client && (within 1 most_number number && (is_word most_word_bytes digest && is_answer answer))
