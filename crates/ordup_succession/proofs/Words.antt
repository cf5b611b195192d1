-- Words and lines of words that a script reads as they were written.
use Rattle.std.proofs.Common.{◌≡◌, ◌≤◌, ◌<◌, ℕ, Bool, false, true, List, [], ◌∷◌, length}
use Rattle.std.specs.Prelude.{not, ◌&&◌, ◌==◌}
use Rattle.std.specs.List.{All, list_all}
use Rattle.ordup_grammar.specs.Requests.{is_comment, is_printed, request_by_words}
use Rattle.ordup_answers.specs.Replies.{request_reply}
use Rattle.ordup_answers.specs.ScriptStates.{ScriptState}
use Rattle.ordup_succession.specs.Lines.{spaced}

-- a byte of a word: printed, and no space
abbrev pub is_word_byte : ℕ → Bool
is_word_byte byte = is_printed byte && not (byte == 32)

-- a word of 1 to 20 such bytes
pub record IsWord (word : List ℕ) : Type 0 where
  pub some : 0 < length word
  pub few : length word ≤ 20
  pub bytes : list_all is_word_byte word ≡ true

-- 1 to 100 words, which are no comment
pub record IsWordLine (words : List (List ℕ)) : Type 0 where
  pub some : 0 < length words
  pub few : length words ≤ 100
  pub each : All IsWord words
  pub command : is_comment (spaced words) ≡ false

-- the state after these lines of words
abbrev pub state_by : {A : Type 0} → ScriptState A → List (List (List ℕ)) → ScriptState A
state_by s [] = s
state_by s (words ∷ lines) = state_by (request_reply s (request_by_words words)).0 lines
