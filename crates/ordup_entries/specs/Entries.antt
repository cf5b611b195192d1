-- The text of an entry, and which entries are of the form.
use Rattle.std.specs.Prelude.{ℕ, Bool, ◌&&◌, List, [], ◌∷◌, ◌++◌, codes, length, nat_le}
use Rattle.std.specs.List.{flat_map}
use Rattle.ordup_entries.specs.Sizes.{most_counted, most_number, most_word_bytes, most_writer_bytes, most_entry_bytes}
use Rattle.ordup_entries.specs.Words.{within, is_word}
use Rattle.ordup_entries.specs.Steps.{word_text, number_text, step_text}
use Rattle.ordup_entries.specs.Orders.{are_steps}
use Rattle.ordup_entries.specs.declared.entry.Header.{Header}
use Rattle.ordup_entries.specs.declared.order.Part.TheVariants.{Start}
use Rattle.ordup_entries.specs.declared.step.Step.{Step}

-- an entry: what its first line says, and its steps
pub record ScriptEntry : Type 0 where
  pub header : Header
  pub steps : List Step

-- the first line, without its line feed
abbrev pub header_text : Header → List ℕ
header_text h =
    codes "ordup-node"
    ++ (word_text (codes "1")
    ++ (word_text (codes "epoch")
    ++ (number_text h.epoch
    ++ (word_text (codes "ordup")
    ++ (word_text h.version
    ++ (word_text (codes "writer")
    ++ word_text h.writer))))))

abbrev pub is_header : Header → Bool
is_header h = within 1 most_number h.epoch && (is_word most_word_bytes h.version && is_word most_writer_bytes h.writer)

-- a line with its line feed
abbrev pub line_of : List ℕ → List ℕ
line_of line = line ++ 10 ∷ []

-- the text of an entry
abbrev pub text_of : ScriptEntry → List ℕ
text_of e = line_of (header_text e.header) ++ flat_map (λ s. line_of (step_text s)) e.steps

-- whether an entry is of the form
abbrev pub is_entry : ScriptEntry → Bool
is_entry e = is_header e.header && (are_steps Start most_counted e.steps && nat_le (length (text_of e)) most_entry_bytes)
