-- Laws of the form of entries.
use Rattle.std.specs.Prelude.{◌≡◌, ℕ, true, List, Ok}
use Rattle.ordup_entries.specs.Entries.{ScriptEntry, is_entry, text_of}
use Rattle.ordup_entries.specs.Reading.{entry_of}

-- the text of an entry of the form is read as that entry
abbrev pub ReadingGivesBackWhatWasWritten : Type 0
ReadingGivesBackWhatWasWritten = (e : ScriptEntry) → is_entry e ≡ true → entry_of (text_of e) ≡ Ok e

-- a text that is read as an entry is the text of that entry, which is of the form
abbrev pub WhatIsReadWasWritten : Type 0
WhatIsReadWasWritten = (text : List ℕ) (e : ScriptEntry) → entry_of text ≡ Ok e → (is_entry e ≡ true) × (text ≡ text_of e)

-- two entries of the form that have one text are one
abbrev pub NoTwoEntriesHaveOneText : Type 0
NoTwoEntriesHaveOneText =
    (e f : ScriptEntry) → is_entry e ≡ true → is_entry f ≡ true → text_of e ≡ text_of f → e ≡ f
