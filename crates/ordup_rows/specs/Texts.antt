-- Texts, and the rows that they are read as.
use Rattle.std.specs.Prelude.{◌⊎◌, ℕ, List}
use Rattle.csv.specs.Reading.{AreRecords, Reached, default_config}
use Rattle.csv.specs.declared.parser.State.{State}
use Rattle.csv.specs.declared.parser.State.TheVariants as st
use Rattle.ordup_audit.specs.Records.{RecordState}
use Rattle.ordup_rows.specs.Rows.{Row}
use Rattle.ordup_rows.specs.Telling.{IsBadRow, IsMissingRow, Tells}

-- these are all the rows of the text
abbrev pub HasRows : List ℕ → List Row → Type 0
HasRows text rows = AreRecords default_config st.StartRecord text rows

-- these are the first rows of the text
abbrev pub BeginsWithRows : List ℕ → List Row → Type 0
BeginsWithRows text rows = (s : State) × (rest : List ℕ) × Reached default_config st.StartRecord text rows s rest

-- the rows of the text tell this record
abbrev pub TextTells : List ℕ → RecordState → Type 0
TextTells text r = (rows : List Row) × HasRows text rows × Tells rows r

-- row n of the text, counted from 1, is the first that breaks a rule, or it is the one after the last and rows are missing
abbrev pub IsMalformedAt : List ℕ → ℕ → Type 0
IsMalformedAt text n =
    ((rows : List Row) × BeginsWithRows text rows × IsBadRow rows n) ⊎ ((rows : List Row) × HasRows text rows × IsMissingRow rows n)
