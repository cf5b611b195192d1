-- The columns of a row as the code holds them, and numbers in range.
use Rattle.std.specs.Prelude.{ℕ, ℤ, ◌==◌, if◌then◌else◌, length, List, Option, Some, None, option_map, option_and_then}
use Rattle.std.specs.Bool.{then_some}
use Rattle.csv.specs.Records.{field_at}
use Rattle.ordup_grammar.specs.ChangeWords.{change_of}
use Rattle.ordup_grammar.specs.Numbers.{number_of}
use Rattle.ordup_grammar.specs.declared.change_words.ChangeWord.{ChangeWord}
use Rattle.ordup_grammar.specs.declared.change_words.Operation.{Operation}
use Rattle.ordup_grammar.specs.declared.change_words.Operation.TheVariants as word
use Rattle.ordup_objects.specs.Ops.{op_with}
use Rattle.ordup_objects.specs.States.{in_range}
use Rattle.ordup_objects.specs.Tables.{index_of, Objects}
use Rattle.ordup_objects.specs.declared.change.Change.{Change}
use Rattle.ordup_objects.specs.declared.change.Op.{Op}
use Rattle.ordup_objects.specs.declared.change.Op.TheVariants.{Take}
use Rattle.ordup_rows.specs.Columns.{◌>>=◌, Columns}
use Rattle.ordup_rows.specs.Rows.{Row}
use Rattle.ordup_check.specs.declared.row_columns.RowColumns.{RowColumns}

-- the columns of a row
abbrev pub columns_view : RowColumns → Columns
columns_view c = record { kind = c.kind.now; first = c.first.now; second = c.second.now; third = c.third.now }

-- the columns of a row of four, each at its place
abbrev pub four_columns : Row → Option Columns
four_columns row = do
  kind ← field_at row 0
  first ← field_at row 1
  second ← field_at row 2
  third ← field_at row 3
  Some (record { kind = kind; first = first; second = second; third = third })

-- the columns of a row, where it has four
abbrev pub columns_at : Row → Option Columns
columns_at row = if length row == 4 then four_columns row else None

-- a number, where it is in range
abbrev pub number_in_range : ℤ → Option ℤ
number_in_range z = then_some (in_range z) z

-- the number that a column writes, where it is in range
abbrev pub value_of : List ℕ → Option ℤ
value_of column = option_and_then number_in_range (number_of column)

-- the operation over these objects, where its number is in range, or the object that it reads is one
abbrev pub op_in_range : Objects → Operation → Option Op
op_in_range objects (word.WithNumber op n) = option_map (op_with op) (number_in_range n)
op_in_range objects (word.Take y) = option_map (λ place. Take place) (index_of y objects)

-- the change of these objects that a change word means, where its number is in range and its objects are some
abbrev pub sound_change : Objects → ChangeWord → Option Change
sound_change objects c = do
  object ← index_of c.object objects
  op ← op_in_range objects c.operation
  Some (record { object = object; op = op })

-- the change that a column spells, where its number is in range and its objects are some
abbrev pub change_in_range : Objects → List ℕ → Option Change
change_in_range objects column = option_and_then (sound_change objects) (change_of column)
