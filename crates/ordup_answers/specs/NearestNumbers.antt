-- A number that 64 bits do not hold is taken as the nearest one that they hold, which is out of range as it is.
use Rattle.std.specs.Prelude.{ℤ, List, map}
use Rattle.std.specs.Int.{saturate_signed, w64}
use Rattle.ordup_grammar.specs.declared.change_words.ChangeWord.{ChangeWord}
use Rattle.ordup_grammar.specs.declared.change_words.Operation.{Operation}
use Rattle.ordup_grammar.specs.declared.change_words.Operation.TheVariants.{WithNumber, Take}

-- the number, or the i64 nearest to it
abbrev pub nearest : ℤ → ℤ
nearest z = saturate_signed w64 z

-- the operation with the nearest number
abbrev pub nearest_operation : Operation → Operation
nearest_operation (WithNumber kind n) = WithNumber kind (nearest n)
nearest_operation (Take y) = Take y

-- the change with the nearest number
abbrev pub nearest_change : ChangeWord → ChangeWord
nearest_change c = record { object = c.object; operation = nearest_operation c.operation }

-- the changes with the nearest numbers
abbrev pub nearest_changes : List ChangeWord → List ChangeWord
nearest_changes changes = map nearest_change changes
