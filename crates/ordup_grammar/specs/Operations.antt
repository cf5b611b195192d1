-- What a change does to its object's value, as the first and the last part of a change word spell it.
use Rattle.std.specs.Prelude.{ℕ, List, Option, Some, None, option_map, option_and_then, codes, length, ◌==◌, if◌then◌else◌}
use Rattle.std.specs.Str.{bytes_eq}
use Rattle.ordup_grammar.specs.Numbers.{number_of}
use Rattle.ordup_objects.specs.declared.change.NumberOp.{NumberOp}
use Rattle.ordup_objects.specs.declared.change.NumberOp.TheVariants.{Add, Set, Mul, Max, Min}
use Rattle.ordup_grammar.specs.declared.change_words.Operation.{Operation}
use Rattle.ordup_grammar.specs.declared.change_words.Operation.TheVariants.{WithNumber, Take}
use Rattle.ordup_grammar.specs.declared.change_words.Kind.{Kind}
use Rattle.ordup_grammar.specs.declared.change_words.Kind.TheVariants as kind

-- the operation by a number that a word spells
abbrev pub number_op_of : List ℕ → Option NumberOp
number_op_of kind =
    if bytes_eq kind (codes "add") then Some Add
    else if bytes_eq kind (codes "set") then Some Set
    else if bytes_eq kind (codes "mul") then Some Mul
    else if bytes_eq kind (codes "max") then Some Max
    else if bytes_eq kind (codes "min") then Some Min
    else None

-- the operation that a kind and an operand spell
abbrev pub operation_of : List ℕ → List ℕ → Option Operation
operation_of kind operand =
    if bytes_eq kind (codes "take") then (if length operand == 0 then None else Some (Take operand))
    else option_and_then (λ op. option_map (λ n. WithNumber op n) (number_of operand)) (number_op_of kind)

-- the first part of a change word of a kind
abbrev pub kind_text : Kind → List ℕ
kind_text (kind.WithNumber Add) = codes "add"
kind_text (kind.WithNumber Set) = codes "set"
kind_text (kind.WithNumber Mul) = codes "mul"
kind_text (kind.WithNumber Max) = codes "max"
kind_text (kind.WithNumber Min) = codes "min"
kind_text kind.Take = codes "take"
