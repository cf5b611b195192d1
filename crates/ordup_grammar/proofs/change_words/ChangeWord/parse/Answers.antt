-- The kind is what is before the first colon, and the object what is before the second. So the operand decides the rest.
use Rattle.std.proofs.Common.{arith}
use Rattle.std.proofs.lemmas.Grind.{common_steps}
use Rattle.ordup_grammar.specs.Operations.{kind_text}
use Rattle.ordup_grammar.proofs.ChangeParts.{change_of-behind}
use Rattle.ordup_grammar.proofs.change_words.ChangeWord.parse.Goals as goal

pub returns-in_err-operation : goal.returns-in_err-operation
returns-in_err-operation c =
    let kind = c.in_ok-kind in
    let object = c.in_ok-object in
    let behind =
    change_of-behind c.prefix.result (kind_text kind.kind) kind.rest object.object object.operand kind.ensures object.ensures in
    grind (arith, common_steps)

pub returns : goal.returns
returns c =
    let kind = c.in_ok-kind in
    let object = c.in_ok-object in
    let behind =
    change_of-behind c.prefix.result (kind_text kind.kind) kind.rest object.object object.operand kind.ensures object.ensures in
    grind (arith, common_steps)
