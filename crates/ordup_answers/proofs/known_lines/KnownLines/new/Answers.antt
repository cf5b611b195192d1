use Rattle.std.proofs.Common.{None}
use Rattle.std.specs.Prelude.{IfSome}
use Rattle.std.proofs.lemmas.List.Elements.{All-replicate}
use Rattle.ordup_answers.specs.KnownLines.{Tells}
use Rattle.ordup_answers.proofs.known_lines.KnownLines.new.Goals as goal

pub returns : goal.returns
returns c d = All-replicate (λ line. IfSome line (Tells d)) 256 None tt
