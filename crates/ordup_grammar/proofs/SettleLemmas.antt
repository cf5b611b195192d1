-- What the line `settle` asks for.
use Rattle.std.proofs.Common.{◌≡◌, ap, true, ℕ, List}
use Rattle.std.specs.Prelude.{codes}
use Rattle.std.specs.Str.{bytes_eq}
use Rattle.std.specs.Cmp.Lexicographic.{bytes_decides}
use Rattle.ordup_grammar.specs.Actions.{Settle}
use Rattle.ordup_grammar.specs.Commands.{Act}
use Rattle.ordup_grammar.specs.Keywords.{keyword_of}
use Rattle.ordup_grammar.specs.Lines.{cut}
use Rattle.ordup_grammar.specs.Requests.{Command, request_of}

pub asks_to_settle : (line : List ℕ) → bytes_eq line (codes "settle") ≡ true → request_of (cut line) ≡ Command (Act Settle)
unfolding keyword_of request_of
asks_to_settle line same = ap (λ l. request_of (cut l)) ((bytes_decides line (codes "settle")).0 same)
