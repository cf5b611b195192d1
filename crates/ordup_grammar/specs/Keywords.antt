-- The first words of commands that are no declarations.
use Rattle.std.specs.Prelude.{ℕ, List, Option, Some, None, codes, if◌then◌else◌}
use Rattle.std.specs.Str.{bytes_eq}
use Rattle.ordup_grammar.specs.declared.keyword.Keyword.{Keyword}
use Rattle.ordup_grammar.specs.declared.keyword.Keyword.TheVariants.{
  Start,
  Certify,
  Propose,
  Send,
  Apply,
  Report,
  Settle,
  Begin,
  Read,
  End,
  Abandon,
  Show,
  Relimit,
}

-- the keyword that a word spells
unfoldable pub keyword_of : List ℕ → Option Keyword
keyword_of word =
    if bytes_eq word (codes "start") then Some Start
    else if bytes_eq word (codes "certify") then Some Certify
    else if bytes_eq word (codes "propose") then Some Propose
    else if bytes_eq word (codes "send") then Some Send
    else if bytes_eq word (codes "apply") then Some Apply
    else if bytes_eq word (codes "report") then Some Report
    else if bytes_eq word (codes "settle") then Some Settle
    else if bytes_eq word (codes "begin") then Some Begin
    else if bytes_eq word (codes "read") then Some Read
    else if bytes_eq word (codes "end") then Some End
    else if bytes_eq word (codes "abandon") then Some Abandon
    else if bytes_eq word (codes "show") then Some Show
    else if bytes_eq word (codes "relimit") then Some Relimit
    else None
