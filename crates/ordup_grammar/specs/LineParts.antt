-- A part of a line in the fields of a `LinePart`.
use Rattle.std.specs.Prelude.{◌≡◌, true}
use Rattle.std.specs.List.{list_all}
use Rattle.ordup_grammar.specs.Requests.{is_printed}
use Rattle.ordup_grammar.specs.declared.line_buffer.LinePart.TheInside.{Inside}

-- each byte is printed where that is known
abbrev pub IsLinePart : Inside → Type 0
IsLinePart p = p.is_printed ≡ true → list_all is_printed p.bytes ≡ true
