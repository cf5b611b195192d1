-- The kinds of rows.
use Rattle.std.specs.Prelude.{ℕ, List, Option, Some, None, codes, if◌then◌else◌}
use Rattle.std.specs.Str.{bytes_eq}
use Rattle.ordup_rows.specs.declared.row_kind.RowKind.{RowKind}
use Rattle.ordup_rows.specs.declared.row_kind.RowKind.TheVariants.{Object, Member, Limit, Change, Report, Round, Window}

-- the first column of rows of a kind
abbrev pub kind_text : RowKind → List ℕ
kind_text Object = codes "object"
kind_text Member = codes "member"
kind_text Limit = codes "limit"
kind_text Change = codes "change"
kind_text Report = codes "report"
kind_text Round = codes "round"
kind_text Window = codes "window"

-- the kind that a first column spells
abbrev pub kind_of : List ℕ → Option RowKind
kind_of column =
    if bytes_eq column (codes "object") then Some Object
    else if bytes_eq column (codes "member") then Some Member
    else if bytes_eq column (codes "limit") then Some Limit
    else if bytes_eq column (codes "change") then Some Change
    else if bytes_eq column (codes "report") then Some Report
    else if bytes_eq column (codes "round") then Some Round
    else if bytes_eq column (codes "window") then Some Window
    else None
