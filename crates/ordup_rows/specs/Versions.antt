-- The versions of the rows of a record.
use Rattle.std.specs.Prelude.{◌≡◌, ℕ, ◌==◌, ⊤, List, Option, Some, None, All, codes, if◌then◌else◌}
use Rattle.std.specs.List.{list_all}
use Rattle.std.specs.Str.{bytes_eq}
use Rattle.ordup_limits.specs.Entries.{Entries}
use Rattle.ordup_rows.specs.declared.version.Version.{Version}
use Rattle.ordup_rows.specs.declared.version.Version.TheVariants.{First, Second}

-- the column of the first row that spells a version
abbrev pub version_text : Version → List ℕ
version_text First = codes "1"
version_text Second = codes "2"

-- the version that a column spells
abbrev pub version_of : List ℕ → Option Version
version_of column =
    if bytes_eq column (codes "1") then Some First
    else if bytes_eq column (codes "2") then Some Second
    else None

-- rows of a version can tell the place from which a limit holds: those of the first can where it is 1
abbrev pub CanTellPlace : Version → ℕ → Type 0
CanTellPlace First place = place ≡ 1
CanTellPlace Second place = ⊤

-- rows of a version can tell these limits
abbrev pub CanTell : Version → Entries → Type 0
CanTell version entries = All (λ e. CanTellPlace version e.place) entries

-- the version that a record with these limits is written in
abbrev pub version_for : Entries → Version
version_for entries = if list_all (λ e. e.place == 1) entries then First else Second
