-- The lag as text: comma-separated values with a header. No name has a comma or a quote, so no cell needs quotes.
use Rattle.std.specs.Prelude.{ℕ, zero, suc, ◌+◌, ◌++◌, Bool, true, false, List, [], ◌∷◌, length, slice_get, Option, Some, None, codes}
use Rattle.std.specs.Fmt.{decimal}
use Rattle.ordup_objects.specs.Tables.{Objects}
use Rattle.ordup_log.specs.Groups.{GroupList}
use Rattle.ordup_log.specs.declared.scope.Scope.{Scope}
use Rattle.ordup_limits.specs.Entries.{latest}
use Rattle.ordup_limits.specs.Limits.{Limits}
use Rattle.ordup_limits.specs.declared.limit.Limit.{Limit}
use Rattle.ordup_rows.specs.Rows.{scope_text}
use Rattle.ordup_audit.specs.Records.{RecordState}
use Rattle.ordup_lag.specs.LagRows.{LagRow, LimitUse, row_at}
use Rattle.ordup_lag.specs.declared.offsets.Offsets.{Offsets}

-- ---- the header

-- `,weight SCOPE,amount SCOPE`
abbrev pub scope_head : Objects → GroupList → Scope → List ℕ
scope_head objects groups s = codes ",weight " ++ (scope_text objects groups s ++ (codes ",amount " ++ scope_text objects groups s))

-- the names of the columns of a limit, where there is one
abbrev pub limit_head : Objects → GroupList → Option Limit → List ℕ
limit_head objects groups None = []
limit_head objects groups (Some limit) = scope_head objects groups limit.scope

-- the names of the columns of the first n limits
abbrev pub scope_heads : Objects → GroupList → Limits → ℕ → List ℕ
scope_heads objects groups limits zero = []
scope_heads objects groups limits (suc n) = scope_heads objects groups limits n ++ limit_head objects groups (slice_get limits n)

-- the header: two columns for each scope on which the site has a limit at the end, in the order in which these were declared
abbrev pub head_text : RecordState → List ℕ
head_text r =
    codes "place,reported" ++ (scope_heads r.objects r.groups (latest r.limits) (length (latest r.limits)) ++ codes ",round,window\n")

-- ---- rows

-- `,WEIGHT,AMOUNT`, or `,,` where the limit is not in force yet
abbrev pub use_text : Option LimitUse → List ℕ
use_text None = codes ",,"
use_text (Some u) = (codes "," ++ decimal u.weight) ++ (codes "," ++ decimal u.amount)

-- the cells of the first n limits
abbrev pub uses_text : List LimitUse → ℕ → List ℕ
uses_text uses zero = []
uses_text uses (suc n) = uses_text uses n ++ use_text (slice_get uses n)

-- `,1` at a round, and else `,0`
abbrev pub round_text : Bool → List ℕ
round_text true = codes ",1"
round_text false = codes ",0"

-- `,NUMBER` of a window, or `,`, and the end of the line
abbrev pub window_text : Option ℕ → List ℕ
window_text None = codes ",\n"
window_text (Some n) = (codes "," ++ decimal n) ++ codes "\n"

-- the line of a row, with cells for this many limits: `PLACE,REPORTED,WEIGHT,AMOUNT,..,ROUND,WINDOW`
abbrev pub row_text : ℕ → LagRow → List ℕ
row_text scopes row =
    decimal row.place
    ++ ((codes "," ++ decimal row.reported) ++ (uses_text row.uses scopes ++ (round_text row.is_round ++ window_text row.window)))

-- the lines of the places from 1 to k, after so many places and windows of other records
abbrev pub rows_upto : Offsets → RecordState → ℕ → List ℕ
rows_upto before r zero = []
rows_upto before r (suc k) = rows_upto before r k ++ row_text (length (latest r.limits)) (row_at before r (suc k))

-- the header, and the line of each decided place in order
abbrev pub lag_after : Offsets → RecordState → List ℕ
lag_after before r = head_text r ++ rows_upto before r (length r.sets)

-- the same of a record alone
abbrev pub lag_text : RecordState → List ℕ
lag_text r = lag_after (record { places = 0; windows = 0 }) r

-- after one record more there are so many more places and windows
abbrev pub offsets_after : Offsets → RecordState → Offsets
offsets_after before r = record { places = before.places + length r.sets; windows = before.windows + length r.windows }

-- the lag over records, one after another: each has a header of its own
abbrev pub lag_of_series : Offsets → List RecordState → List ℕ
lag_of_series before [] = []
lag_of_series before (r ∷ more) = lag_after before r ++ lag_of_series (offsets_after before r) more
