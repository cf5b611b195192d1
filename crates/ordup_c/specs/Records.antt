-- What a call for a record leaves and answers.
use Rattle.std.specs.Prelude.{◌≡◌, ◌⊎◌, ℕ, ◌<◌, ◌≤◌, List, ◌++◌, drop, length, Option, Some, None, Result, Ok, Err}
use Rattle.std.specs.declared.alloc.Global.{Global}
use Rattle.ordup_objects.specs.Tables.{index_of}
use Rattle.ordup_primary.specs.Primaries.{PrimaryState}
use Rattle.ordup_record.specs.RecordsOf.{record_of}
use Rattle.ordup_rows.specs.Rows.{rows_of, rows_text}
use Rattle.ordup_answers.specs.declared.script_end.ScriptEnd.{ScriptEnd}
use Rattle.ordup_answers.specs.declared.script_end.ScriptEnd.TheVariants.{Declared, Running}
use Rattle.ordup_c.specs.declared.session.Session.{Session}
use Rattle.ordup_c.specs.declared.status.TheConstants.{DONE, MORE, CLOSED, NO_MEMORY, NOT_STARTED, UNKNOWN_SITE}

-- the text of the record of a site of a primary, or why there is none
abbrev pub record_at : PrimaryState → Option ℕ → Result (List ℕ) ℕ
record_at p None = Err UNKNOWN_SITE
record_at p (Some s) = Ok (rows_text (rows_of (record_of p s)))

-- the same of the site of this name
abbrev pub record_named : PrimaryState → List ℕ → Result (List ℕ) ℕ
record_named p site = record_at p (index_of site p.setup.sites)

-- the same of a script
abbrev pub record_in : ScriptEnd Global → List ℕ → Result (List ℕ) ℕ
record_in (Declared setup) site = Err NOT_STARTED
record_in (Running world) site = record_named world.primary site

-- what is wanted was formed, or memory refused
abbrev pub Forms : Result (List ℕ) ℕ → Result (List ℕ) ℕ → Type 0
Forms wanted (Ok text) = wanted ≡ Ok text
Forms wanted (Err status) = (wanted ≡ Err status) ⊎ (status ≡ NO_MEMORY)

-- a text was written over the front of a buffer, and this status says so; or the buffer is too short for it, and as it was
abbrev pub Copies : List ℕ → ℕ → List ℕ → List ℕ → ℕ → Type 0
Copies text done old new status =
    ((length text ≤ length old) × (status ≡ done) × (new ≡ text ++ drop (length text) old))
    ⊎ ((length old < length text) × (status ≡ MORE) × (new ≡ old))

-- nothing was written, for this reason
abbrev pub Lacks : ℕ → List ℕ → List ℕ → ℕ → ℕ → Type 0
Lacks reason old new written status = (status ≡ reason) × (written ≡ 0) × (new ≡ old)

-- of what is wanted the length was told, and the text written where it fits; or there is none, or memory was refused
abbrev pub Tells : Result (List ℕ) ℕ → List ℕ → List ℕ → ℕ → ℕ → Type 0
Tells (Ok text) old new written status =
    ((written ≡ length text) × Copies text DONE old new status) ⊎ Lacks NO_MEMORY old new written status
Tells (Err reason) old new written status = Lacks reason old new written status ⊎ Lacks NO_MEMORY old new written status

-- the record of a site was asked for
abbrev pub RecordCall : Option Session → List ℕ → List ℕ → List ℕ → ℕ → ℕ → Type 0
RecordCall None site old new written status = Lacks CLOSED old new written status
RecordCall (Some v) site old new written status = Tells (record_in v.script site) old new written status
