-- What the call for a record leaves and answers.
use Rattle.std.specs.Prelude.{◌≡◌, ◌⊎◌, ℕ, ◌<◌, ◌≤◌, List, ◌++◌, drop, length, nat_lt, Option, Result, Ok, Err, MatchResult, if◌then◌else◌}
use Rattle.ordup_objects.specs.declared.refusal.Refusal.TheVariants.{UnknownSite}
use Rattle.ordup_primary.specs.Primaries.{PrimaryState}
use Rattle.ordup_record.specs.RecordsOf.{record_of}
use Rattle.ordup_rows.specs.Rows.{rows_of, rows_text}
use Rattle.ordup_shared.specs.declared.thing.Thing.{Thing}
use Rattle.ordup_shared.specs.Statuses.{status_of}
use Rattle.ordup_shared.specs.Things.{of_kind, book_of}
use Rattle.ordup_shared.specs.declared.status.TheConstants.{DONE, MORE, NO_MEMORY}

-- the text of the record of a site, or the status that says why there is none
abbrev pub record_at : PrimaryState → ℕ → Result (List ℕ) ℕ
record_at p site = if nat_lt site (length p.sites) then Ok (rows_text (rows_of (record_of p site))) else Err (status_of UnknownSite)

-- what is wanted was formed, or memory refused
abbrev pub Forms : Result (List ℕ) ℕ → Result (List ℕ) ℕ → Type 0
Forms wanted (Ok text) = wanted ≡ Ok text
Forms wanted (Err status) = (wanted ≡ Err status) ⊎ (status ≡ NO_MEMORY)

-- a text was written over the front of a buffer; or the buffer is too short for it, and as it was
abbrev pub Copies : List ℕ → List ℕ → List ℕ → ℕ → Type 0
Copies text old new status =
    ((length text ≤ length old) × (status ≡ DONE) × (new ≡ text ++ drop (length text) old))
    ⊎ ((length old < length text) × (status ≡ MORE) × (new ≡ old))

-- nothing was written, for this reason
abbrev pub Lacks : ℕ → List ℕ → List ℕ → ℕ → ℕ → Type 0
Lacks reason old new written status = (status ≡ reason) × (written ≡ 0) × (new ≡ old)

-- of what is wanted the length was told, and the text written where it fits; or there is none, or memory was refused
abbrev pub Tells : Result (List ℕ) ℕ → List ℕ → List ℕ → ℕ → ℕ → Type 0
Tells (Ok text) old new written status = ((written ≡ length text) × Copies text old new status) ⊎ Lacks NO_MEMORY old new written status
Tells (Err reason) old new written status = Lacks reason old new written status ⊎ Lacks NO_MEMORY old new written status

-- the record of a site was asked for
abbrev pub RecordCall : Option Thing → ℕ → List ℕ → List ℕ → ℕ → ℕ → Type 0
RecordCall book site old new written status =
    MatchResult (of_kind book_of book) (λ b. Tells (record_at b.book.primary site) old new written status)
    (λ why. Lacks why old new written status)
