-- Records of several sites that are audited one by one, and the verdict on them.
use Rattle.std.specs.Prelude.{◌≡◌, ◌+◌, ◌≤◌, nat_lt, Bool, true, All, Contains, List, [], ◌∷◌, ◌++◌, length, Option, Some, None}
use Rattle.ordup_audit.specs.Records.{RecordState}
use Rattle.ordup_audit.specs.Validity.{IsValid}
use Rattle.ordup_audit.specs.Verdicts.{IsVerdict}
use Rattle.ordup_audit.specs.declared.verdict.Verdict.TheVariants.{No}
use Rattle.ordup_series.specs.Audits.{rounds_of}
use Rattle.ordup_series.specs.declared.verdict.SeriesReason.TheVariants.{NotNext, NotSame, OfRecord}
use Rattle.ordup_series.specs.declared.verdict.SeriesVerdict.{SeriesVerdict}
use Rattle.ordup_series.specs.declared.verdict.SeriesVerdict.TheVariants as verdict
use Rattle.ordup_sites.specs.Sites.{AreValidSites, DiffersAtFirst, HaveFewestRounds}
use Rattle.ordup_sites.specs.declared.audit.SitesAudit.{SitesAudit}

-- one of the records, which has no fewer updates than each; none where there are no records
abbrev pub IsLongest : List RecordState → Option RecordState → Type 0
IsLongest done None = done ≡ []
IsLongest done (Some r) = Contains done r × All (λ q. length q.sets ≤ length r.sets) done

-- the record has more updates than the longest, or is the first
abbrev pub is_longer : Option RecordState → RecordState → Bool
is_longer None r = true
is_longer (Some q) r = nat_lt (length q.sets) (length r.sets)

-- an audit took just these records, which are valid and the same as far as each two go
pub record HasAudited {A : Type 0} (a : SitesAudit A) (done : List RecordState) : Type 0 where
  pub valid : AreValidSites done
  pub fewest : HaveFewestRounds done
  pub longest : IsLongest done a.longest
  pub records : a.records ≡ length done
  pub rounds : a.rounds ≡ rounds_of done

-- The verdict on a record after those of valid sites: it is valid and the same as each, and they have so many rounds together, of each
-- the fewest; or else the first reason against it.
abbrev pub IsSitesVerdict : List RecordState → RecordState → SeriesVerdict → Type 0
IsSitesVerdict done r (verdict.Fewest n) =
    AreValidSites (done ++ r ∷ []) × HaveFewestRounds (done ++ r ∷ []) × (n ≡ rounds_of (done ++ r ∷ []))
IsSitesVerdict done r (verdict.No place row NotNext) = ⊥
IsSitesVerdict done r (verdict.No place row NotSame) = (place ≡ length done + 1) × IsValid r × DiffersAtFirst done r row
IsSitesVerdict done r (verdict.No place row (OfRecord why)) =
    (place ≡ length done + 1) × (IsValid r → ⊥) × IsVerdict r (No row why)
