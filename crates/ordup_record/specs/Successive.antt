-- The records of one site of stores that go on one from another.
use Rattle.std.specs.Prelude.{◌≡◌, ⊤, ℕ, ◌<◌, List, [], ◌∷◌, All, length, map}
use Rattle.ordup_objects.specs.Serial.{serial}
use Rattle.ordup_objects.specs.Tables.{initial_state, names_of}
use Rattle.ordup_primary.specs.Primaries.{HasFewestRounds, IsPrimary, PrimaryState}
use Rattle.ordup_audit.specs.Records.{RecordState}
use Rattle.ordup_series.specs.Audits.{AreValidSeries}
use Rattle.ordup_series.specs.Series.{IsNext}
use Rattle.ordup_record.specs.RecordsOf.{record_of}

-- A store goes on from another one, of which all is acknowledged: with the same objects, each beginning at its value after the whole
-- log, the same groups and the same sites.
pub record GoesOn (p q : PrimaryState) : Type 0 where
  pub acked : p.acked ≡ length p.log.sets
  pub objects : names_of q.setup.objects ≡ names_of p.setup.objects
  pub values : initial_state q.setup.objects ≡ serial p.log (length p.log.sets)
  pub groups : q.setup.groups ≡ p.setup.groups
  pub sites : q.setup.sites ≡ p.setup.sites

-- each store goes on from the one before
abbrev pub AreSuccessive : PrimaryState → List PrimaryState → Type 0
AreSuccessive p [] = ⊤
AreSuccessive p (q ∷ more) = GoesOn p q × AreSuccessive q more

-- a primary, as each is, with a site s
abbrev pub HasSite : ℕ → PrimaryState → Type 0
HasSite s p = IsPrimary p × HasFewestRounds p × (s < length p.sites)

-- the records of site s of these stores
abbrev pub records_of : ℕ → List PrimaryState → List RecordState
records_of s stores = map (λ p. record_of p s) stores

-- ---- laws

-- a record of a site and that of the store that goes on are next to one another
abbrev pub SuccessiveRecordsAreNext : Type 0
SuccessiveRecordsAreNext = (p q : PrimaryState) (s : ℕ) → IsPrimary p → GoesOn p q → IsNext (record_of p s) (record_of q s)

-- so the records over any number of stores are a valid series; the last store may be under way
abbrev pub SuccessiveRecordsAreAValidSeries : Type 0
SuccessiveRecordsAreAValidSeries =
    (s : ℕ) (p : PrimaryState) (more : List PrimaryState) → All (HasSite s) (p ∷ more) → AreSuccessive p more →
    AreValidSeries (records_of s (p ∷ more))
