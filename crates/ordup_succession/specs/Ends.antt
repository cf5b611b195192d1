-- What a store ends with, and its successor begins with.
use Rattle.std.specs.Prelude.{◌≡◌, ◌++◌, ℕ, List, None, length}
use Rattle.ordup_objects.specs.Serial.{serial}
use Rattle.ordup_objects.specs.Tables.{initial_state, names_of}
use Rattle.ordup_primary.specs.Declarations.{Declared, start_refusal}
use Rattle.ordup_primary.specs.Primaries.{PrimaryState}
use Rattle.ordup_primary.specs.Successors.{limits_from_start}
use Rattle.ordup_succession.specs.DeclaringLines.{declarations_text}
use Rattle.ordup_succession.specs.ReadingBack.{ReadsBack}

-- What the successor of a primary's store declares: the same objects, each beginning at its value after the whole log, the same
-- groups and sites, and the last limits of each site, in force from the start.
pub record IsSuccessor (p : PrimaryState) (d : Declared) : Type 0 where
  pub objects : names_of d.objects ≡ names_of p.setup.objects
  pub values : initial_state d.objects ≡ serial p.log (length p.log.sets)
  pub groups : d.groups ≡ p.setup.groups
  pub sites : d.sites ≡ p.setup.sites
  pub limits : d.limits ≡ limits_from_start p.limits
  pub ready : start_refusal d ≡ None

-- a text has more behind it: the lines that declare the successor of a primary's store, which read back as it
abbrev pub DeclaresSuccessor : Type 0 → PrimaryState → List ℕ → List ℕ → Type 0
DeclaresSuccessor A p old new = (d : Declared) × IsSuccessor p d × ReadsBack A d × (new ≡ old ++ declarations_text d)
