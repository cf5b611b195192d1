-- What queries import.
use Rattle.std.specs.Prelude.{◌≡◌, ℕ, ℤ, ◌≤◌, false, Some, All, List, [], ◌∷◌, map}
use Rattle.ordup_objects.specs.States.{State, value_at}
use Rattle.ordup_objects.specs.Serial.{serial}
use Rattle.ordup_objects.specs.Weights.{distance}
use Rattle.ordup_primary.specs.Declarations.{Declared}
use Rattle.ordup_query.specs.Queries.{value_sum}
use Rattle.ordup_world.specs.Queries.{ReadMade, Opened, import_total, values_read}
use Rattle.ordup_world.specs.Events.{Past, log_of, opened, reply, is_refused}

-- the values of the objects that were read, on another state
abbrev pub values_on : State → List ReadMade → List ℤ
values_on v reads = map (λ r. value_at v r.object) reads

-- A query keeps its import limit: what its reads imported is within the limit.
-- Each value that it read is no further from the value at its reference, the state v, than the read imported; so are the sums;
-- and where nothing was imported, the values are those of the reference.
pub record KeepsImport (v : State) (o : Opened) : Type 0 where
  pub total : import_total o.reads ≤ o.limit
  pub near : All (λ r. distance r.value (value_at v r.object) ≤ r.import) o.reads
  pub sum : distance (value_sum (values_read o.reads)) (value_sum (values_on v o.reads)) ≤ import_total o.reads
  pub exact : import_total o.reads ≡ 0 → values_read o.reads ≡ values_on v o.reads

module _ {A : Type 0} where
  -- each event of the past was accepted after those before it
  abbrev pub AreAccepted : Declared → Past A → Type 0
  AreAccepted setup [] = Unit {0}
  AreAccepted setup (e ∷ past) = AreAccepted setup past × (is_refused (reply setup past e) ≡ false)

  -- each query that is open after the past keeps its import limit, by the state of the log at its reference
  abbrev pub KeepImports : Declared → Past A → Type 0
  KeepImports setup past =
      (q : List ℕ) (o : Opened) → opened setup q past ≡ Some o → KeepsImport (serial (log_of setup past) o.place) o
