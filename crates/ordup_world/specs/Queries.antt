-- Queries of a list of accepted events.
use Rattle.std.specs.Prelude.{ℕ, ℤ, Option, List, length, map}
use Rattle.ordup_objects.specs.declared.refusal.Refusal.{Refusal}
use Rattle.ordup_query.specs.Queries.{read_refusal, import_sum}

-- an accepted read: the object, its value at the site, and what the read imported
pub record ReadMade : Type 0 where
  pub object : ℕ
  pub value : ℤ
  pub import : ℕ

-- an open query: its site, its reference, its import limit, and its accepted reads, the newest first
pub record Opened : Type 0 where
  pub site : ℕ
  pub place : ℕ
  pub limit : ℕ
  pub reads : List ReadMade

-- the values of these reads
abbrev pub values_read : List ReadMade → List ℤ
values_read reads = map (λ r. r.value) reads

-- what they imported, each
abbrev pub imports_read : List ReadMade → List ℕ
imports_read reads = map (λ r. r.import) reads

-- what they imported in all
abbrev pub import_total : List ReadMade → ℕ
import_total reads = import_sum (imports_read reads)

-- why a query refuses a read more, if it does
abbrev pub refusal_now : Opened → ReadMade → Option Refusal
refusal_now o r = read_refusal (length o.reads) o.limit (import_total o.reads) r.import
