-- The definitions at small numbers, worked out by hand: no definition can change its meaning unseen.
use Rattle.std.proofs.Common.{◌≡◌, ℕ, ℤ, pos, List, [], ◌∷◌, refl}
use Rattle.std.specs.Prelude.{neg_ℤ, Some, None}
use Rattle.ordup_objects.specs.declared.change.Change.{Change}
use Rattle.ordup_objects.specs.declared.change.Op.TheVariants.{Add}
use Rattle.ordup_objects.specs.declared.refusal.Refusal.TheVariants.{OutOfRange, TooMany, OverImport}
use Rattle.ordup_objects.specs.Serial.{History}
use Rattle.ordup_site.specs.Sites.{SiteState}
use Rattle.ordup_query.specs.Imports.{import_of, charge}
use Rattle.ordup_query.specs.Queries.{QueryState, begin_refusal, refusal_at, value_sum, import_sum}

abbrev add : ℤ → List Change
add n = record { object = 0; op = Add n } ∷ []

-- x at 0: 3 is added, then -3, and then 2
abbrev log : History
log = record { start = pos 0 ∷ []; sets = add (pos 3) ∷ add (neg_ℤ (pos 3)) ∷ add (pos 2) ∷ [] }

-- the path between the two places, 3 and 2, whether the site is behind the reference or ahead of it; nothing at the reference
-- itself
imports : (import_of log 0 1 3 ≡ 5) × (import_of log 0 3 1 ≡ 5) × (import_of log 0 0 2 ≡ 6) × (import_of log 0 2 2 ≡ 0)
imports = (refl, refl, refl, refl)

-- a site whose values travelled 3 and 8
abbrev site : SiteState
site = record { applied = 1; values = pos 3 ∷ pos 8 ∷ []; travelled = 3 ∷ 8 ∷ [] }

-- 3 is 5 before the mark 8, and 8 is 5 past the mark 3
charges : (charge site (8 ∷ 3 ∷ []) 0 ≡ 5) × (charge site (8 ∷ 3 ∷ []) 1 ≡ 5) × (charge site (3 ∷ 8 ∷ []) 1 ≡ 0)
charges = (refl, refl, refl)

-- a query that may import 10, with this total and this many reads; a read of x is charged 5
abbrev query : ℕ → ℕ → QueryState
query total reads = record { place = 2; marks = 8 ∷ 3 ∷ []; limit = 10; sum = pos 0; total = total; reads = reads }

-- 10 in all is within 10, and 11 is not; the 256th read is allowed, and the 257th is too many, also where it would import too much
reads : (refusal_at (query 5 255) site 0 ≡ None) × (refusal_at (query 6 255) site 0 ≡ Some OverImport)
    × (refusal_at (query 5 256) site 0 ≡ Some TooMany) × (refusal_at (query 6 256) site 0 ≡ Some TooMany)
reads = (refl, refl, refl, refl)

-- 10^18 is allowed, and one more is not
limits : (begin_refusal 1000000000000000000 ≡ None) × (begin_refusal 1000000000000000001 ≡ Some OutOfRange)
limits = (refl, refl)

-- the newest first: 3 and -4 come to -1; 5 and 2 were imported, which makes 7
sums : (value_sum (neg_ℤ (pos 4) ∷ pos 3 ∷ []) ≡ neg_ℤ (pos 1))
    × (import_sum (2 ∷ 5 ∷ []) ≡ 7)
sums = (refl, refl)
