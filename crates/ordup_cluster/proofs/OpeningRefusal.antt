-- A store is opened after no more updates than may come before one.
use Rattle.std.proofs.Common.{◌≡◌, ◌≤◌, ℕ, None, arith}
use Rattle.std.proofs.lemmas.Bool.Decides.{nat_tests}
use Rattle.ordup_primary.specs.Declarations.{Declared, start_refusal}
use Rattle.ordup_cluster.specs.Clusters.{most_before, opening_refusal}

pub opening-allowed : (before : ℕ) (d : Declared) → before ≤ most_before → start_refusal d ≡ None → opening_refusal before d ≡ None
opening-allowed before d few allowed = grind (arith, nat_tests, few, allowed)
