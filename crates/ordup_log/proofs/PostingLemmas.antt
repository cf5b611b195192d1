-- Postings, one place after the other.
use Rattle.std.proofs.Common.{◌≡◌, ℕ, suc, ◌+◌, ◌-◌, List, arith, refl}
use Rattle.ordup_objects.specs.Serial.{History}
use Rattle.ordup_objects.specs.Weights.{object_weight, object_span}
use Rattle.ordup_objects.proofs.SpanLemmas.{object_span-suc}
use Rattle.ordup_log.specs.Postings.{postings_of, posted}

-- what the updates up to a place weigh, with one place more
pub running-more : (h : History) (x n : ℕ) → object_span h x 0 (n + 1) ≡ object_span h x 0 n + object_weight h x n
running-more h x n = let next : n + 1 ≡ suc n = omega arith in rw next (object_span-suc h x n)

-- the postings of one place more
pub postings-more : (h : History) (x n weight running : ℕ) (old new : List (ℕ × ℕ)) → old ≡ postings_of (object_weight h x) n
    → weight ≡ object_weight h x n → running ≡ object_span h x 0 (n + 1) → new ≡ posted old (n + 1) weight running
    → new ≡ postings_of (object_weight h x) (n + 1)
postings-more h x n weight running old new are is at more =
    let next : n + 1 ≡ suc n = omega arith in
    let all : suc n - 0 ≡ suc n = omega arith in
    rw (more, are, is, at, next, all) refl
