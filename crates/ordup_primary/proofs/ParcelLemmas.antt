-- What a primary has next for a site.
use Rattle.std.proofs.Common.{◌≡◌, ℕ, ◌+◌, ◌-◌, ◌<◌, ◌≤◌, List, [], length, take, arith}
use Rattle.std.specs.Prelude.{None}
use Rattle.std.proofs.lemmas.Bool.Decides.{nat_tests}
use Rattle.std.proofs.lemmas.List.{length-take-le, take-take}
use Rattle.ordup_objects.specs.declared.change.Change.{Change}
use Rattle.ordup_objects.specs.Serial.{History, set_at, prefix_of, IsLegalHistory}
use Rattle.ordup_primary.specs.Primaries.{PrimaryState, first_progress, progress_at, send_refusal}
use Rattle.ordup_primary.specs.Parcels.{MayFollow, NextUpdatesMayFollow}

-- the update after a prefix of a legal history may follow the prefix
follows : (h : History) (k number : ℕ) (set : List Change) → IsLegalHistory h → length h.sets ≤ 1000000 → k < length h.sets
    → number ≡ k + 1 → set ≡ set_at h number → MayFollow (prefix_of h k) number set
follows h k number set is few lt at same =
    let count : length (take k h.sets) ≡ k = length-take-le k h.sets (omega arith) in
    let place : number - 1 ≡ k = omega arith in
    record {
      next = omega (arith, count);
      few = omega arith;
      known = rw (same, place) (is.known k [] lt);
      legal = rw (same, place, count, take-take k k h.sets (omega arith)) (is.legal k lt);
    }

-- where there is something to send, not all was sent
unsent : (p : PrimaryState) (s : ℕ) → (progress_at p s).sent ≤ length p.log.sets → send_refusal p s ≡ None
    → (progress_at p s).sent < length p.log.sets
unsent p s le none = grind (arith, nat_tests, none)

pub next-follows : NextUpdatesMayFollow
next-follows p s number set is site none at same =
    follows p.log (progress_at p s).sent number set is.legal is.few
    (unsent p s ((is.sites s first_progress site).sent) none) at same
