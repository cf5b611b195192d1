-- Two stores, worked out by hand, and wrong joins. The first begins with x at 0 and adds 5, 1 and 3. The limit on x is 5, so its second
-- update has a round, and nothing is reported before that. The next store begins there, with x at 9, and adds 4 and 1. The limit is 4,
-- and nothing is reported in time, so its second update has one too, at place 5 of both.
use Rattle.std.proofs.Common.{◌≡◌, ℕ, ◌<◌, ◌≤◌, ◌-◌, Bool, true, List, [], ◌∷◌, length, pos, inl, inr, refl, arith}
use Rattle.std.specs.Prelude.{All, codes, if◌then◌else◌, nat_le, ◌||◌}
use Rattle.std.proofs.lemmas.Bool.{agree_below, agree_below_at, false≢true, true≢false, leb-true, or_cases}
use Rattle.ordup_objects.specs.declared.change.Change.{Change}
use Rattle.ordup_objects.specs.declared.change.Op.TheVariants.{Add}
use Rattle.ordup_log.specs.declared.scope.Scope.TheVariants.{Object}
use Rattle.ordup_limits.specs.Entries.{Entries, entry_of, in_force}
use Rattle.ordup_limits.proofs.JoinLemmas.{limits_by_place_are_tests}
use Rattle.ordup_primary.specs.Primaries.{IsPrimary, PrimaryState, progress_at, reported_at}
use Rattle.ordup_record.specs.Successive.{AreSuccessive, GoesOn}
use Rattle.ordup_rounds.specs.Fewest.{AreFewest}
use Rattle.ordup_rounds.specs.Rounds.{AreRoundPlaces, AreRoundsReported, full_rounds}
use Rattle.ordup_rounds.specs.Schedules.{StaysWithin}
use Rattle.ordup_rounds.specs.Windows.{AreDisjointWindows, IsWindow}
use Rattle.ordup_rounds.specs.declared.window.Window.{Window}
use Rattle.ordup_rounds.proofs.RoundLemmas.{forced_rounds_are_fewest}
use Rattle.ordup_series.specs.Series.{Whole, is_within}
use Rattle.ordup_interleavings.specs.Stores.{decided_in, whole_of_stores}
use Rattle.ordup_interleavings.proofs.StoreLemmas.{successive_stores_have_the_fewest_rounds}

-- one change, which adds to x
abbrev adds : ℕ → List Change
adds n = record { object = 0; op = Add (pos n) } ∷ []

-- this limit on x, from the start
abbrev limit : ℕ → Entries
limit amount = entry_of (Object 0) amount 1 ∷ []

abbrev from_to : ℕ → ℕ → Window
from_to a b = record { from = a; to = b }

-- A store of one site, which begins with x at v and ended with all of these updates acknowledged. Its second update has a round.
abbrev store : ℕ → Entries → List (List Change) → List ℕ → PrimaryState
store v limits sets reports = record {
  setup = record { objects = (codes "x", pos v) ∷ []; groups = []; sites = (codes "a", 4) ∷ []; limits = limits ∷ [] };
  log = record { start = pos v ∷ []; sets = sets };
  acked = length sets;
  decided = length sets;
  sites = record { sent = length sets; reported = length sets; reports = reports; rounds = 2 ∷ []; windows = from_to 0 2 ∷ [] } ∷ [];
  limits = limits ∷ [];
}

abbrev first : PrimaryState
first = store 0 (limit 5) (adds 5 ∷ adds 1 ∷ adds 3 ∷ []) (0 ∷ 0 ∷ 2 ∷ [])

abbrev next : PrimaryState
next = store 9 (limit 4) (adds 4 ∷ adds 1 ∷ []) (0 ∷ 0 ∷ [])

goes-on : AreSuccessive first (next ∷ [])
goes-on = (record { acked = refl; objects = refl; values = refl; groups = refl; sites = refl }, tt)

-- ---- both together

abbrev both : Whole
both = whole_of_stores 0 first (next ∷ [])

-- the places of the next store count on, and all of the first counts as reported there
counted-on : (both.rounds ≡ 2 ∷ 5 ∷ []) × (both.windows ≡ from_to 0 2 ∷ from_to 3 5 ∷ []) × (decided_in first (next ∷ []) ≡ 5)
counted-on = (refl, refl, refl)

reports-joined : (both.reported_at 3 ≡ 2) × (both.reported_at 4 ≡ 3) × (both.reported_at 5 ≡ 3)
reports-joined = (refl, refl, refl)

-- the limit of each store holds at its own places
limits-joined : (both.limits_at 3 ≡ in_force (limit 5) 1) × (both.limits_at 4 ≡ in_force (limit 4) 1)
limits-joined = (refl, refl)

-- a third store counts on from both, and of the last one only decided places count
third : ((whole_of_stores 0 first (next ∷ next ∷ [])).rounds ≡ 2 ∷ 5 ∷ 7 ∷ [])
    × (decided_in first (next ∷ record next { acked = 1; decided = 1 } ∷ []) ≡ 6)
third = (refl, refl)

-- ---- the fewest rounds of both

each : (test : ℕ → Bool) (n : ℕ) → agree_below test (λ i. true) n ≡ true → (k : ℕ) → k < n → test k ≡ true
each test n all k there = agree_below_at test (λ i. true) n k all there

-- a place was kept, or reported, or is not before another
abbrev is_answered : ℕ → ℕ → Bool
is_answered j k = nat_le k j || (is_within both (both.reported_at j) j || nat_le j (both.reported_at k))

reported : AreRoundsReported (is_within both) both.reported_at 5
reported j k some lt last over =
    let at : agree_below (is_answered j) (λ i. true) 6 ≡ true =
    each (λ i. agree_below (is_answered i) (λ l. true) 6) 6 refl j (omega arith) in
    elim (or_cases (nat_le k j) (is_within both (both.reported_at j) j || nat_le j (both.reported_at k)) (each (is_answered j) 6 at k (omega arith))) [
      | inl before ↦ absurd (let le : k ≤ j = leb-true k j before in omega arith)
      | inr answered ↦ leb-true j (both.reported_at k) (rw over at answered)
    ]

-- as the rule of the whole has it
fewest : AreFewest (is_within both) both.reported_at 5 (2 ∷ 5 ∷ []) (from_to 0 2 ∷ from_to 3 5 ∷ [])
fewest =
    forced_rounds_are_fewest (is_within both) both.reported_at 5 (limits_by_place_are_tests both.history both.groups both.limits_at) reported

-- and as the law has it of two primaries
fewest-by-law : All IsPrimary (first ∷ next ∷ []) → AreFewest (is_within both) both.reported_at 5 (2 ∷ 5 ∷ []) (from_to 0 2 ∷ from_to 3 5 ∷ [])
fewest-by-law are = successive_stores_have_the_fewest_rounds 0 first (next ∷ []) are (omega arith) goes-on

-- ---- wrong joins

-- what was reported in the first store is forgotten: then place 4 passes its limit without a round
forgets-the-reports : StaysWithin (is_within both)
    (λ k. if nat_le k 3 then both.reported_at k else reported_at (progress_at next 0) (k - 3)) 5 (full_rounds (2 ∷ 5 ∷ [])) → ⊥
forgets-the-reports keeps = false≢true (keeps 4 (omega arith) (omega arith))

-- the rounds, or the windows, of the next store are not counted on
repeats-a-round : AreRoundPlaces 5 (2 ∷ 2 ∷ []) → ⊥
repeats-a-round are = absurd (let lt : 2 < 2 = are.ascending 0 (omega arith) in omega arith)

repeats-a-window : AreDisjointWindows (is_within both) both.reported_at 5 (from_to 0 2 ∷ from_to 0 2 ∷ []) → ⊥
repeats-a-window are = absurd (let apart : 2 ≤ 0 = are.apart 0 (from_to 0 0) (omega arith) in omega arith)

-- the limit of the first store holds in the next one too
keeps-the-first-limit : IsWindow (is_within (record both { limits_at = in_force (limit 5) })) both.reported_at 5 (from_to 3 5) → ⊥
keeps-the-first-limit is = true≢false is.over

-- the next store begins as the first one did
begins-anew : GoesOn first (store 0 (limit 4) (adds 4 ∷ adds 1 ∷ []) (0 ∷ 0 ∷ [])) → ⊥
begins-anew on = absurd (let same = on.values in cc)

-- it begins while an update waits
begins-too-early : GoesOn (record first { acked = 2 }) next → ⊥
begins-too-early on = absurd (let same : 2 ≡ 3 = on.acked in omega (arith, same))
