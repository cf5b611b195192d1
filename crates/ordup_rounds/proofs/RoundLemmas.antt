-- The rounds and the windows of the rule.
use Rattle.std.proofs.Common.{◌≡◌, ℕ, zero, suc, ◌+◌, ◌<◌, ◌≤◌, Bool}
use Rattle.std.proofs.Common.{true, false, length, inl, inr, arith, refl, sym, ◌∙◌}
use Rattle.std.specs.Prelude.{◌||◌, All, AllPairs}
use Rattle.std.proofs.lemmas.Bool.{cases_Bool, cases_lt, eq-eqb, false≢true}
use Rattle.std.proofs.lemmas.List.{length_push}
use Rattle.std.proofs.lemmas.List.Elements.{All-nil, All-push, All-weaker}
use Rattle.std.proofs.lemmas.List.Folds.{list_any-append}
use Rattle.std.proofs.lemmas.List.Quantifiers.{all_pairs_push}
use Rattle.ordup_rounds.specs.declared.window.Window.{Window}
use Rattle.ordup_rounds.specs.Schedules.{IsLimitTest, StaysWithin, base}
use Rattle.ordup_rounds.specs.Windows.{IsWindow, AreDisjointWindows}
use Rattle.ordup_rounds.specs.Rounds.{AreRoundPlaces, count_upto, full_rounds, rounds_upto, windows_upto, AreRoundsReported}
use Rattle.ordup_rounds.specs.Fewest.{IsCertificate, CertifiedRoundsAreFewest, ForcedRoundsAreFewest}
use Rattle.ordup_rounds.proofs.PlaceLemmas.{has_place, count_upto-all, count_upto-push}
use Rattle.ordup_rounds.proofs.PlaceLemmas.{round_count-places, round_places_are_a_schedule, awaited_place-full}
use Rattle.ordup_rounds.proofs.WindowLemmas.{no_fewer_rounds_than_windows}

pub certified_rounds_are_fewest : CertifiedRoundsAreFewest
certified_rounds_are_fewest within reported_at decided test rounds windows is p schedule keeps =
    omega (arith, is.count, no_fewer_rounds_than_windows within reported_at decided test p schedule keeps windows is.disjoint)

or-true : (b : Bool) → (b || true) ≡ true
or-true true = refl
or-true false = refl

-- a span that passes a limit is not empty
over_is_forward : (within : ℕ → ℕ → Bool) → IsLimitTest within → (a b : ℕ) → within a b ≡ false → a < b
over_is_forward within test a b over = elim (cases_lt a b) [
  | inl forward ↦ forward
  | inr empty ↦ absurd (false≢true (sym over ∙ test.empty a b empty))
]

-- the window of a forced round: from what was reported at its last place, over a limit
record IsForced (within : ℕ → ℕ → Bool) (reported_at : ℕ → ℕ) (d : ℕ) (w : Window) : Type 0 where
  pub from : w.from ≡ reported_at w.to
  pub over : within w.from w.to ≡ false
  pub last : w.to ≤ d

-- tests and reports that agree on the decided places give the same rounds, and the same windows
pub rounds_upto-same : (v w : ℕ → ℕ → Bool) (f g : ℕ → ℕ) (d : ℕ)
    → ((k : ℕ) → 0 < k → k ≤ d → v (f k) k ≡ w (g k) k)
    → rounds_upto v f d ≡ rounds_upto w g d
rounds_upto-same v w f g zero same = refl
rounds_upto-same v w f g (suc d) same =
    rw (same (suc d) (omega arith) (omega arith), rounds_upto-same v w f g d (λ k some le. same k some (omega arith))) refl

pub windows_upto-same : (v w : ℕ → ℕ → Bool) (f g : ℕ → ℕ) (d : ℕ)
    → ((k : ℕ) → 0 < k → k ≤ d → v (f k) k ≡ w (g k) k) → ((k : ℕ) → 0 < k → k ≤ d → f k ≡ g k)
    → windows_upto v f d ≡ windows_upto w g d
windows_upto-same v w f g zero same reports = refl
windows_upto-same v w f g (suc d) same reports =
    let rest : windows_upto v f d ≡ windows_upto w g d =
    windows_upto-same v w f g d (λ k some le. same k some (omega arith)) (λ k some le. reports k some (omega arith)) in
    rw (same (suc d) (omega arith) (omega arith), reports (suc d) (omega arith) (omega arith), rest) refl

module _ (within : ℕ → ℕ → Bool) (reported_at : ℕ → ℕ) where
  -- ---- the rounds

  rounds_upto-each : (d : ℕ) → All (λ k. (0 < k) × (k ≤ d)) (rounds_upto within reported_at d)
  rounds_upto-each zero = All-nil (λ k. (0 < k) × (k ≤ 0))
  rounds_upto-each (suc d) =
      let rounds = rounds_upto within reported_at d in
      let before : All (λ k. (0 < k) × (k ≤ suc d)) rounds =
      All-weaker (λ k. (0 < k) × (k ≤ d)) (λ k. (0 < k) × (k ≤ suc d)) (λ k is. (is.0, omega (arith, is.1))) rounds
      (rounds_upto-each d) in
      elim (cases_Bool (within (reported_at (suc d)) (suc d))) [
        | inl kept ↦ rw kept before
        | inr forced ↦ rw forced (All-push (λ k. (0 < k) × (k ≤ suc d)) rounds (suc d) before (omega arith, omega arith))
      ]

  rounds_upto-pairs : (d : ℕ) → AllPairs (λ j k. j < k) (rounds_upto within reported_at d)
  rounds_upto-pairs zero = λ i j x lt there. absurd (omega arith)
  rounds_upto-pairs (suc d) = elim (cases_Bool (within (reported_at (suc d)) (suc d))) [
    | inl kept ↦ rw kept (rounds_upto-pairs d)
    | inr forced ↦ rw forced (all_pairs_push (λ j k. j < k) (rounds_upto within reported_at d) (suc d) (rounds_upto-pairs d)
        (λ i x there. omega (arith, (rounds_upto-each d i x there).1)))
  ]

  rounds_upto-places : (d : ℕ) → AreRoundPlaces d (rounds_upto within reported_at d)
  rounds_upto-places d = record {
    ascending = λ k there. rounds_upto-pairs d k (k + 1) 0 (omega arith) there;
    each = rounds_upto-each d;
  }

  -- a place is one of them where the span to it passes a limit
  has_place-upto : (d k : ℕ) → 0 < k → k ≤ d → within (reported_at k) k ≡ false
      → has_place k (rounds_upto within reported_at d) ≡ true
  has_place-upto zero k some le forced = absurd (omega arith)
  has_place-upto (suc d) k some le forced = elim (cases_lt k (suc d)) [
    | inl before ↦ (
        let has : has_place k (rounds_upto within reported_at d) ≡ true = has_place-upto d k some (omega arith) forced in
        elim (cases_Bool (within (reported_at (suc d)) (suc d))) [
          | inl kept ↦ rw kept has
          | inr more ↦ rw (more, list_any-append, has) refl
        ])
    | inr last ↦ (
        let here : k ≡ suc d = omega arith in
        let more : within (reported_at (suc d)) (suc d) ≡ false = rw here at forced in
        rw (more, list_any-append, eq-eqb (suc d) k (sym here)) (or-true (has_place k (rounds_upto within reported_at d))))
  ]

  -- so they keep the limits
  rounds_upto-keep : IsLimitTest within → (d : ℕ) → StaysWithin within reported_at d (full_rounds (rounds_upto within reported_at d))
  rounds_upto-keep test d k some le =
      let rounds = rounds_upto within reported_at d in
      elim (cases_Bool (within (reported_at k) k)) [
        | inl kept ↦ test.later (reported_at k) (base reported_at (full_rounds rounds) k) k (omega arith) kept
        | inr forced ↦ test.empty (base reported_at (full_rounds rounds) k) k
            (omega (arith, awaited_place-full rounds k some (has_place-upto d k some le forced)))
      ]

  -- those of them up to an earlier place are the rounds up to it
  count_upto-rounds : (d e : ℕ) → e ≤ d
      → count_upto e (rounds_upto within reported_at d) ≡ length (rounds_upto within reported_at e)
  count_upto-rounds zero e le = let none : e ≡ 0 = omega arith in rw none refl
  count_upto-rounds (suc d) e le = elim (cases_lt e (suc d)) [
    | inl before ↦ (
        let upto = count_upto-rounds d e (omega arith) in
        elim (cases_Bool (within (reported_at (suc d)) (suc d))) [
          | inl kept ↦ rw kept upto
          | inr forced ↦ rw forced (count_upto-push e (suc d) (rounds_upto within reported_at d) before ∙ upto)
        ])
    | inr last ↦ (
        let here : e ≡ suc d = omega arith in
        let rounds = rounds_upto within reported_at (suc d) in
        rw here (count_upto-all (suc d) rounds
        (All-weaker (λ k. (0 < k) × (k ≤ suc d)) (λ k. k ≤ suc d) (λ k is. is.1) rounds (rounds_upto-each (suc d)))))
  ]

  -- ---- the windows

  length-windows_upto : (d : ℕ) → length (windows_upto within reported_at d) ≡ length (rounds_upto within reported_at d)
  length-windows_upto zero = refl
  length-windows_upto (suc d) = elim (cases_Bool (within (reported_at (suc d)) (suc d))) [
    | inl kept ↦ rw kept (length-windows_upto d)
    | inr forced ↦ rw (
      forced,
      length_push (windows_upto within reported_at d) (record { from = reported_at (suc d); to = suc d }),
      length_push (rounds_upto within reported_at d) (suc d),
      length-windows_upto d,
    ) refl
  ]

  windows_upto-forced : (d : ℕ) → All (IsForced within reported_at d) (windows_upto within reported_at d)
  windows_upto-forced zero = All-nil (IsForced within reported_at 0)
  windows_upto-forced (suc d) =
      let windows = windows_upto within reported_at d in
      let before : All (IsForced within reported_at (suc d)) windows =
      All-weaker (IsForced within reported_at d) (IsForced within reported_at (suc d))
      (λ w is. record { from = is.from; over = is.over; last = omega (arith, is.last) }) windows (windows_upto-forced d) in
      elim (cases_Bool (within (reported_at (suc d)) (suc d))) [
        | inl kept ↦ rw kept before
        | inr forced ↦
            rw forced (All-push (IsForced within reported_at (suc d)) windows (record { from = reported_at (suc d); to = suc d })
            before (record { from = refl; over = forced; last = omega arith }))
      ]

  -- each ends where the site has reported it before the next round
  windows_upto-pairs : (decided : ℕ) → IsLimitTest within → AreRoundsReported within reported_at decided
      → (d : ℕ) → d ≤ decided
      → AllPairs (λ v w. v.to ≤ w.from) (windows_upto within reported_at d)
  windows_upto-pairs decided test reported zero le = λ i j x lt there. absurd (omega arith)
  windows_upto-pairs decided test reported (suc d) le =
      let windows = windows_upto within reported_at d in
      let pairs : AllPairs (λ v w. v.to ≤ w.from) windows = windows_upto-pairs decided test reported d (omega arith) in
      let ends : All (λ w. w.to ≤ reported_at (suc d)) windows =
      All-weaker (IsForced within reported_at d) (λ w. w.to ≤ reported_at (suc d))
      (λ w is. reported w.to (suc d) (omega (arith, over_is_forward within test w.from w.to is.over)) (omega (arith, is.last)) le
      (rw is.from at is.over)) windows (windows_upto-forced d) in
      elim (cases_Bool (within (reported_at (suc d)) (suc d))) [
        | inl kept ↦ rw kept pairs
        | inr forced ↦ rw forced
            (all_pairs_push (λ v w. v.to ≤ w.from) windows (record { from = reported_at (suc d); to = suc d }) pairs ends)
      ]

  windows_upto-disjoint : IsLimitTest within → (d : ℕ) → AreRoundsReported within reported_at d
      → AreDisjointWindows within reported_at d (windows_upto within reported_at d)
  windows_upto-disjoint test d reported = record {
    each = All-weaker (IsForced within reported_at d) (IsWindow within reported_at d)
        (λ w is. record {
          forward = over_is_forward within test w.from w.to is.over;
          last = is.last;
          over = is.over;
          unreported = omega (arith, is.from);
        })
        (windows_upto within reported_at d) (windows_upto-forced d);
    apart = λ k w there. windows_upto-pairs d test reported d (omega arith) k (k + 1) w (omega arith) there;
  }

  -- ---- both

  certificate-upto : IsLimitTest within → (d : ℕ) → AreRoundsReported within reported_at d
      → IsCertificate within reported_at d (rounds_upto within reported_at d) (windows_upto within reported_at d)
  certificate-upto test d reported = record {
    places = rounds_upto-places d;
    keeps = rounds_upto-keep test d;
    disjoint = windows_upto-disjoint test d reported;
    count = length-windows_upto d;
  }

-- up to each place the rounds so far are fewest, by the certificate for that place
pub forced_rounds_are_fewest : ForcedRoundsAreFewest
forced_rounds_are_fewest within reported_at decided test reported =
    let rounds = rounds_upto within reported_at decided in
    let places : AreRoundPlaces decided rounds = rounds_upto-places within reported_at decided in
    record {
      certificate = certificate-upto within reported_at test decided reported;
      longest = λ ws are.
          omega (
            arith,
            no_fewer_rounds_than_windows within reported_at decided test (full_rounds rounds)
                (round_places_are_a_schedule decided rounds places).0 (rounds_upto-keep within reported_at test decided) ws are,
            round_count-places decided rounds places,
          );
      fewest = λ p is keeps e le.
          omega (
            arith,
            count_upto-rounds within reported_at decided e le,
            certified_rounds_are_fewest within reported_at e test (rounds_upto within reported_at e) (windows_upto within reported_at e)
                (certificate-upto within reported_at test e (λ j k some lt last over. reported j k some lt (omega arith) over))
                p (λ k m some last awaits. is k m some (omega arith) awaits) (λ k some last. keeps k some (omega arith)),
          );
    }
