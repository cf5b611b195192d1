-- What an answered settlement did.
use Rattle.std.proofs.Common.{◌≡◌, ℕ, ◌+◌, List, [], ◌∷◌, length, refl, sym, ap, ◌∙◌, arith, inl, inr}
use Rattle.std.proofs.lemmas.Bool.{cases_eq, eq-eqb, ne_eqb}
use Rattle.ordup_primary.specs.declared.settled.Settled.TheVariants.{Acked}
use Rattle.ordup_primary.specs.Primaries.{PrimaryState, SiteProgress, IsPrimary, first_progress, progress_at, settled_as, forced_now}
use Rattle.ordup_primary.specs.Primaries.{waiting_now, acked_after, acked_or_round, acked_or_waiting}
use Rattle.ordup_holds.specs.Turning.{Settles, SameFeeds}

-- the head is acknowledged where no site holds it up, and only there
round-acked : (a k n : ℕ) (sites : List ℕ) → acked_or_round k sites ≡ Acked n → acked_after a sites ≡ a + 1
round-acked a k n [] e = refl
round-acked a k n (s ∷ sites) e = absurd cc

waiting-acked : (a k n : ℕ) (sites : List ℕ) → acked_or_waiting k sites ≡ Acked n → acked_after a sites ≡ a + 1
waiting-acked a k n [] e = refl
waiting-acked a k n (s ∷ sites) e = absurd cc

-- what is acknowledged after a settlement, by its answer
pub settled-acked : (p q : PrimaryState) (n : ℕ) → IsPrimary p → Settles p q → Acked n ≡ settled_as p → q.acked ≡ p.acked + 1
settled-acked p q n is settles e = elim (cases_eq p.acked p.decided) [
  | inl first ↦
      (let answer : acked_or_round (p.acked + 1) (forced_now p) ≡ Acked n =
      sym (rw (eq-eqb p.acked p.decided first) at e) in
      (settles.first first).acked ∙ round-acked p.acked (p.acked + 1) n (forced_now p) answer)
  | inr other ↦
      (let answer : acked_or_waiting (p.acked + 1) (waiting_now p) ≡ Acked n =
      sym (rw (ne_eqb p.acked p.decided other) at e) in
      let le = is.acked in
      ap (λ (r : PrimaryState). r.acked) (settles.later (omega arith))
      ∙ waiting-acked p.acked (p.acked + 1) n (waiting_now p) answer)
]

-- what is sent and reported is as it was
pub same-feeds : (p q : PrimaryState) → IsPrimary p → Settles p q → SameFeeds p q
same-feeds p q is settles = elim (cases_eq p.acked p.decided) [
  | inl first ↦ (let decides = settles.first first in record {
    setup = decides.setup;
    log = decides.log;
    count = decides.count;
    sent = λ s lt. ap (λ (x : SiteProgress). x.sent) (decides.sites s first_progress lt);
    reported = λ s lt. ap (λ (x : SiteProgress). x.reported) (decides.sites s first_progress lt);
  })
  | inr other ↦ (let le = is.acked in
      let later = settles.later (omega arith) in
      record {
        setup = ap (λ (r : PrimaryState). r.setup) later;
        log = ap (λ (r : PrimaryState). r.log) later;
        count = ap (λ (r : PrimaryState). length r.sites) later;
        sent = λ s lt. ap (λ (r : PrimaryState). (progress_at r s).sent) later;
        reported = λ s lt. ap (λ (r : PrimaryState). (progress_at r s).reported) later;
      })
]

pub same-feeds-more : (p m q : PrimaryState) → SameFeeds p m → SameFeeds m q → SameFeeds p q
same-feeds-more p m q first next = record {
  setup = next.setup ∙ first.setup;
  log = next.log ∙ first.log;
  count = next.count ∙ first.count;
  sent = λ s lt. let count = first.count in next.sent s (omega arith) ∙ first.sent s lt;
  reported = λ s lt. let count = first.count in next.reported s (omega arith) ∙ first.reported s lt;
}
