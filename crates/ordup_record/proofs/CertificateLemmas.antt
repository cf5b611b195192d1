-- Certificates over tests and reports that are the same at the decided places.
use Rattle.ordup_audit.proofs.Common.{◌<◌, ◌∙◌, ◌≡◌, ◌≤◌, All-weaker, ap, arith, awaited_place, base, Bool, full_rounds, IsCertificate}
use Rattle.ordup_audit.proofs.Common.{IsWindow, List, max, StaysWithin, Window, ℕ}
use Rattle.ordup_rounds.specs.Schedules.{Schedule}

module _ (v w : ℕ → ℕ → Bool) (f g : ℕ → ℕ) (d : ℕ) (tests : (a b : ℕ) → b ≤ d → w a b ≡ v a b)
    (reports : (k : ℕ) → 0 < k → k ≤ d → g k ≡ f k) where
  keeps-same : (p : Schedule) → StaysWithin v f d p → StaysWithin w g d p
  keeps-same p keeps k some le =
      let same : base g p k ≡ base f p k = ap (λ x. max x (awaited_place p k)) (reports k some le) in
      tests (base g p k) k le ∙ ap (λ a. v a k) same ∙ keeps k some le

  window-same : (x : Window) → IsWindow v f d x → IsWindow w g d x
  window-same x is = record {
    forward = is.forward;
    last = is.last;
    over = tests x.from x.to is.last ∙ is.over;
    unreported = (let some : 0 < x.to = omega (arith, is.forward) in rw (reports x.to some is.last) is.unreported);
  }

  pub certificate-same : (rounds : List ℕ) (windows : List Window) → IsCertificate v f d rounds windows
      → IsCertificate w g d rounds windows
  certificate-same rounds windows is = record {
    places = is.places;
    keeps = keeps-same (full_rounds rounds) is.keeps;
    disjoint = record {
      each = All-weaker (IsWindow v f d) (IsWindow w g d) window-same windows is.disjoint.each;
      apart = is.disjoint.apart;
    };
    count = is.count;
  }
