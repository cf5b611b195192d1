-- Two epochs of a site, one after the other. The next one begins where the first one ended, and the site has then reported all of the
-- first.
use Rattle.std.specs.Prelude.{◌≡◌, ℕ, ◌+◌, ◌-◌, ◌≤◌, Bool, if◌then◌else◌, nat_le, List, ◌++◌, map, All}
use Rattle.ordup_rounds.specs.declared.window.Window.{Window}
use Rattle.ordup_rounds.specs.Schedules.{IsLimitTest}
use Rattle.ordup_rounds.specs.Rounds.{AreRoundPlaces}
use Rattle.ordup_rounds.specs.Fewest.{IsCertificate, AreFewest}

-- what a site had reported at a place of the whole, where the first epoch has n places: in the next one all of the first, and what
-- was reported there
abbrev pub joined_reports : ℕ → (ℕ → ℕ) → (ℕ → ℕ) → ℕ → ℕ
joined_reports n first next k = if nat_le k n then first k else n + next (k - n)

-- A test of limits of the whole is that of the first epoch on spans that end in it, and that of the next one on spans within that.
-- Nothing is said of spans from the first epoch into the next: no base is so early.
pub record JoinsTests (n : ℕ) (within first next : ℕ → ℕ → Bool) : Type 0 where
  pub before : (a b : ℕ) → b ≤ n → within a b ≡ first a b
  pub after : (a b : ℕ) → within (n + a) (n + b) ≡ next a b

-- places of the next epoch, as places of the whole
abbrev pub moved_places : ℕ → List ℕ → List ℕ
moved_places n places = map (λ k. n + k) places

-- and windows
abbrev pub moved_windows : ℕ → List Window → List Window
moved_windows n windows = map (λ w. record { from = n + w.from; to = n + w.to }) windows

-- a certificate of each epoch is one of the whole
abbrev pub CertificatesJoin : Type 0
CertificatesJoin =
    (n decided : ℕ) (within first next : ℕ → ℕ → Bool) (first_reports next_reports : ℕ → ℕ) →
    IsLimitTest within → JoinsTests n within first next →
    (rounds next_rounds : List ℕ) (windows next_windows : List Window) →
    IsCertificate first first_reports n rounds windows → IsCertificate next next_reports decided next_rounds next_windows →
    IsCertificate within (joined_reports n first_reports next_reports) (n + decided) (rounds ++ moved_places n next_rounds)
    (windows ++ moved_windows n next_windows)

-- and where the rounds of each epoch are the fewest, so are those of the whole
abbrev pub FewestRoundsJoin : Type 0
FewestRoundsJoin =
    (n decided : ℕ) (within first next : ℕ → ℕ → Bool) (first_reports next_reports : ℕ → ℕ) →
    IsLimitTest within → JoinsTests n within first next →
    (rounds next_rounds : List ℕ) (windows next_windows : List Window) →
    AreFewest first first_reports n rounds windows → AreFewest next next_reports decided next_rounds next_windows →
    AreFewest within (joined_reports n first_reports next_reports) (n + decided) (rounds ++ moved_places n next_rounds)
    (windows ++ moved_windows n next_windows)

-- a certificate of the whole is one of each epoch, whose rounds and windows are within it
abbrev pub CertificatesPart : Type 0
CertificatesPart =
    (n decided : ℕ) (within first next : ℕ → ℕ → Bool) (first_reports next_reports : ℕ → ℕ) →
    IsLimitTest within → IsLimitTest first → IsLimitTest next → JoinsTests n within first next →
    (rounds next_rounds : List ℕ) (windows next_windows : List Window) → AreRoundPlaces n rounds → AreRoundPlaces decided next_rounds →
    All (λ w. w.to ≤ n) windows → All (λ w. w.to ≤ decided) next_windows →
    IsCertificate within (joined_reports n first_reports next_reports) (n + decided) (rounds ++ moved_places n next_rounds)
    (windows ++ moved_windows n next_windows) →
    IsCertificate first first_reports n rounds windows × IsCertificate next next_reports decided next_rounds next_windows
