-- The least places from which spans pass no limit.
use Rattle.std.specs.Prelude.{◌≡◌, ℕ, ◌<◌, ◌+◌, Bool, true, false, List, length, slice_index, IfSome}
use Rattle.ordup_audit.specs.Records.{RecordState, is_within}
use Rattle.ordup_audit.specs.declared.least_starts.LeastStarts.{LeastStarts}

-- each span that begins before a and ends at b passes a limit, by a test of spans
abbrev pub PassesBefore : (ℕ → ℕ → Bool) → ℕ → ℕ → Type 0
PassesBefore test a b = (k : ℕ) → k < a → test k b ≡ false

-- a is the least place from which the span to b passes no limit
pub record IsLeastStart (test : ℕ → ℕ → Bool) (a b : ℕ) : Type 0 where
  pub before : PassesBefore test a b
  pub here : test a b ≡ true

-- the least starts of the places 0 to n - 1
pub record AreLeastStarts (test : ℕ → ℕ → Bool) (n : ℕ) (starts : List ℕ) : Type 0 where
  pub count : length starts ≡ n
  pub each : (b : ℕ) → b < n → IsLeastStart test (slice_index starts b) b

-- the starts, if they are there, are those of 0 and of each decided place
abbrev pub AreStartsOf : {A : Type 0} → RecordState → LeastStarts A → Type 0
AreStartsOf r least = IfSome least.starts (λ starts. AreLeastStarts (is_within r) (length r.sets + 1) starts.items)
