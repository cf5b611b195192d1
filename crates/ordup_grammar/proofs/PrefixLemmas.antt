-- Where a byte first stands among the first bytes of a text.
use Rattle.std.proofs.Common.{◌≡◌, ◌∙◌, ap, sym, inl, inr, ℕ, ◌+◌, ◌<◌, ◌≤◌, true, List, ◌++◌}
use Rattle.std.proofs.Common.{length, take, drop, get_or, length-take, arith}
use Rattle.std.specs.Prelude.{◌⊎◌, not, ◌==◌}
use Rattle.std.specs.List.{prefix_len, position_or_len}
use Rattle.std.specs.Str.{bytes_eq}
use Rattle.std.specs.Cmp.Lexicographic.{bytes_decides}
use Rattle.std.proofs.lemmas.Bool.{cases_lt}
use Rattle.std.proofs.lemmas.List.{get_or-take, take-append-drop}
use Rattle.std.proofs.lemmas.List.Sums.{position_or_len_is}
use Rattle.std.proofs.lemmas.Simd.{run_in_chunk_fails, run_in_chunk_stops}

-- the index of a byte in a prefix, by its index in the first sixteen bytes of the text
module _ (wanted : ℕ) (text : List ℕ) (len r m : ℕ) (within : len ≤ length text) (spare : 16 ≤ length text)
    (counted : r ≡ prefix_len (λ byte. not (byte == wanted)) (take 16 text)) where
  long : length (take len text) ≡ len
  long = omega (arith, length-take len text)

  start : 0 + r ≡ r
  start = omega arith

  stops : (r < 16) ⊎ (len ≤ 16) → r < len → ((get_or text r 0) == wanted) ≡ true
  stops (inl some) inside = rw start at (run_in_chunk_stops (λ byte. byte == wanted) text 0 16 r 0 spare counted some)
  stops (inr few) inside =
      rw start at (run_in_chunk_stops (λ byte. byte == wanted) text 0 16 r 0 spare counted (omega (arith, few, inside)))

  module _ (way : (r < 16) ⊎ (len ≤ 16)) (early : r ≤ len → m ≡ r) (late : len ≤ r → m ≡ len) where
    least : (m ≤ r) × (m ≤ len)
    least = elim (cases_lt r len) [
      | inl below ↦ (omega (arith, early (omega (arith, below))), omega (arith, below, early (omega (arith, below))))
      | inr past ↦ (omega (arith, past, late past), omega (arith, late past))
    ]

    stops_at : m < len → ((get_or (take len text) m 0) == wanted) ≡ true
    stops_at inside = elim (cases_lt r len) [
      | inl below ↦ (let is : m ≡ r = early (omega (arith, below)) in
          rw (get_or-take len text m 0 inside, is) (stops way below))
      | inr past ↦ absurd (omega (arith, inside, late past))
    ]

    pub index_in_prefix : position_or_len (λ byte. byte == wanted) (take len text) ≡ m
    index_in_prefix =
        position_or_len_is (λ byte. byte == wanted) (take len text) m 0 (omega (arith, long, least.1))
        (λ k below. rw (get_or-take len text k 0 (omega (arith, below, least.1)))
        (run_in_chunk_fails (λ byte. byte == wanted) text 0 16 r 0 spare counted k (omega arith) (omega (arith, below, least.0))))
        (λ inside. stops_at (omega (arith, long, inside)))

-- what stands behind a prefix in a text
pub behind_prefix : (prefix text : List ℕ) → bytes_eq (take (length prefix) text) prefix ≡ true
    → text ≡ prefix ++ drop (length prefix) text
behind_prefix prefix text begins =
    sym (take-append-drop (length prefix) text)
    ∙ ap (λ bytes. bytes ++ drop (length prefix) text) ((bytes_decides (take (length prefix) text) prefix).0 begins)
