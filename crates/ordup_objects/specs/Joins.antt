-- Two histories, of which the next one begins at the end of the first.
use Rattle.std.specs.Prelude.{◌≡◌, ℕ, ◌+◌, ◌≤◌, length}
use Rattle.ordup_objects.specs.Serial.{History, serial, with_more, IsLegalHistory}
use Rattle.ordup_objects.specs.Weights.{object_span}

-- the next history begins with the values in which the first one ends
abbrev pub BeginsAtEnd : History → History → Type 0
BeginsAtEnd h next = next.start ≡ serial h (length h.sets)

-- both, one after the other
abbrev pub joined : History → History → History
joined h next = with_more h next.sets

-- both together are legal where each is
abbrev pub LegalHistoriesJoin : Type 0
LegalHistoriesJoin = (h next : History) → IsLegalHistory h → IsLegalHistory next → BeginsAtEnd h next → IsLegalHistory (joined h next)

-- after the first one's updates the serial results are those of the next one
abbrev pub SerialResultsJoin : Type 0
SerialResultsJoin = (h next : History) (j : ℕ) → BeginsAtEnd h next → serial (joined h next) (length h.sets + j) ≡ serial next j

-- and so is what spans within the next one weigh; a span across the join weighs what its two parts weigh
abbrev pub ObjectSpansJoin : Type 0
ObjectSpansJoin =
    (h next : History) (x a b : ℕ) → BeginsAtEnd h next →
    (object_span (joined h next) x (length h.sets + a) (length h.sets + b) ≡ object_span next x a b)
    × (a ≤ length h.sets → object_span (joined h next) x a (length h.sets + b) ≡ object_span h x a (length h.sets) + object_span next x 0 b)
