-- What spans weigh where the next history begins at the end of the first.
use Rattle.std.specs.Prelude.{◌≡◌, ℕ, ◌+◌, ◌≤◌, length}
use Rattle.ordup_objects.specs.Joins.{BeginsAtEnd, joined}
use Rattle.ordup_objects.specs.Serial.{History}
use Rattle.ordup_log.specs.Groups.{GroupList}
use Rattle.ordup_log.specs.Spans.{span}
use Rattle.ordup_log.specs.declared.scope.Scope.{Scope}

-- on every scope a span within the next history weighs the same there, and one across the join what its two parts weigh
abbrev pub SpansJoin : Type 0
SpansJoin =
    (h next : History) (groups : GroupList) (s : Scope) (a b : ℕ) → BeginsAtEnd h next →
    (span (joined h next) groups s (length h.sets + a) (length h.sets + b) ≡ span next groups s a b)
    × (a ≤ length h.sets →
    span (joined h next) groups s a (length h.sets + b) ≡ span h groups s a (length h.sets) + span next groups s 0 b)
