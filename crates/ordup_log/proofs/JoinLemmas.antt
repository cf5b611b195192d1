-- What spans weigh where the next history begins at the end of the first.
use Rattle.std.proofs.Common.{◌≡◌, ℕ, ◌+◌, ◌-◌, length, arith, refl, ap, ◌∙◌}
use Rattle.std.specs.Prelude.{sum_by}
use Rattle.ordup_objects.specs.Joins.{BeginsAtEnd, joined}
use Rattle.ordup_objects.specs.Serial.{History}
use Rattle.ordup_objects.specs.Sums.{sum_from}
use Rattle.ordup_objects.proofs.JoinLemmas.{object_weight-joined, sum_from-moved, sum_from-across}
use Rattle.ordup_objects.proofs.SerialLemmas.{length-serial}
use Rattle.ordup_log.specs.Groups.{GroupList, members_at}
use Rattle.ordup_log.specs.Joins.{SpansJoin}
use Rattle.ordup_log.specs.Spans.{weight, span}
use Rattle.ordup_log.specs.declared.scope.Scope.{Scope}
use Rattle.ordup_log.specs.declared.scope.Scope.TheVariants.{Object, Group, All as Everything, Count}
use Rattle.ordup_log.proofs.SpanLemmas.{span-longer}

weight-joined : (h next : History) (groups : GroupList) (s : Scope) (j : ℕ) → BeginsAtEnd h next
    → weight (joined h next) groups s (length h.sets + j) ≡ weight next groups s j
weight-joined h next groups (Object x) j begins = object_weight-joined h next x j begins
weight-joined h next groups (Group g) j begins = ap (λ w. sum_by w (members_at groups g)) (λ i x. object_weight-joined h next x j begins i)
weight-joined h next groups Everything j begins =
    let objects : length next.start ≡ length h.start = ap length begins ∙ length-serial h (length h.sets) (omega arith) in
    rw objects (ap (λ w. sum_from w 0 (length h.start)) (λ i x. object_weight-joined h next x j begins i))
weight-joined h next groups Count j begins = refl

pub spans_join : SpansJoin
spans_join h next groups s a b begins =
    let n = length h.sets in
    let same : (j : ℕ) → weight (joined h next) groups s (n + j) ≡ weight next groups s j = λ j. weight-joined h next groups s j begins in
    let long : n + b - (n + a) ≡ b - a = omega arith in (
      rw long (sum_from-moved (weight (joined h next) groups s) (weight next groups s) n a (b - a) same),
      λ le. sum_from-across (weight (joined h next) groups s) (weight next groups s) n a b le same
          ∙ ap (λ w. w + span next groups s 0 b) (span-longer h next.sets groups s a n (omega arith)),
    )
