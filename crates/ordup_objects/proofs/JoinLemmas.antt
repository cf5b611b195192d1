-- Two histories, of which the next one begins at the end of the first.
use Rattle.std.proofs.Common.{◌≡◌, ℕ, zero, suc, ◌+◌, ◌-◌, ◌≤◌, true, [], ◌++◌}
use Rattle.std.proofs.Common.{length, get_or, arith, refl, ap, ◌∙◌, inl, inr}
use Rattle.std.proofs.Math.ListN.{get_or-append}
use Rattle.std.proofs.Math.Seq.{take-append-add, take-length}
use Rattle.std.proofs.lemmas.Bool.{cases_lt}
use Rattle.std.proofs.lemmas.List.{get_or-append-add, length-append}
use Rattle.std.proofs.lemmas.List.Elements.{All-append}
use Rattle.std.proofs.lemmas.List.Sums.{fold-append}
use Rattle.ordup_objects.specs.States.{is_legal}
use Rattle.ordup_objects.specs.Sets.{IsSet, AreKnown}
use Rattle.ordup_objects.specs.Sums.{sum_from}
use Rattle.ordup_objects.specs.Serial.{History, serial}
use Rattle.ordup_objects.specs.Weights.{object_weight, object_span}
use Rattle.ordup_objects.specs.Joins.{BeginsAtEnd, joined, LegalHistoriesJoin, SerialResultsJoin, ObjectSpansJoin}
use Rattle.ordup_objects.proofs.SerialLemmas.{length-serial, serial-longer}
use Rattle.ordup_objects.proofs.SpanLemmas.{object_span-longer}
use Rattle.ordup_objects.proofs.SumLemmas.{sum_from-add}

pub serial_results_join : SerialResultsJoin
serial_results_join h next j begins = rw (take-append-add h.sets next.sets j, fold-append, begins, take-length h.sets) refl

-- sums of the same numbers, n places on
pub sum_from-moved : (f g : ℕ → ℕ) (n a m : ℕ) → ((j : ℕ) → f (n + j) ≡ g j) → sum_from f (n + a) m ≡ sum_from g a m
sum_from-moved f g n a zero same = refl
sum_from-moved f g n a (suc m) same =
    let place : n + a + m ≡ n + (a + m) = omega arith in
    omega (arith, sum_from-moved f g n a m same, ap f place, same (a + m))

-- a span across a join, of weights that are the next one's from there on
pub sum_from-across : (f g : ℕ → ℕ) (n a b : ℕ) → a ≤ n → ((j : ℕ) → f (n + j) ≡ g j)
    → sum_from f a (n + b - a) ≡ sum_from f a (n - a) + sum_from g 0 (b - 0)
sum_from-across f g n a b le same =
    let parts : n + b - a ≡ (n - a) + b = omega arith in
    let place : a + (n - a) ≡ n + 0 = omega arith in
    let all : b - 0 ≡ b = omega arith in
    rw (parts, all, sum_from-add f a (n - a) b, place, sum_from-moved f g n 0 b same) refl

pub object_weight-joined : (h next : History) (x j : ℕ) → BeginsAtEnd h next
    → object_weight (joined h next) x (length h.sets + j) ≡ object_weight next x j
object_weight-joined h next x j begins =
    let step : suc (length h.sets + j) ≡ length h.sets + suc j = omega arith in
    rw (step, serial_results_join h next (suc j) begins, serial_results_join h next j begins) refl

pub object_spans_join : ObjectSpansJoin
object_spans_join h next x a b begins =
    let n = length h.sets in
    let same : (j : ℕ) → object_weight (joined h next) x (n + j) ≡ object_weight next x j = λ j. object_weight-joined h next x j begins in
    let long : n + b - (n + a) ≡ b - a = omega arith in (
      rw long (sum_from-moved (object_weight (joined h next) x) (object_weight next x) n a (b - a) same),
      λ le. sum_from-across (object_weight (joined h next) x) (object_weight next x) n a b le same
          ∙ ap (λ w. w + object_span next x 0 b) (object_span-longer h next.sets x a n (omega arith)),
    )

pub legal_histories_join : LegalHistoriesJoin
legal_histories_join h next one two begins =
    let n = length h.sets in
    let objects : length next.start ≡ length h.start = ap length begins ∙ length-serial h n (omega arith) in
    record {
      start = one.start;
      sets = All-append IsSet h.sets next.sets one.sets two.sets;
      known = All-append (AreKnown (length h.start)) h.sets next.sets one.known (rw objects at two.known);
      legal = λ k lt. elim (cases_lt k n) [
        | inl before ↦ rw (get_or-append h.sets next.sets [] k before, serial-longer h next.sets k (omega arith)) (one.legal k before)
        | inr past ↦ (
            let place : n + (k - n) ≡ k = omega arith in
            let there : is_legal (get_or (h.sets ++ next.sets) (n + (k - n)) []) (serial (joined h next) (n + (k - n))) ≡ true =
            rw (get_or-append-add h.sets next.sets (k - n) [], serial_results_join h next (k - n) begins)
            (two.legal (k - n) (omega (arith, length-append h.sets next.sets))) in
            rw place at there)
      ];
    }
