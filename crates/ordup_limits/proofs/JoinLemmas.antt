-- The test of limits joins as the weights of spans do.
use Rattle.std.proofs.Common.{◌≡◌, ℕ, ◌+◌, ◌-◌, [], ◌∷◌, length, arith, refl, ap, sym, ◌∙◌, inl, inr}
use Rattle.std.specs.Prelude.{nat_le}
use Rattle.std.proofs.lemmas.Bool.{cases_lt, le-leb, lt-leb}
use Rattle.ordup_objects.specs.Joins.{BeginsAtEnd, joined}
use Rattle.ordup_objects.specs.Serial.{History}
use Rattle.ordup_log.specs.Groups.{GroupList}
use Rattle.ordup_log.proofs.JoinLemmas.{spans_join}
use Rattle.ordup_limits.specs.Joins.{joined_limits, LimitsByPlaceAreTests, TestsJoin}
use Rattle.ordup_limits.specs.Limits.{Limits, keeps_limit, within}
use Rattle.ordup_limits.specs.declared.limit.Limit.{Limit}
use Rattle.ordup_limits.proofs.LimitLemmas.{within-empty, within-later, within-longer}

keeps_limit-joined : (h next : History) (groups : GroupList) (limit : Limit) (a b : ℕ) → BeginsAtEnd h next
    → keeps_limit (joined h next) groups (length h.sets + a) (length h.sets + b) limit ≡ keeps_limit next groups a b limit
keeps_limit-joined h next groups limit a b goes =
    ap (λ weight. nat_le weight limit.amount) (spans_join h next groups limit.scope a b goes).0

within-joined : (h next : History) (groups : GroupList) (limits : Limits) (a b : ℕ) → BeginsAtEnd h next
    → within (joined h next) groups limits (length h.sets + a) (length h.sets + b) ≡ within next groups limits a b
within-joined h next groups [] a b goes = refl
within-joined h next groups (limit ∷ limits) a b goes =
    rw (keeps_limit-joined h next groups limit a b goes, within-joined h next groups limits a b goes) refl

pub tests_join : TestsJoin
tests_join h next groups first_limits next_limits goes =
    let n = length h.sets in
    record {
      before = λ a b le. rw (le-leb b n le) (within-longer h next.sets groups (first_limits b) a b le);
      after = λ a b. elim (cases_lt 0 b) [
        | inl some ↦ (let here : n + b - n ≡ b = omega arith in
            rw (lt-leb (n + b) n (omega arith), here) (within-joined h next groups (next_limits b) a b goes))
        | inr none ↦
            within-empty (joined h next) groups (joined_limits n first_limits next_limits (n + b)) (n + a) (n + b) (omega arith)
            ∙ sym (within-empty next groups (next_limits b) a b (omega arith))
      ];
    }

pub limits_by_place_are_tests : LimitsByPlaceAreTests
limits_by_place_are_tests h groups limits = record {
  later = λ a b c le is. within-later h groups (limits c) a b c le is;
  empty = λ a b le. within-empty h groups (limits b) a b le;
}
