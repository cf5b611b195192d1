-- Message sets that grow, and why a change more is refused.
use Rattle.std.proofs.Common.{◌≡◌, ℕ, suc, ◌+◌, ◌≤◌, Bool, true, false, List}
use Rattle.std.proofs.Common.{[], ◌∷◌, ◌++◌, length, arith, refl, ◌∙◌}
use Rattle.std.specs.Prelude.{◌==◌, not, if◌then◌else◌, Some, None, IfSome, nat_lt, All}
use Rattle.std.specs.List.{list_all, list_any}
use Rattle.std.proofs.Math.Bool.{and-true}
use Rattle.std.proofs.lemmas.Bool.{and_from}
use Rattle.std.proofs.lemmas.Bool.Decides.{nat_tests}
use Rattle.std.proofs.lemmas.Cmp.{nat_eq_equiv}
use Rattle.std.proofs.lemmas.List.{length_push}
use Rattle.std.proofs.lemmas.List.Elements.{All-push}
use Rattle.std.proofs.lemmas.List.Folds.{list_all-append}
use Rattle.ordup_objects.specs.declared.change.Change.{Change}
use Rattle.ordup_objects.specs.declared.refusal.Refusal.TheVariants.{UnknownObject, OutOfRange, TooMany, Repeated}
use Rattle.ordup_objects.specs.Ops.{number_of, is_none_or}
use Rattle.ordup_objects.specs.Repeats.{repeats}
use Rattle.ordup_objects.specs.Sets.{is_known, are_known, are_in_range, are_of_one_object, set_refusal, IsKnown, AreKnown, IsSet}
use Rattle.ordup_objects.specs.Sizes.{most_changes}
use Rattle.ordup_objects.specs.States.{in_range, IsInRange}
use Rattle.ordup_objects.proofs.RepeatLemmas.{repeats-last, repeats-push, list_any-alike}

-- the last of a list decides where the others pass
list_all-last : {X : Type 0} (p : X → Bool) (xs : List X) (x : X) → list_all p xs ≡ true → list_all p (xs ++ x ∷ []) ≡ p x
list_all-last p xs x all = rw (list_all-append p xs (x ∷ []), all, and-true (p x)) refl

-- a test of all changes passes where each has the fact
list_all-from : (p : Change → Bool) (P : Change → Type 0) → ((c : Change) → P c → p c ≡ true) → (m : List Change) → All P m
    → list_all p m ≡ true
list_all-from p P is [] all = refl
list_all-from p P is (c ∷ m) all =
    and_from (p c) (list_all p m) (is c (all 0 c (omega arith))) (list_all-from p P is m (λ k d h. all (suc k) d (omega arith)))

is_known-true : (n : ℕ) (c : Change) → IsKnown n c → is_known n c ≡ true
is_known-true n c known = grind (arith, nat_tests)

has_number-true : (c : Change) → IfSome (number_of c.op) IsInRange → is_none_or (number_of c.op) in_range ≡ true
has_number-true c number = grind (arith, nat_tests)

-- a change of the object of another is one the other way round
is_changed-flip : (m : List Change) (c : Change) → list_any (λ d. c.object == d.object) m ≡ list_any (λ d. d.object == c.object) m
is_changed-flip m c =
    list_any-alike (λ d. c.object == d.object) (λ d. d.object == c.object) (λ d. nat_eq_equiv.symm c.object d.object) m

-- why a message set with a change more is refused, if it is: the change decides, and whether the set changes its object
pub set_refusal-last : (n : ℕ) (m : List Change) (c : Change) → AreKnown n m → IsSet m → set_refusal n (m ++ c ∷ []) ≡ (
    if not (is_known n c) then Some UnknownObject else
    if not (is_none_or (number_of c.op) in_range) then Some OutOfRange else
    if length m == most_changes then Some TooMany else
    if list_any (λ d. d.object == c.object) m then Some Repeated else None)
set_refusal-last n m c known is =
    let objects : are_known n (m ++ c ∷ []) ≡ is_known n c =
    list_all-last (is_known n) m c (list_all-from (is_known n) (IsKnown n) (is_known-true n) m known) in
    let numbers : are_in_range (m ++ c ∷ []) ≡ is_none_or (number_of c.op) in_range =
    list_all-last (λ d. is_none_or (number_of d.op) in_range) m c
    (list_all-from (λ d. is_none_or (number_of d.op) in_range) (λ d. IfSome (number_of d.op) IsInRange) has_number-true m is.numbers) in
    let count : length (m ++ c ∷ []) ≡ length m + 1 = length_push m c in
    let few : length m ≤ most_changes = is.few in
    let spare : nat_lt most_changes (length (m ++ c ∷ [])) ≡ (length m == most_changes) = grind (arith, nat_tests) in
    let some : (length (m ++ c ∷ []) == 0) ≡ false = grind (arith, nat_tests) in
    let distinct : repeats are_of_one_object (m ++ c ∷ []) ≡ list_any (λ d. d.object == c.object) m =
    repeats-last are_of_one_object m c is.distinct ∙ is_changed-flip m c in
    rw (objects, numbers, spare, some, distinct) refl

has_number-fact : (c : Change) → is_none_or (number_of c.op) in_range ≡ true → IfSome (number_of c.op) IsInRange
has_number-fact c number = grind (arith, nat_tests)

-- a message set stays one by a change that is not refused
pub IsSet-push : (m : List Change) (c : Change) → IsSet m → is_none_or (number_of c.op) in_range ≡ true
    → (length m == most_changes) ≡ false → list_any (λ d. d.object == c.object) m ≡ false → IsSet (m ++ c ∷ [])
IsSet-push m c is number spare none =
    let count : length (m ++ c ∷ []) ≡ length m + 1 = length_push m c in
    let few : length m ≤ most_changes = is.few in
    record {
      some = omega arith;
      few = grind (arith, nat_tests);
      numbers = All-push (λ d. IfSome (number_of d.op) IsInRange) m c is.numbers (has_number-fact c number);
      distinct = repeats-push are_of_one_object m c is.distinct (is_changed-flip m c ∙ none);
    }
