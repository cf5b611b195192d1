-- A set with the nearest numbers is refused as the set is, and is the set where it is accepted.
use Rattle.std.proofs.Common.{
  ◌≡◌,
  ◌∙◌,
  sym,
  refl,
  ap,
  ℕ,
  ◌<◌,
  ◌≤◌,
  ℤ,
  Bool,
  true,
  ◌==◌,
  List,
  [],
  ◌∷◌,
  length,
  Option,
  Some,
  None,
  inl,
  inr,
  arith,
}
use Rattle.std.specs.Prelude.{pos, negsuc, unsigned_abs, Result, Ok, Err, IfOk, IfErr}
use Rattle.std.specs.List.{list_any}
use Rattle.std.proofs.lemmas.Bool.{cases_Bool, cases_lt, leb-true, lt-leb}
use Rattle.std.proofs.lemmas.List.{length-map}
use Rattle.ordup_objects.specs.declared.change.Change.{Change}
use Rattle.ordup_objects.specs.declared.refusal.Refusal.{Refusal}
use Rattle.ordup_objects.specs.declared.refusal.Refusal.TheVariants.{OutOfRange, UnknownObject}
use Rattle.ordup_objects.specs.States.{in_range}
use Rattle.ordup_objects.specs.Sets.{set_refusal, are_known, are_in_range, are_of_one_object}
use Rattle.ordup_objects.specs.Ops.{number_of, op_with, source_of, is_none_or}
use Rattle.ordup_objects.specs.Repeats.{repeats}
use Rattle.ordup_grammar.specs.declared.change_words.ChangeWord.{ChangeWord}
use Rattle.ordup_objects.specs.declared.change.NumberOp.{NumberOp}
use Rattle.ordup_objects.specs.declared.change.NumberOp.TheVariants.{Add}
use Rattle.ordup_grammar.specs.declared.change_words.Operation.{Operation}
use Rattle.ordup_grammar.specs.declared.change_words.Operation.TheVariants.{WithNumber, Take}
use Rattle.ordup_answers.specs.Changes.{op_in, change_in, changes_in, set_in}
use Rattle.ordup_answers.specs.NearestNumbers.{nearest, nearest_operation, nearest_change, nearest_changes}
use Rattle.ordup_answers.specs.Refusals.{Gives}

-- ---- numbers

nearest-exact : (z : ℤ) → unsigned_abs z ≤ 1000000000 → nearest z ≡ z
nearest-exact (pos n) close = ap pos (omega arith)
nearest-exact (negsuc n) close = ap negsuc (omega arith)

nearest-far : (z : ℤ) → 1000000000 < unsigned_abs z → 1000000000 < unsigned_abs (nearest z)
nearest-far (pos n) far = omega arith
nearest-far (negsuc n) far = omega arith

pub in_range-nearest : (z : ℤ) → in_range (nearest z) ≡ in_range z
in_range-nearest z = elim (cases_lt 1000000000 (unsigned_abs z)) [
  | inl out ↦
      lt-leb (unsigned_abs (nearest z)) 1000000000 (nearest-far z out) ∙ sym (lt-leb (unsigned_abs z) 1000000000 out)
  | inr within ↦ ap in_range (nearest-exact z within)
]

-- what is in range is its own nearest number
nearest-in_range : (z : ℤ) → in_range z ≡ true → nearest z ≡ z
nearest-in_range z within = nearest-exact z (omega (arith, leb-true (unsigned_abs z) 1000000000 within))

-- ---- operations with a number

number_of-op_with : (kind : NumberOp) (z : ℤ) → number_of (op_with kind z) ≡ Some z
number_of-op_with Add z = refl
number_of-op_with _ z = refl

-- such an operation reads no object but its own
source_of-op_with : (kind : NumberOp) (z : ℤ) → source_of (op_with kind z) ≡ None
source_of-op_with Add z = refl
source_of-op_with _ z = refl

-- ---- sets

module _ (objects : List (List ℕ × ℤ)) where
  source_of-nearest : (o : Operation) → source_of (op_in objects (nearest_operation o)) ≡ source_of (op_in objects o)
  source_of-nearest (WithNumber kind z) = source_of-op_with kind (nearest z) ∙ sym (source_of-op_with kind z)
  source_of-nearest (Take y) = refl

  -- the number of an operation, if it has one, is in range
  abbrev is_in_range : Operation → Bool
  is_in_range o = is_none_or (number_of (op_in objects o)) in_range

  is_in_range-nearest : (o : Operation) → is_in_range (nearest_operation o) ≡ is_in_range o
  is_in_range-nearest (WithNumber kind z) = rw (number_of-op_with kind (nearest z), number_of-op_with kind z) (in_range-nearest z)
  is_in_range-nearest (Take y) = refl

  are_known-nearest : (n : ℕ) (m : List ChangeWord) →
      are_known n (changes_in objects (nearest_changes m)) ≡ are_known n (changes_in objects m)
  are_known-nearest n [] = refl
  are_known-nearest n (c ∷ m) = rw (source_of-nearest c.operation, are_known-nearest n m) refl

  -- each number is in range
  abbrev are_within : List ChangeWord → Bool
  are_within m = are_in_range (changes_in objects m)

  are_within-nearest : (m : List ChangeWord) → are_within (nearest_changes m) ≡ are_within m
  are_within-nearest [] = refl
  are_within-nearest (c ∷ m) = rw (is_in_range-nearest c.operation, are_within-nearest m) refl

  -- an object is changed
  abbrev is_changed : ℕ → List ChangeWord → Bool
  is_changed x m = list_any (λ (d : Change). d.object == x) (changes_in objects m)

  is_changed-nearest : (x : ℕ) (m : List ChangeWord) → is_changed x (nearest_changes m) ≡ is_changed x m
  is_changed-nearest x [] = refl
  is_changed-nearest x (c ∷ m) = rw (is_changed-nearest x m) refl

  repeats-nearest : (m : List ChangeWord)
      → repeats are_of_one_object (changes_in objects (nearest_changes m)) ≡ repeats are_of_one_object (changes_in objects m)
  repeats-nearest [] = refl
  repeats-nearest (c ∷ m) = rw (is_changed-nearest (change_in objects c).object m, repeats-nearest m) refl

  -- why changes are no message set
  abbrev refusal_of : List ChangeWord → Option Refusal
  refusal_of m = set_refusal (length objects) (changes_in objects m)

  set_refusal-nearest : (m : List ChangeWord) → refusal_of (nearest_changes m) ≡ refusal_of m
  set_refusal-nearest m =
      let lengths : length (changes_in objects (nearest_changes m)) ≡ length (changes_in objects m) = simp length-map in
      rw (are_known-nearest (length objects) m, are_within-nearest m, lengths, repeats-nearest m) refl

  -- ---- what is accepted

  nearest_operation-in_range : (o : Operation) → is_in_range o ≡ true → nearest_operation o ≡ o
  nearest_operation-in_range (WithNumber kind z) within =
      ap (λ n. WithNumber kind n) (nearest-in_range z (rw (number_of-op_with kind z) at within))
  nearest_operation-in_range (Take y) within = refl

  nearest_change-in_range : (c : ChangeWord) → is_in_range c.operation ≡ true → nearest_change c ≡ c
  nearest_change-in_range c within =
      let with : Operation → ChangeWord = λ o. record { object = c.object; operation = o } in
      ap with (nearest_operation-in_range c.operation within)

  nearest_changes-in_range : (m : List ChangeWord) → are_within m ≡ true → nearest_changes m ≡ m
  nearest_changes-in_range [] within = refl
  nearest_changes-in_range (c ∷ m) within = elim (cases_Bool (is_in_range c.operation)) [
    | inl here ↦ rw (nearest_change-in_range c here, nearest_changes-in_range m (rw here at within)) refl
    | inr out ↦ absurd (let e = rw out at within in cc)
  ]

  are_within-allowed : (m : List ChangeWord) → refusal_of m ≡ None → are_within m ≡ true
  are_within-allowed m allowed = elim (cases_Bool (are_within m)) [
    | inl within ↦ within
    | inr out ↦ elim (cases_Bool (are_known (length objects) (changes_in objects m))) [
      | inl known ↦ absurd (let refused : refusal_of m ≡ Some OutOfRange = rw (known, out) refl in cc)
      | inr unknown ↦ absurd (let refused : refusal_of m ≡ Some UnknownObject = rw unknown refl in cc)
    ]
  ]

  -- ---- the set that is made of the nearest numbers

  pub set_made : (r : Result (List Change) Refusal) (m : List ChangeWord) (items : List Change)
      → items ≡ changes_in objects (nearest_changes m) → IfOk r (λ set. set ≡ items)
      → IfOk r (λ _. set_refusal (length objects) items ≡ None) → IfErr r (λ e. set_refusal (length objects) items ≡ Some e)
      → Gives (set_in objects m) r
  set_made (Ok set) m items is made allowed refused =
      let fine : refusal_of m ≡ None = sym (set_refusal-nearest m) ∙ ap (set_refusal (length objects)) (sym is) ∙ allowed in
      let same : changes_in objects m ≡ set =
      ap (changes_in objects) (sym (nearest_changes-in_range m (are_within-allowed m fine))) ∙ sym is ∙ sym made in
      rw (fine, same) refl
  set_made (Err e) m items is made allowed refused =
      let same : refusal_of m ≡ Some e = sym (set_refusal-nearest m) ∙ ap (set_refusal (length objects)) (sym is) ∙ refused in
      inl (rw same refl)
