-- Rows that the code does not take, or takes by what their columns mean.
use Rattle.ordup_audit.proofs.Common.{◌++◌, ◌+◌, ◌==◌, ◌∙◌, ◌∷◌, ◌≡◌, [], ap, are_in_range, are_known, Bool, cases_Bool}
use Rattle.ordup_audit.proofs.Common.{Change, Err, false, group_refusal, GroupList, IfOk, if◌then◌else◌, in_range, inl, inr}
use Rattle.ordup_audit.proofs.Common.{arith, Entries, false≢true, is_name, is_none, is_none_or, is_some, IsRefusal, last_members, length, length_push, List, lt-ltb, suc}
use Rattle.ordup_audit.proofs.Common.{member_refusal, most_objects, nat_lt, nil_from_length, None, not, NumberOp, object_refusal, Objects}
use Rattle.ordup_audit.proofs.Common.{index_of, Ok, Op, op_with, Option, option_and_then, option_map, RecordState, refl, Result}
use Rattle.ordup_audit.proofs.Common.{set_refusal, Some, sym, Take, then_some, true, ℕ, ℤ}
use Rattle.std.proofs.Common.{◌≢◌, ◌&&◌}
use Rattle.std.proofs.Math.Bool.{and-false}
use Rattle.std.proofs.lemmas.Bool.{le-ltb}
use Rattle.ordup_limits.specs.Entries.{are_one_entry, changed}
use Rattle.ordup_limits.specs.declared.limit_entry.LimitEntry.{LimitEntry}
use Rattle.ordup_grammar.specs.ChangeWords.{change_of}
use Rattle.ordup_grammar.specs.Numbers.{number_of}
use Rattle.ordup_grammar.specs.declared.change_words.ChangeWord.{ChangeWord}
use Rattle.ordup_objects.specs.declared.change.NumberOp.TheVariants.{Add}
use Rattle.ordup_grammar.specs.declared.change_words.Operation.{Operation}
use Rattle.ordup_grammar.specs.declared.change_words.Operation.TheVariants as word
use Rattle.ordup_objects.specs.Ops as ops
use Rattle.ordup_objects.specs.declared.refusal.Refusal.{Refusal}
use Rattle.ordup_objects.specs.declared.refusal.Refusal.TheVariants.{BadName, NameTaken, OutOfRange, TooMany, UnknownObject, NoMemory}
use Rattle.ordup_check.specs.ColumnViews.{change_in_range, op_in_range, sound_change, value_of}
use Rattle.ordup_rows.specs.Columns.{Columns, change_by, change_in, op_in, writes}
use Rattle.ordup_audit.specs.Rows.{member_count}
use Rattle.ordup_rows.specs.Stages.{has_entry, is_before_limits, is_last_group, membership_refusal}
use Rattle.ordup_rows.specs.Stages.{with_member_row, with_membership, is_before_members, is_before_reports, last_set}
use Rattle.ordup_rows.specs.Stages.{with_any_change, with_change_row, with_object, with_value}
use Rattle.ordup_rows.proofs.Columns.{kept}
use Rattle.ordup_rows.proofs.RecordsSoFar.{changed-last}

-- what is refused is not taken
pub refused_row : {X E : Type 0} (result : Result Bool E) (o : Option Refusal) (e : Refusal) (allowed : Bool) (old next : X)
    → IfOk result (λ taken. (taken ≡ false) × (e ≢ NoMemory)) → IsRefusal o e
    → IfOk result (λ taken. then_some taken old ≡ then_some (allowed && is_none o) next)
refused_row (Err x) o e allowed old next h is = tt
refused_row (Ok taken) None e allowed old next h is = absurd (h.1 is)
refused_row (Ok taken) (Some r) e allowed old next h is = rw (h.0, and-false allowed) refl

not_kept : {X : Type 0} (b : Bool) (x : X) → then_some b x ≡ None → b ≡ false
not_kept false x e = refl
not_kept true x e = absurd cc

lost : {X : Type 0} (allowed b : Bool) (x : X) → b ≡ false → then_some (allowed && b) x ≡ None
lost allowed b x e = rw (e, and-false allowed) refl

early : {X : Type 0} (a b d : Bool) (x : X) → b ≡ false → then_some (a && b && d) x ≡ None
early a b d x e = rw (e, and-false a) refl

-- ---- values

third_test : (a b c : Bool) (x y z : Refusal) (rest : Option Refusal) → c ≡ false
    → is_none (if not a then Some x else if b then Some y else if not c then Some z else rest) ≡ false
third_test false b c x y z rest e = refl
third_test true true c x y z rest e = refl
third_test true false c x y z rest e = rw e refl

-- an object of a value out of range is refused
far_object : (r : RecordState) (c : Columns) (z : ℤ) → in_range z ≡ false → with_value r c z ≡ None
far_object r c z far =
    lost (is_before_members r && writes c.first (length r.objects + 1)) (is_none (object_refusal r.objects c.second z)) _
    (third_test (is_name c.second) (is_some (index_of c.second r.objects)) (in_range z) BadName NameTaken OutOfRange
    (if length r.objects == most_objects then Some TooMany else None) far)

-- what comes of a value, where the value counts only if it passes a test
module _ {A B : Type 0} (p : A → Bool) (f : A → Option B) where
  none_by : ((x : A) → p x ≡ false → f x ≡ None) → (o : Option A) → option_and_then (λ x. then_some (p x) x) o ≡ None
      → option_and_then f o ≡ None
  none_by far None e = refl
  none_by far (Some x) e = far x (not_kept (p x) x e)

  some_by : (o : Option A) (y : A) → option_and_then (λ x. then_some (p x) x) o ≡ Some y → f y ≡ option_and_then f o
  some_by None y e = absurd cc
  some_by (Some x) y e = ap f (sym (kept (p x) x y e).1)

pub no_object : (r : RecordState) (c : Columns) → value_of c.third ≡ None → None ≡ with_object r c
no_object r c e = sym (none_by in_range (with_value r c) (far_object r c) (number_of c.third) e)

pub object_with : (r : RecordState) (c : Columns) (v : ℤ) → value_of c.third ≡ Some v → with_value r c v ≡ with_object r c
object_with r c v e = some_by in_range (with_value r c) (number_of c.third) v e

-- ---- changes

-- a change, where its number is in range
abbrev is_within : Change → Bool
is_within c = is_none_or (ops.number_of c.op) in_range

abbrev within : Change → Option Change
within c = then_some (is_within c) c

number_within : (x : ℕ) (op : NumberOp) (n : ℤ) (b : Bool) → in_range n ≡ b
    → option_and_then (λ (o : Op). Some (record { object = x; op = o })) (option_map (op_with op) (then_some b n))
    ≡ within (record { object = x; op = op_with op n })
number_within x Add n true e = rw e refl
number_within x _ n true e = rw e refl
number_within x Add n false e = rw e refl
number_within x _ n false e = rw e refl

take_within : (x : ℕ) (place : Option ℕ)
    → option_and_then (λ (o : Op). Some (record { object = x; op = o })) (option_map (λ y. Take y) place)
    ≡ option_and_then within (option_and_then (λ (o : Op). Some (record { object = x; op = o })) (option_map (λ y. Take y) place))
take_within x None = refl
take_within x (Some y) = refl

op_within : (objects : Objects) (x : ℕ) (o : Operation)
    → option_and_then (λ (o : Op). Some (record { object = x; op = o })) (op_in_range objects o)
    ≡ option_and_then within (option_and_then (λ (o : Op). Some (record { object = x; op = o })) (op_in objects o))
op_within objects x (word.WithNumber op n) = number_within x op n (in_range n) refl
op_within objects x (word.Take y) = take_within x (index_of y objects)

word_within : (objects : Objects) (w : ChangeWord) (place : Option ℕ)
    → option_and_then (λ x. option_and_then (λ (o : Op). Some (record { object = x; op = o })) (op_in_range objects w.operation)) place
    ≡ option_and_then within (option_and_then (λ x. option_and_then (λ (o : Op). Some (record { object = x; op = o }))
    (op_in objects w.operation)) place)
word_within objects w None = refl
word_within objects w (Some x) = op_within objects x w.operation

change_within : (objects : Objects) (o : Option ChangeWord) → option_and_then (sound_change objects) o
    ≡ option_and_then within (option_and_then (change_in objects) o)
change_within objects None = refl
change_within objects (Some w) = word_within objects w (index_of w.object objects)

far_last : (m : List Change) (c : Change) → is_none_or (ops.number_of c.op) in_range ≡ false → are_in_range (m ++ c ∷ []) ≡ false
far_last [] c e = rw e refl
far_last (d ∷ m) c e = rw (far_last m c e) (and-false _)

-- a set with a change whose number is out of range is refused
far_set : (n : ℕ) (m : List Change) (c : Change) → is_none_or (ops.number_of c.op) in_range ≡ false
    → is_none (set_refusal n (m ++ c ∷ [])) ≡ false
far_set n m c e =
    third_test (are_known n (m ++ c ∷ [])) false (are_in_range (m ++ c ∷ [])) UnknownObject NoMemory OutOfRange _ (far_last m c e)

far_change : (d : ℕ) (r : RecordState) (c : Columns) (change : Change) → is_none_or (ops.number_of change.op) in_range ≡ false
    → with_any_change d r c change ≡ None
far_change d r c change far = elim (cases_Bool (writes c.second 1)) [
  | inl first ↦ (rw first (lost (is_before_reports r && nat_lt (length r.sets) d && writes c.first (length r.sets + 1))
      (is_none (set_refusal (length r.objects) (change ∷ []))) _ (far_set (length r.objects) [] change far)))
  | inr next ↦ (rw next (lost (is_before_reports r && writes c.first (length r.sets) && writes c.second (length (last_set r.sets) + 1))
      (is_none (set_refusal (length r.objects) (last_set r.sets ++ change ∷ []))) _
      (far_set (length r.objects) (last_set r.sets) change far)))
]

pub no_change : (d : ℕ) (r : RecordState) (c : Columns) → change_in_range r.objects c.third ≡ None → None ≡ with_change_row d r c
no_change d r c e =
    sym (none_by is_within (with_any_change d r c) (far_change d r c) (change_by r.objects c.third)
    (sym (change_within r.objects (change_of c.third)) ∙ e))

pub change_with : (d : ℕ) (r : RecordState) (c : Columns) (change : Change) → change_in_range r.objects c.third ≡ Some change
    → with_any_change d r c change ≡ with_change_row d r c
change_with d r c change e =
    some_by is_within (with_any_change d r c) (change_by r.objects c.third) change
    (sym (change_within r.objects (change_of c.third)) ∙ e)

-- without an update there is none to be gone on with
pub no_next_change : (d : ℕ) (r : RecordState) (c : Columns) (change : Change) → writes c.second 1 ≡ false → length r.sets ≡ 0
    → None ≡ with_any_change d r c change
no_next_change d r c change other none =
    let empty : r.sets ≡ [] = nil_from_length r.sets none in
    let size : writes c.second (length (last_set r.sets) + 1) ≡ false = rw empty other in
    sym (rw other (early (is_before_reports r && writes c.first (length r.sets)) (writes c.second (length (last_set r.sets) + 1))
    (is_none (set_refusal (length r.objects) (last_set r.sets ++ change ∷ []))) _ size))

-- what becomes of a clause about a result where the other side is the same
pub ok_by : {X E : Type 0} (result : Result Bool E) (x : X) (a b : Option X) → IfOk result (λ taken. then_some taken x ≡ a) → a ≡ b
    → IfOk result (λ taken. then_some taken x ≡ b)
ok_by (Err e) x a b h same = tt
ok_by (Ok taken) x a b h same = h ∙ same

-- ---- rows whose columns have a meaning

pub member_by : (r : RecordState) (c : Columns) (x : ℕ) → index_of c.third r.objects ≡ Some x
    → then_some (is_before_limits r && writes c.first (member_count r.groups + 1) && is_none
    (membership_refusal (length r.objects) r.groups c.second x))
    (record r { groups = with_membership r.groups c.second x })
    ≡ with_member_row r c
member_by r c x e = rw e refl

pub refused_last : (n : ℕ) (groups : GroupList) (name : List ℕ) (x : ℕ) (e : Refusal) → is_last_group groups name ≡ true
    → IsRefusal (member_refusal n (last_members groups) x) e → IsRefusal (membership_refusal n groups name x) e
refused_last n groups name x e last h = rw last h

pub refused_new : (n : ℕ) (groups : GroupList) (name : List ℕ) (x : ℕ) (e : Refusal) → is_last_group groups name ≡ false
    → IsRefusal (group_refusal n groups name (x ∷ [])) e → IsRefusal (membership_refusal n groups name x) e
refused_new n groups name x e other h = rw other h

-- ---- limits

-- a limit that takes the place of another adds none
kept_length : (limits : Entries) (e : LimitEntry) → has_entry limits e ≡ true → length (changed limits e) ≡ length limits
kept_length [] e has = absurd (false≢true has)
kept_length (f ∷ limits) e has = elim (cases_Bool (are_one_entry f e)) [
  | inl one ↦ rw one refl
  | inr other ↦ (let rest : has_entry limits e ≡ true = rw other at has in rw other (ap suc (kept_length limits e rest)))
]

-- a limit was added where there are more than before, and else it was one of a scope and place that were there
pub entry_added : {X : Type 0} (limits : Entries) (e : LimitEntry) (count : ℕ) (q : Entries → X) (o : Option Refusal) → o ≡ None
    → count ≡ length limits
    → then_some (nat_lt count (length (changed limits e))) (q (changed limits e))
    ≡ then_some (not (has_entry limits e) && is_none o) (q (limits ++ e ∷ []))
entry_added limits e count q o free is = elim (cases_Bool (has_entry limits e)) [
  | inl has ↦ (let same : nat_lt count (length (changed limits e)) ≡ false =
      le-ltb count (length (changed limits e)) (omega (arith, kept_length limits e has, is)) in
      rw (has, same) refl)
  | inr new ↦ (let last = changed-last limits e new in
      let more : nat_lt count (length (limits ++ e ∷ [])) ≡ true = lt-ltb count (length (limits ++ e ∷ [])) (omega (arith, length_push limits e, is)) in
      rw (new, last, more, free) refl)
]
