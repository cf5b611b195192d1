-- What a set makes of the object of a condition, and which conditions a state meets.
use Rattle.std.proofs.Common.{◌≡◌, ◌∙◌, ℕ, ℤ, ◌+◌, zero, suc, ◌<◌, ◌≤◌, Bool, true, false, not, Option, Some, None}
use Rattle.std.proofs.Common.{List, [], ◌∷◌, length, get_or, take, arith, refl, sym, ap, subst, inl, inr}
use Rattle.std.specs.Prelude.{◌==◌, ◌≤ℤ◌, T, int_le, All, nat_lt, IfSome}
use Rattle.std.specs.Bool.{Decides}
use Rattle.std.specs.List.{find, list_all, position_or_len}
use Rattle.std.proofs.lemmas.Bool.{and_parts, cases_Bool, le-ltb, lt-ltb}
use Rattle.std.proofs.lemmas.Bool.Decides.{Decides-by_and, not_from_Decides}
use Rattle.std.proofs.lemmas.List.Elements.{All-more}
use Rattle.std.proofs.lemmas.Option.{slice_get_read}
use Rattle.ordup_objects.specs.declared.change.Change.{Change}
use Rattle.ordup_objects.specs.States.{State, value_at, result_at, after}
use Rattle.ordup_objects.specs.Repeats.{repeats}
use Rattle.ordup_objects.specs.Sets.{AreKnown, are_of_one_object}
use Rattle.ordup_objects.proofs.SetLemmas.{value_after, value_at-after}
use Rattle.ordup_conditions.specs.declared.condition.Bound.{Bound}
use Rattle.ordup_conditions.specs.declared.condition.Bound.TheVariants.{AtLeast, AtMost}
use Rattle.ordup_conditions.specs.declared.condition.Condition.{Condition}
use Rattle.ordup_conditions.specs.Conditions.{keeps_bound, is_met, first_unmet, KeepsBound, IsMet, AreMet, IsFirstUnmet}

-- the value of an object by the change that is found, or as it was
abbrev pub value_by : State → ℕ → Option Change → ℤ
value_by v x None = value_at v x
value_by v x (Some c) = result_at v c

value_after-found : (v : State) (m : List Change) (x : ℕ) → value_after v m x ≡ value_by v x (find (λ c. c.object == x) m)
value_after-found v [] x = refl
value_after-found v (c ∷ m) x = elim (cases_Bool (c.object == x)) [ inl e ↦ rw e refl | inr e ↦ rw e (value_after-found v m x) ]

-- the value of an object after a set is the result of the change that is found, or the value before
pub value_at-found : (v : State) (m : List Change) (x : ℕ) (found : Option Change) → repeats are_of_one_object m ≡ false
    → AreKnown (length v) m → found ≡ find (λ c. c.object == x) m → value_by v x found ≡ value_at (after m v) x
value_at-found v m x found distinct known e =
    ap (value_by v x) e ∙ sym (value_at-after v m x distinct known ∙ value_after-found v m x)

-- what holds of each change holds of the one that is found
pub IfSome-find : (P : Change → Type 0) (p : Change → Bool) (m : List Change) (found : Option Change) → All P m → found ≡ find p m
    → IfSome found P
IfSome-find P p m found all e = rw e (of_each m all)
  where
    of_each : (m : List Change) → All P m → IfSome (find p m) P
    of_each [] all = tt
    of_each (c ∷ m) all = elim (cases_Bool (p c)) [
      | inl e ↦ rw e (all 0 c (omega arith))
      | inr e ↦ rw e (of_each m (λ k d lt. all (suc k) d (omega (arith, lt))))
    ]

yes : (b : Bool) → T b → b ≡ true
yes true is = refl
yes false is = absurd is

Decides-int_le : (a b : ℤ) → Decides (int_le a b) (a ≤ℤ b)
Decides-int_le a b = (λ e. record { le = subst T (sym e) tt }, λ h. yes (int_le a b) h.le)

Decides-keeps_bound : (z : ℤ) (b : Bound) → Decides (keeps_bound z b) (KeepsBound z b)
Decides-keeps_bound z (AtLeast n) = Decides-int_le n z
Decides-keeps_bound z (AtMost n) = Decides-int_le z n

-- the test of a condition tells the fact
pub Decides-is_met : (v : State) (c : Condition) → Decides (is_met v c) (IsMet v c)
Decides-is_met v c = Decides-keeps_bound (value_at v c.object) c.bound

-- and so of several
Decides-AreMet : (v : State) (cs : List Condition) → Decides (list_all (is_met v) cs) (AreMet v cs)
Decides-AreMet v cs = Decides-by_and (is_met v) (IsMet v) (list_all (is_met v)) (Decides-is_met v) refl (λ _ _. refl) cs

none_unmet : (v : State) (cs : List Condition) → list_all (is_met v) cs ≡ true → length cs ≤ position_or_len (λ c. not (is_met v c)) cs
none_unmet v [] is = omega arith
none_unmet v (c ∷ cs) is =
    let both : is_met v c ≡ true × list_all (is_met v) cs ≡ true = and_parts _ _ is in
    rw both.0 (omega (arith, none_unmet v cs both.1))

-- where a state meets all conditions, none is the first unmet
pub first_unmet-none : (v : State) (cs : List Condition) → AreMet v cs → None ≡ first_unmet v cs
first_unmet-none v cs are =
    rw (le-ltb (position_or_len (λ c. not (is_met v c)) cs) (length cs) (none_unmet v cs ((Decides-AreMet v cs).1 are))) refl

unmet_at : (v : State) (cs : List Condition) (i : ℕ) (d : Condition) → i < length cs → list_all (is_met v) (take i cs) ≡ true
    → is_met v (get_or cs i d) ≡ false → position_or_len (λ c. not (is_met v c)) cs ≡ i
unmet_at v [] i d lt before unmet = absurd (omega arith)
unmet_at v (c ∷ cs) zero d lt before unmet = rw unmet refl
unmet_at v (c ∷ cs) (suc i) d lt before unmet =
    let both : is_met v c ≡ true × list_all (is_met v) (take i cs) ≡ true = and_parts _ _ before in
    rw both.0 (omega (arith, unmet_at v cs i d (omega arith) both.1 unmet))

-- the first that is not met, after such that are
pub first_unmet-at : (v : State) (cs : List Condition) (i : ℕ) (c : Condition) → i < length cs → c ≡ get_or cs i c
    → AreMet v (take i cs) → is_met v c ≡ false → Some i ≡ first_unmet v cs
first_unmet-at v cs i c lt is before unmet =
    let at = unmet_at v cs i c lt ((Decides-AreMet v (take i cs)).1 before) (ap (is_met v) (sym is) ∙ unmet) in
    let here : nat_lt (position_or_len (λ c. not (is_met v c)) cs) (length cs) ≡ true = rw at (lt-ltb i (length cs) lt) in
    rw (here, at) refl

-- the same as a fact
pub IsFirstUnmet-at : (v : State) (cs : List Condition) (i : ℕ) (c : Condition) → i < length cs → c ≡ get_or cs i c
    → AreMet v (take i cs) → is_met v c ≡ false → IsFirstUnmet v cs i
IsFirstUnmet-at v cs i c lt is before unmet = record {
  within = lt;
  unmet = rw (slice_get_read cs (length cs) i c refl lt is) (not_from_Decides (is_met v c) (Decides-is_met v c) unmet);
  before = before;
}

-- one more that is met
pub AreMet-more : (v : State) (cs : List Condition) (i : ℕ) (c : Condition) → i < length cs → c ≡ get_or cs i c
    → AreMet v (take i cs) → is_met v c ≡ true → AreMet v (take (i + 1) cs)
AreMet-more v cs i c lt is before met =
    let here : IsMet v (get_or cs i c) = (Decides-is_met v (get_or cs i c)).0 (ap (is_met v) (sym is) ∙ met) in
    All-more (IsMet v) cs i c lt before here
