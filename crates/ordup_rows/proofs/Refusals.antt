-- What is not refused, by what is so of it.
use Rattle.ordup_audit.proofs.Common.{◌<◌, ◌==◌, ◌||◌, ◌∙◌, ◌∷◌, ◌≡◌, ◌≤◌, [], All-cons, All-nil, and_from, and_parts, are_in_range}
use Rattle.ordup_audit.proofs.Common.{are_known, are_of_one_object, AreKnown, AreMembersKnown, arith, Bool, Change, Count, Everything}
use Rattle.ordup_audit.proofs.Common.{false, greatest_amount, Group, group_refusal, GroupList, IfSome, if◌then◌else◌, in_range, is_name}
use Rattle.ordup_audit.proofs.Common.{is_none, is_none_or, is_some, IsGroup, IsInRange, IsKnown, IsScopeKnown, IsSet, le-leb, leb-true}
use Rattle.ordup_audit.proofs.Common.{◌+◌, Entries, length, List, list_all, list_any, lt-ltb, ltb-true, member_refusal, nat_le}
use Rattle.ordup_audit.proofs.Common.{most_changes, most_groups, most_members, most_objects, nat_eq, nat_lt, nat_tests, None}
use Rattle.ordup_audit.proofs.Common.{index_of, not, Object, object_refusal, Objects, Option, or_parts, refl, repeats, Scope, set_refusal}
use Rattle.ordup_audit.proofs.Common.{Some, source_of, suc, sym, true, ℕ, ℤ}
use Rattle.std.specs.List.{All}
use Rattle.std.specs.Option.{option_or}
use Rattle.std.proofs.lemmas.Cmp.{nat_eq_equiv}
use Rattle.ordup_objects.specs.Ops.{number_of}
use Rattle.ordup_objects.specs.Sets.{is_known}
use Rattle.ordup_objects.proofs.RepeatLemmas.{list_any-alike}
use Rattle.ordup_log.specs.Groups.{are_members_known}
use Rattle.ordup_limits.specs.Entries.{are_one_entry, change_refusal, changed, has_few}
use Rattle.ordup_limits.specs.Limits.{scope_refusal}
use Rattle.ordup_limits.specs.declared.limit_entry.LimitEntry.{LimitEntry}
use Rattle.ordup_limits.proofs.EntryLemmas.{change-allowed}
use Rattle.ordup_rows.specs.Stages.{last_place, may_limit}

passes : {A : Type 0} (b : Bool) (x : A) (rest : Option A) → (if not b then Some x else rest) ≡ None → (b ≡ true) × (rest ≡ None)
passes true x rest h = (refl, h)
passes false x rest h = absurd cc

avoids : {A : Type 0} (b : Bool) (x : A) (rest : Option A) → (if b then Some x else rest) ≡ None → (b ≡ false) × (rest ≡ None)
avoids true x rest h = absurd cc
avoids false x rest h = (refl, h)

not_some : {A : Type 0} (o : Option A) → is_some o ≡ false → o ≡ None
not_some None h = refl
not_some (Some x) h = absurd cc

pub none_is : {A : Type 0} (o : Option A) → is_none o ≡ true → o ≡ None
none_is None h = refl
none_is (Some x) h = absurd cc

pub all_from : {X : Type 0} (p : X → Bool) (P : X → Type 0) → ((x : X) → p x ≡ true → P x) → (xs : List X) → list_all p xs ≡ true → All P xs
all_from p P f [] h = All-nil P
all_from p P f (x ∷ xs) h =
    let both = and_parts (p x) (list_all p xs) h in
    All-cons P x xs (f x both.0) (all_from p P f xs both.1)

pub all_back : {X : Type 0} (p : X → Bool) (P : X → Type 0) → ((x : X) → P x → p x ≡ true) → (xs : List X) → All P xs → list_all p xs ≡ true
all_back p P f [] h = refl
all_back p P f (x ∷ xs) h =
    and_from (p x) (list_all p xs) (f x (h 0 x (omega arith))) (all_back p P f xs (λ k d lt. h (suc k) d (omega arith)))

-- ---- objects

pub record IsNewObject (objects : Objects) (name : List ℕ) (value : ℤ) : Type 0 where
  pub is_a_name : is_name name ≡ true
  pub new : index_of name objects ≡ None
  pub range : IsInRange value
  pub spare : length objects < most_objects

pub object_taken : (objects : Objects) (name : List ℕ) (value : ℤ) → length objects ≤ most_objects
    → object_refusal objects name value ≡ None
    → IsNewObject objects name value
object_taken objects name value few h =
    let (name_is, h1) = passes (is_name name) _ _ h in
    let (free, h2) = avoids (is_some (index_of name objects)) _ _ h1 in
    let (range, h3) = passes (in_range value) _ _ h2 in
    let (spare, _) = avoids (length objects == most_objects) _ _ h3 in
    record {
      is_a_name = name_is;
      new = not_some (index_of name objects) free;
      range = leb-true _ _ range;
      spare = grind (arith, nat_tests);
    }

pub object_allowed : (objects : Objects) (name : List ℕ) (value : ℤ) → IsNewObject objects name value
    → object_refusal objects name value ≡ None
object_allowed objects name value is =
    let spare : (length objects == most_objects) ≡ false = let lt = is.spare in grind (arith, nat_tests) in
    rw (is.is_a_name, is.new, le-leb _ _ is.range, spare) refl

-- ---- groups

pub record IsNewGroup (n : ℕ) (groups : GroupList) (name : List ℕ) (members : List ℕ) : Type 0 where
  pub is_a_name : is_name name ≡ true
  pub new : index_of name groups ≡ None
  pub known : AreMembersKnown n members
  pub spare : length groups < most_groups
  pub group : IsGroup members

pub group_taken : (n : ℕ) (groups : GroupList) (name members : List ℕ) → length groups ≤ most_groups
    → group_refusal n groups name members ≡ None
    → IsNewGroup n groups name members
group_taken n groups name members few h =
    let (name_is, h1) = passes (is_name name) _ _ h in
    let (free, h2) = avoids (is_some (index_of name groups)) _ _ h1 in
    let (known, h3) = passes (are_members_known n members) _ _ h2 in
    let (spare, h4) = avoids (length groups == most_groups || nat_lt most_members (length members)) _ _ h3 in
    let (some, h5) = avoids (length members == 0) _ _ h4 in
    let (distinct, _) = avoids (repeats nat_eq members) _ _ h5 in
    let (place, size) = or_parts (length groups == most_groups) _ spare in
    record {
      is_a_name = name_is;
      new = not_some (index_of name groups) free;
      known = all_from (λ x. nat_lt x n) (λ x. x < n) (λ x. ltb-true x n) members known;
      spare = grind (arith, nat_tests);
      group = record {
        some = grind (arith, nat_tests);
        few = grind (arith, nat_tests);
        distinct = distinct;
      };
    }

pub group_allowed : (n : ℕ) (groups : GroupList) (name members : List ℕ) → IsNewGroup n groups name members
    → group_refusal n groups name members ≡ None
group_allowed n groups name members is =
    let lt = is.spare in
    let some = is.group.some in
    let few = is.group.few in
    let spare : (length groups == most_groups) ≡ false = grind (arith, nat_tests) in
    let size : nat_lt most_members (length members) ≡ false = grind (arith, nat_tests) in
    let full : (length members == 0) ≡ false = grind (arith, nat_tests) in
    rw (
      is.is_a_name,
      is.new,
      all_back (λ x. nat_lt x n) (λ x. x < n) (λ x. lt-ltb x n) members is.known,
      spare,
      size,
      full,
      is.group.distinct,
    ) refl

pub record IsNewMember (n : ℕ) (members : List ℕ) (x : ℕ) : Type 0 where
  pub known : x < n
  pub spare : length members < most_members
  pub new : list_any (λ y. y == x) members ≡ false

member_alike : (x : ℕ) (members : List ℕ) → list_any (nat_eq x) members ≡ list_any (λ y. y == x) members
member_alike x members = list_any-alike (nat_eq x) (λ y. y == x) (λ y. nat_eq_equiv.symm x y) members

pub member_taken : (n : ℕ) (members : List ℕ) (x : ℕ) → length members ≤ most_members → member_refusal n members x ≡ None
    → IsNewMember n members x
member_taken n members x few h =
    let (known, h1) = passes (nat_lt x n) _ _ h in
    let (spare, h2) = avoids (length members == most_members) _ _ h1 in
    let (new, _) = avoids (list_any (nat_eq x) members) _ _ h2 in
    record {
      known = ltb-true x n known;
      spare = grind (arith, nat_tests);
      new = sym (member_alike x members) ∙ new;
    }

pub member_allowed : (n : ℕ) (members : List ℕ) (x : ℕ) → IsNewMember n members x → member_refusal n members x ≡ None
member_allowed n members x is =
    let spare : (length members == most_members) ≡ false = let lt = is.spare in grind (arith, nat_tests) in
    rw (lt-ltb x n is.known, spare, member_alike x members, is.new) refl

-- ---- limits

scope_taken : (n : ℕ) (groups : GroupList) (s : Scope) → scope_refusal n groups s ≡ None → IsScopeKnown n groups s
scope_taken n groups (Object x) h = grind (arith, nat_tests)
scope_taken n groups (Group g) h = grind (arith, nat_tests)
scope_taken n groups Everything h = tt
scope_taken n groups Count h = tt

scope_allowed : (n : ℕ) (groups : GroupList) (s : Scope) → IsScopeKnown n groups s → scope_refusal n groups s ≡ None
scope_allowed n groups (Object x) is = rw (lt-ltb x n is) refl
scope_allowed n groups (Group g) is = rw (lt-ltb g (length groups) is) refl
scope_allowed n groups Everything is = refl
scope_allowed n groups Count is = refl

neither : {A : Type 0} (a b : Option A) → option_or a b ≡ None → (a ≡ None) × (b ≡ None)
neither None b h = (refl, h)
neither (Some x) b h = absurd cc

-- a limit that may come after these, where this many updates are decided
pub record IsNewEntry (n : ℕ) (groups : GroupList) (decided : ℕ) (entries : Entries) (e : LimitEntry) : Type 0 where
  pub known : IsScopeKnown n groups e.limit.scope
  pub few : e.limit.amount ≤ greatest_amount
  pub begun : 0 < e.place
  pub within : e.place ≤ decided + 1
  pub later : last_place entries ≤ e.place
  pub new : list_any (λ f. are_one_entry f e) entries ≡ false
  pub spare : has_few (changed entries e) ≡ true

not_true : (b : Bool) → not b ≡ true → b ≡ false
not_true true h = absurd cc
not_true false h = refl

pub entry_taken : (n : ℕ) (groups : GroupList) (decided : ℕ) (entries : Entries) (e : LimitEntry) → may_limit decided entries e ≡ true
    → change_refusal n groups entries e ≡ None → IsNewEntry n groups decided entries e
entry_taken n groups decided entries e may free =
    let (places, new) = and_parts _ (not (list_any (λ f. are_one_entry f e) entries)) may in
    let (place, later) = and_parts _ (nat_le (last_place entries) e.place) places in
    let (begun, within) = and_parts (nat_lt 0 e.place) (nat_le e.place (decided + 1)) place in
    let (known, _) = neither (scope_refusal n groups e.limit.scope) _ free in
    let (few, spare) = change-allowed n groups entries e free in
    record {
      known = scope_taken n groups e.limit.scope known;
      few = few;
      begun = ltb-true 0 e.place begun;
      within = leb-true e.place (decided + 1) within;
      later = leb-true (last_place entries) e.place later;
      new = not_true _ new;
      spare = spare;
    }

pub entry_allowed : (n : ℕ) (groups : GroupList) (decided : ℕ) (entries : Entries) (e : LimitEntry) → IsNewEntry n groups decided entries e
    → (may_limit decided entries e ≡ true) × (change_refusal n groups entries e ≡ None)
entry_allowed n groups decided entries e is =
    let small : nat_lt greatest_amount e.limit.amount ≡ false = let le = is.few in grind (arith, nat_tests) in (
      rw (
        lt-ltb 0 e.place is.begun,
        le-leb e.place (decided + 1) is.within,
        le-leb (last_place entries) e.place is.later,
        is.new,
      ) refl,
      rw (scope_allowed n groups e.limit.scope is.known, small, is.spare) refl,
    )

-- ---- sets

-- a test of what may be there
module _ {X : Type 0} (p : X → Bool) (P : X → Type 0) where
  some_from : ((x : X) → p x ≡ true → P x) → (o : Option X) → is_none_or o p ≡ true → IfSome o P
  some_from f None h = tt
  some_from f (Some x) h = f x h

  some_back : ((x : X) → P x → p x ≡ true) → (o : Option X) → IfSome o P → is_none_or o p ≡ true
  some_back f None h = refl
  some_back f (Some x) h = f x h

change_known : (n : ℕ) (c : Change) → is_known n c ≡ true → IsKnown n c
change_known n c h =
    let both = and_parts (nat_lt c.object n) (is_none_or (source_of c.op) (λ y. nat_lt y n)) h in
    (ltb-true c.object n both.0, some_from (λ y. nat_lt y n) (λ y. y < n) (λ y. ltb-true y n) (source_of c.op) both.1)

change_test : (n : ℕ) (c : Change) → IsKnown n c → is_known n c ≡ true
change_test n c is =
    and_from _ _ (lt-ltb c.object n is.0) (some_back (λ y. nat_lt y n) (λ y. y < n) (λ y. lt-ltb y n) (source_of c.op) is.1)

-- a list of changes is not refused just where it is a set over these objects
pub set_taken : (n : ℕ) (m : List Change) → set_refusal n m ≡ None → IsSet m × AreKnown n m
set_taken n m h =
    let (known, h1) = passes (are_known n m) _ _ h in
    let (range, h2) = passes (are_in_range m) _ _ h1 in
    let (few, h3) = avoids (nat_lt most_changes (length m)) _ _ h2 in
    let (some, h4) = avoids (length m == 0) _ _ h3 in
    let (distinct, _) = avoids (repeats are_of_one_object m) _ _ h4 in (
      record {
        some = grind (arith, nat_tests);
        few = grind (arith, nat_tests);
        numbers = all_from (λ (c : Change). is_none_or (number_of c.op) in_range) (λ (c : Change). IfSome (number_of c.op) IsInRange)
            (λ c. some_from in_range IsInRange (λ z. leb-true _ _) (number_of c.op)) m range;
        distinct = distinct;
      },
      all_from (is_known n) (IsKnown n) (change_known n) m known,
    )

pub set_allowed : (n : ℕ) (m : List Change) → IsSet m → AreKnown n m → set_refusal n m ≡ None
set_allowed n m is known =
    let some = is.some in
    let few = is.few in
    let size : nat_lt most_changes (length m) ≡ false = grind (arith, nat_tests) in
    let full : (length m == 0) ≡ false = grind (arith, nat_tests) in
    let range = all_back (λ (c : Change). is_none_or (number_of c.op) in_range) (λ (c : Change). IfSome (number_of c.op) IsInRange)
    (λ c. some_back in_range IsInRange (λ z. le-leb _ _) (number_of c.op)) m is.numbers in
    rw (all_back (is_known n) (IsKnown n) (change_test n) m known, range, size, full, is.distinct) refl
