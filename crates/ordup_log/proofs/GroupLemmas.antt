-- Groups and their names.
use Rattle.std.proofs.Common.{◌≡◌, ℕ, zero, suc, ◌+◌, ◌-◌, ◌<◌, ◌≤◌}
use Rattle.std.proofs.Common.{false, List, [], ◌∷◌, ◌++◌, length, map, get_or}
use Rattle.std.proofs.Common.{arith, refl, sym, ap, ◌∙◌, nat_eq, Vec}
use Rattle.std.specs.Prelude.{◌&&◌, Bool, true, Some, None, nat_lt, option_map, slice_get, take, All}
use Rattle.std.specs.Bool.{Decides}
use Rattle.std.specs.Cmp.Derive.Mapped.{pointwise-map}
use Rattle.std.specs.List.{list_any, position}
use Rattle.std.specs.Cmp.Lexicographic.{pointwise}
use Rattle.ordup_objects.specs.Sizes.{most_groups, most_members}
use Rattle.ordup_objects.specs.Names.{is_name}
use Rattle.std.proofs.Math.ListN.{length-set}
use Rattle.std.proofs.lemmas.Bool.{ltb-true}
use Rattle.std.proofs.lemmas.Bool.Decides.{nat_tests}
use Rattle.std.proofs.lemmas.Cmp.{nat_eq_equiv}
use Rattle.std.proofs.lemmas.List.{length_push, length-map, get_or-map, map-append}
use Rattle.std.proofs.lemmas.List.Elements.{All-map, All-set, All-push}
use Rattle.std.proofs.lemmas.List.Sums.{AllPass-from_list_all}
use Rattle.std.proofs.lemmas.Slice.Eq.{slice_eq-Decides}
use Rattle.ordup_objects.specs.Tables.{names_of, index_of, with_entry, AreNames, AreDistinct}
use Rattle.ordup_objects.proofs.SameLemmas.{same-tables}
use Rattle.ordup_objects.proofs.TableLemmas.{take-next}
use Rattle.ordup_objects.proofs.RepeatLemmas.{repeats-push, list_any-alike}
use Rattle.ordup_log.specs.Groups.{GroupList, IsGroup, AreMembersKnown, are_members_known, group_refusal, members_at, last_members, with_member}

-- what is beside the names does not change them
names_of-map : {V W : Type 0} (f : V → W) (table : List (List ℕ × V)) → names_of (map (λ e. (e.0, f e.1)) table) ≡ names_of table
names_of-map f [] = refl
names_of-map f (e ∷ table) = ap (λ names. e.0 ∷ names) (names_of-map f table)

-- a name stands at the same place whatever is beside the names
pub index_of-map : {V W : Type 0} (f : V → W) (name : List ℕ) (table : List (List ℕ × V))
    → index_of name (map (λ e. (e.0, f e.1)) table) ≡ index_of name table
index_of-map f name table = ap (position (pointwise nat_eq name)) (names_of-map f table)

-- the same of what callers see of a table
pub index_of-view : {V W : Type 0} (f : V → W) (name : List ℕ) (table : List (List ℕ × V)) (view : List (List ℕ × W))
    → map (λ e. (e.0, f e.1)) table ≡ view → index_of name view ≡ index_of name table
index_of-view f name table view e = rw (← e) (index_of-map f name table)

-- what callers see of groups are groups
pub are_groups-view : {Z : Type 0} (groups : List (List ℕ × Vec ℕ Z)) (view : List (List ℕ × List ℕ))
    → map (λ g. (g.0, g.1.items)) groups ≡ view → All (λ g. IsGroup g.1.items) groups → All (λ g. IsGroup g.1) view
are_groups-view {Z} groups view e are = rw (← e)
    (All-map (λ (g : List ℕ × List ℕ). IsGroup g.1) (λ (g : List ℕ × Vec ℕ Z). (g.0, g.1.items)) groups are)

-- and so are their names
pub AreNames-view : {Z : Type 0} (groups : List (List ℕ × Vec ℕ Z)) (view : List (List ℕ × List ℕ))
    → map (λ g. (g.0, g.1.items)) groups ≡ view → AreNames groups → AreNames view
AreNames-view {Z} groups view e are = rw (← e)
    (All-map (λ (g : List ℕ × List ℕ). is_name g.0 ≡ true) (λ (g : List ℕ × Vec ℕ Z). (g.0, g.1.items)) groups are)

pub AreDistinct-view : {Z : Type 0} (groups : List (List ℕ × Vec ℕ Z)) (view : List (List ℕ × List ℕ))
    → map (λ g. (g.0, g.1.items)) groups ≡ view → AreDistinct groups → AreDistinct view
AreDistinct-view {Z} groups view e are = rw (← e, names_of-map (λ (v : Vec ℕ Z). v.items) groups) are

-- what callers see of groups
abbrev pub groups_of : {Z : Type 0} → List (List ℕ × Vec ℕ Z) → List (List ℕ × List ℕ)
groups_of groups = map (λ g. (g.0, g.1.items)) groups

-- names stand at the same places where callers see the same groups
pub index_of-same : {Z : Type 0} (name : List ℕ) (groups others : List (List ℕ × Vec ℕ Z)) → groups_of groups ≡ groups_of others
    → index_of name groups ≡ index_of name others
index_of-same {Z} name groups others e =
    sym (index_of-map (λ (v : Vec ℕ Z). v.items) name groups)
    ∙ ap (index_of name) e
    ∙ index_of-map (λ (v : Vec ℕ Z). v.items) name others

-- callers see as many groups as there are
pub groups_of-length : {Z : Type 0} (groups : List (List ℕ × Vec ℕ Z)) (view : List (List ℕ × List ℕ)) → groups_of groups ≡ view
    → length view ≡ length groups
groups_of-length {Z} groups view e =
    let seen : List ℕ × Vec ℕ Z → List ℕ × List ℕ = λ g. (g.0, g.1.items) in
    ap length (sym e) ∙ length-map groups seen

pub groups_of-some : {Z : Type 0} (groups : List (List ℕ × Vec ℕ Z)) (view : List (List ℕ × List ℕ)) → groups_of groups ≡ view
    → 0 < length view → 0 < length groups
groups_of-some groups view e some = omega (arith, groups_of-length groups view e)

pub groups_of-few : {Z : Type 0} (groups : List (List ℕ × Vec ℕ Z)) (view : List (List ℕ × List ℕ)) → groups_of groups ≡ view
    → length groups ≤ most_groups → length view ≤ most_groups
groups_of-few groups view e few = omega (arith, groups_of-length groups view e)

-- callers see a group that was added
pub groups_of-push : {Z : Type 0} (groups put : List (List ℕ × Vec ℕ Z)) (view : List (List ℕ × List ℕ)) (name given : List ℕ)
    (members : Vec ℕ Z) (list : List ℕ) → groups_of groups ≡ view → put ≡ groups ++ (name, members) ∷ [] → name ≡ given
    → members.items ≡ list → groups_of put ≡ view ++ (given, list) ∷ []
groups_of-push {Z} groups put view name given members list e added named same =
    let seen : List ℕ × Vec ℕ Z → List ℕ × List ℕ = λ g. (g.0, g.1.items) in
    rw (added, map-append seen groups ((name, members) ∷ []), e, named, same) refl

-- what holds of a group that is not refused
pub record MayBeDeclared (n : ℕ) (groups : GroupList) (name members : List ℕ) : Type 0 where
  pub free : index_of name groups ≡ None
  pub known : AreMembersKnown n members
  pub group : IsGroup members
  pub spare : length groups < most_groups

pub group_allowed : (n : ℕ) (groups : GroupList) (name members : List ℕ) → length groups ≤ most_groups
    → group_refusal n groups name members ≡ None → MayBeDeclared n groups name members
group_allowed n groups name members few allowed =
    let known : are_members_known n members ≡ true = grind (arith, nat_tests) in
    record {
      free = grind (arith, nat_tests);
      known = λ k d lt. ltb-true (get_or members k d) n (AllPass-from_list_all (λ x. nat_lt x n) members known k d lt);
      group = record {
        some = grind (arith, nat_tests);
        few = grind (arith, nat_tests);
        distinct = grind (arith, nat_tests);
      };
      spare = grind (arith, nat_tests);
    }

-- groups are kept with one more, where there are few enough
pub are_groups-push : {Z : Type 0} (groups put : List (List ℕ × Vec ℕ Z)) (view : List (List ℕ × List ℕ)) (name : List ℕ)
    (members : Vec ℕ Z) → (length groups ≤ most_groups) × All (λ g. IsGroup g.1.items) groups → groups_of groups ≡ view
    → length view < most_groups → IsGroup members.items → put ≡ groups ++ (name, members) ∷ []
    → (length put ≤ most_groups) × All (λ g. IsGroup g.1.items) put
are_groups-push {Z} groups put view name members are e spare is added =
    let seen : List ℕ × Vec ℕ Z → List ℕ × List ℕ = λ g. (g.0, g.1.items) in
    rw added (
      omega (arith, ap length e, length-map groups seen, length_push groups (name, members)),
      All-push (λ (g : List ℕ × Vec ℕ Z). IsGroup g.1.items) groups (name, members) are.1 is,
    )

-- callers see the same groups with one more, if they saw the same before
pub groups_of-next : {Z : Type 0} (groups others : List (List ℕ × Vec ℕ Z)) (k : ℕ) (name : List ℕ)
    (members others_members : Vec ℕ Z) → groups_of groups ≡ groups_of (take k others)
    → slice_get others k ≡ Some (name, others_members) → members.items ≡ others_members.items
    → groups_of (groups ++ (name, members) ∷ []) ≡ groups_of (take (k + 1) others)
groups_of-next {Z} groups others k name members others_members e at same =
    let seen : List ℕ × Vec ℕ Z → List ℕ × List ℕ = λ g. (g.0, g.1.items) in
    rw (
      map-append seen groups ((name, members) ∷ []),
      take-next others k (name, others_members) at,
      map-append seen (take k others) ((name, others_members) ∷ []),
      e,
      same,
    ) refl

-- groups are kept where callers see the same
pub are_groups-same : {Z : Type 0} (groups others : List (List ℕ × Vec ℕ Z)) → groups_of groups ≡ groups_of others
    → (length others ≤ most_groups) × All (λ g. IsGroup g.1.items) others
    → (length groups ≤ most_groups) × All (λ g. IsGroup g.1.items) groups
are_groups-same {Z} groups others e are =
    let seen : List ℕ × Vec ℕ Z → List ℕ × List ℕ = λ g. (g.0, g.1.items) in
    let count : length groups ≡ length others = sym (length-map groups seen) ∙ ap length e ∙ length-map others seen in (
      omega arith,
      λ k d lt.
          let same : (get_or groups k d).1.items ≡ (get_or others k d).1.items =
          ap (λ (g : List ℕ × List ℕ). g.1) (
          sym (get_or-map seen groups k d (seen d) lt)
          ∙ ap (λ gs. get_or gs k (seen d)) e
          ∙ get_or-map seen others k d (seen d) (omega arith)) in
          rw same (are.1 k d (omega arith)),
    )

-- of two entries at a place the later stays
with_entry-twice : {V : Type 0} (table : List (List ℕ × V)) (i : ℕ) (first second : V)
    → with_entry (with_entry table i first) i second ≡ with_entry table i second
with_entry-twice [] zero first second = refl
with_entry-twice [] (suc i) first second = refl
with_entry-twice (e ∷ table) zero first second = refl
with_entry-twice (e ∷ table) (suc i) first second = ap (λ es. e ∷ es) (with_entry-twice table i first second)

-- callers see another entry where there is one
groups_of-with_entry : {Z : Type 0} (groups : List (List ℕ × Vec ℕ Z)) (i : ℕ) (members : Vec ℕ Z)
    → groups_of (with_entry groups i members) ≡ with_entry (groups_of groups) i members.items
groups_of-with_entry [] zero members = refl
groups_of-with_entry [] (suc i) members = refl
groups_of-with_entry (g ∷ groups) zero members = refl
groups_of-with_entry (g ∷ groups) (suc i) members = ap (λ gs. (g.0, g.1.items) ∷ gs) (groups_of-with_entry groups i members)

-- callers see no change where the members that were there are put back
groups_of-restored : {Z : Type 0} (groups : List (List ℕ × Vec ℕ Z)) (i : ℕ) (members same : Vec ℕ Z)
    → option_map (λ g. g.1) (slice_get groups i) ≡ Some members → same.items ≡ members.items
    → groups_of (with_entry groups i same) ≡ groups_of groups
groups_of-restored [] zero members same at e = refl
groups_of-restored [] (suc i) members same at e = refl
groups_of-restored {Z} (g ∷ groups) zero members same at e =
    let is : g.1 ≡ members = cc in
    let with_first : List ℕ → List (List ℕ × List ℕ) = λ xs. (g.0, xs) ∷ groups_of groups in
    ap with_first (e ∙ ap (λ (v : Vec ℕ Z). v.items) (sym is))
groups_of-restored (g ∷ groups) (suc i) members same at e =
    ap (λ gs. (g.0, g.1.items) ∷ gs) (groups_of-restored groups i members same at e)

-- the members that callers see of a group
pub members_at-is : {Z : Type 0} (groups : List (List ℕ × Vec ℕ Z)) (i : ℕ) (members : Vec ℕ Z)
    → option_map (λ g. g.1) (slice_get groups i) ≡ Some members → members_at (groups_of groups) i ≡ members.items
members_at-is [] i members at = absurd (cc)
members_at-is {Z} (g ∷ groups) zero members at =
    let is : g.1 ≡ members = cc in
    ap (λ (v : Vec ℕ Z). v.items) is
members_at-is (g ∷ groups) (suc i) members at = members_at-is groups i members at

-- what is taken out are the members that were there
pub taken-is : {Z : Type 0} (groups : List (List ℕ × Vec ℕ Z)) (i : ℕ) (name : List ℕ) (members taken : Vec ℕ Z)
    → slice_get groups i ≡ Some (name, members) → option_map (λ g. g.1) (slice_get groups i) ≡ Some taken
    → taken.items ≡ members.items
taken-is {Z} groups i name members taken at out =
    sym (members_at-is groups i taken out) ∙ members_at-is groups i members (ap (option_map (λ (g : List ℕ × Vec ℕ Z). g.1)) at)

-- the members that callers see of the last group
pub last_members-is : {Z : Type 0} (groups : List (List ℕ × Vec ℕ Z)) (view : List (List ℕ × List ℕ)) (last : ℕ)
    (name : List ℕ)
    (members : Vec ℕ Z) → groups_of groups ≡ view → last ≡ length groups - 1 → slice_get groups last ≡ Some (name, members)
    → last_members view ≡ members.items
last_members-is {Z} groups view last name members e is at =
    let count : length (groups_of groups) ≡ length groups = length-map groups (λ (g : List ℕ × Vec ℕ Z). (g.0, g.1.items)) in
    rw (← e, count, ← is) (members_at-is groups last members (ap (option_map (λ (g : List ℕ × Vec ℕ Z). g.1)) at))

-- each of them is a group
pub group-at : {Z : Type 0} (groups : List (List ℕ × Vec ℕ Z)) (i : ℕ) (members : Vec ℕ Z) → All (λ g. IsGroup g.1.items) groups
    → option_map (λ g. g.1) (slice_get groups i) ≡ Some members → IsGroup members.items
group-at [] i members are at = absurd (cc)
group-at {Z} (g ∷ groups) zero members are at =
    let is : g.1.items ≡ members.items = let same : g.1 ≡ members = cc in ap (λ (v : Vec ℕ Z). v.items) same in
    rw is at (are 0 g (omega arith))
group-at (g ∷ groups) (suc i) members are at = group-at groups i members (λ k d h. are (suc k) d (omega arith)) at

-- the groups after a member was added: the members of the last one were taken out, and put back longer
pub member-added : {Z : Type 0} (groups taken put : List (List ℕ × Vec ℕ Z)) (last : ℕ) (members none longer : Vec ℕ Z)
    (member : ℕ) → last ≡ length groups - 1 → option_map (λ g. g.1) (slice_get groups last) ≡ Some members
    → taken ≡ with_entry groups last none → put ≡ with_entry taken last longer → longer.items ≡ members.items ++ member ∷ []
    → groups_of put ≡ with_member (groups_of groups) member
member-added {Z} groups taken put last members none longer member is at out back more =
    let count : length (groups_of groups) ≡ length groups = length-map groups (λ (g : List ℕ × Vec ℕ Z). (g.0, g.1.items)) in
    rw (count, ← is, members_at-is groups last members at, ← more, back, out, with_entry-twice groups last none longer)
    (groups_of-with_entry groups last longer)

-- and where there was no memory for it: they were put back as they were
pub member-refused : {Z : Type 0} (groups taken put : List (List ℕ × Vec ℕ Z)) (last : ℕ) (members none same : Vec ℕ Z)
    → option_map (λ g. g.1) (slice_get groups last) ≡ Some members → taken ≡ with_entry groups last none
    → put ≡ with_entry taken last same → same.items ≡ members.items → groups_of put ≡ groups_of groups
member-refused groups taken put last members none same at out back e =
    rw (back, out, with_entry-twice groups last none same) (groups_of-restored groups last members same at e)

-- groups are kept by another group in the place of one
pub are_groups-put : {Z : Type 0} (groups taken put : List (List ℕ × Vec ℕ Z)) (last : ℕ) (none members : Vec ℕ Z)
    → (length groups ≤ most_groups) × All (λ g. IsGroup g.1.items) groups → taken ≡ with_entry groups last none
    → put ≡ with_entry taken last members → IsGroup members.items
    → (length put ≤ most_groups) × All (λ g. IsGroup g.1.items) put
are_groups-put {Z} groups taken put last none members are out back is =
    rw (back, out, with_entry-twice groups last none members) (
      rw (length-set groups last) are.0,
      All-set (λ (g : List ℕ × Vec ℕ Z). IsGroup g.1.items) groups last ((get_or groups last ([], members)).0, members) is are.1,
    )

-- a group with a member more that is not refused is a group
pub IsGroup-push : (members : List ℕ) (member : ℕ) → IsGroup members → (length members ≡ most_members → ⊥)
    → list_any (nat_eq member) members ≡ false → IsGroup (members ++ member ∷ [])
IsGroup-push members member is spare none =
    let count : length (members ++ member ∷ []) ≡ length members + 1 = length_push members member in
    let few : length members ≤ most_members = is.few in
    record {
      some = omega arith;
      few = omega arith;
      distinct = repeats-push nat_eq members member is.distinct
          (list_any-alike (λ x. nat_eq x member) (nat_eq member) (λ x. nat_eq_equiv.symm x member) members ∙ none);
    }

-- what the comparison of groups, as they are kept, says of what callers see of them
pub same-groups : {Z : Type 0} (eq : ℕ → ℕ → Bool) → ((v w : ℕ) → Decides (eq v w) (v ≡ w)) → (groups others : List (List ℕ × Vec ℕ Z)) (r : Bool)
    → r ≡ pointwise (λ p q. pointwise nat_eq p.0 q.0 && pointwise eq p.1.items q.1.items) groups others
    → Decides r (groups_of groups ≡ groups_of others)
same-groups {Z} eq decides groups others r is =
    same-tables (pointwise eq) (λ v w. slice_eq-Decides decides v w _ refl) (groups_of groups) (groups_of others) r (is
    ∙ sym (pointwise-map (λ (g : List ℕ × Vec ℕ Z). (g.0, g.1.items)) (λ p q. pointwise nat_eq p.0 q.0 && pointwise eq p.1 q.1) groups others))
