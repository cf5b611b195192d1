-- The lines of a setup are lines of words.
use Rattle.ordup_audit.proofs.Common.{◌++◌, ◌∷◌, ◌≡◌, ◌≤◌, [], All, All-cons, All-map, All-nil, All-tail, AreEntriesKnown, AreMembersKnown}
use Rattle.ordup_audit.proofs.Common.{AreNames, arith, codes, Count, decimal, Everything, get_or, greatest_amount, Group, GroupList}
use Rattle.ordup_audit.proofs.Common.{in_range, is_name, IsGroup, IsScopeKnown, length, length-map, List, map, most_members, Object, Objects}
use Rattle.ordup_audit.proofs.Common.{refl, Scope, signed_decimal, true, ℕ, ℤ, Entries, AreEntries}
use Rattle.std.proofs.lemmas.List.Elements.{All-append, All-head}
use Rattle.ordup_objects.specs.Sizes.{greatest_capacity}
use Rattle.ordup_log.specs.Groups.{AreGroupsKnown}
use Rattle.ordup_limits.specs.Entries.{latest}
use Rattle.ordup_limits.specs.declared.limit.Limit.{Limit}
use Rattle.ordup_limits.proofs.EntryLemmas.{All-latest, latest-known}
use Rattle.ordup_primary.specs.Declarations.{AreCapacities, Declared}
use Rattle.ordup_rows.specs.Rows.{name_at}
use Rattle.ordup_rows.proofs.Words.{name_of}
use Rattle.ordup_succession.specs.DeclaringLines.{declaring_lines, group_words, limit_lines, limit_words, object_words, scope_words, site_words}
use Rattle.ordup_succession.proofs.DeclaringLemmas.{in_range-small, in_range_values}
use Rattle.ordup_succession.proofs.Tables.{HasTables}
use Rattle.ordup_succession.proofs.WordKinds.{decimal_is_word, name_is_word, names_are_words, number_is_word, tested_is_word, word_line}
use Rattle.ordup_succession.proofs.Words.{IsWord, IsWordLine}

objects_are_lines : (objects : Objects) → AreNames objects → All (λ o. in_range o.1 ≡ true) objects
    → All IsWordLine (map object_words objects)
objects_are_lines objects names state = All-map IsWordLine object_words objects (λ i d lt.
    let object : List ℕ × ℤ = get_or objects i d in
    let value = number_is_word object.1 (in_range-small object.1 (state i d lt)) in
    word_line _ _ (object.0 ∷ signed_decimal object.1 ∷ []) refl (tested_is_word (codes "object") refl)
    (All-cons IsWord object.0 (signed_decimal object.1 ∷ []) (name_is_word object.0 (names i d lt))
    (All-cons IsWord (signed_decimal object.1) [] value (All-nil IsWord))) (omega arith))

-- the members of a group have names
members_are_names : (objects : Objects) (members : List ℕ) → AreNames objects → AreMembersKnown (length objects) members
    → All (λ name. is_name name ≡ true) (map (name_at objects) members)
members_are_names objects members names known =
    All-map (λ name. is_name name ≡ true) (name_at objects) members (λ i d lt. name_of objects (get_or members i d) names (known i d lt))

groups_are_lines : (objects : Objects) (groups : GroupList) → AreNames objects → AreNames groups → AreGroupsKnown (length objects) groups
    → All (λ g. IsGroup g.1) groups
    → All IsWordLine (map (group_words objects) groups)
groups_are_lines objects groups names titles known members = All-map IsWordLine (group_words objects) groups (λ i d lt.
    let group : List ℕ × List ℕ = get_or groups i d in
    let words : List (List ℕ) = map (name_at objects) group.1 in
    let few : length group.1 ≤ most_members = (members i d lt).few in
    word_line _ _ (group.0 ∷ words) refl (tested_is_word (codes "group") refl)
    (All-cons IsWord group.0 words (name_is_word group.0 (titles i d lt))
    (names_are_words words (members_are_names objects group.1 names (known i d lt))))
    (omega (arith, few, length-map group.1 (name_at objects))))

sites_are_lines : (sites : List (List ℕ × ℕ)) → AreNames sites → AreCapacities sites → All IsWordLine (map site_words sites)
sites_are_lines sites names capacities = All-map IsWordLine site_words sites (λ i d lt.
    let site : List ℕ × ℕ = get_or sites i d in
    let few : site.1 ≤ greatest_capacity = (capacities i d lt).1 in
    word_line _ _ (site.0 ∷ decimal site.1 ∷ []) refl (tested_is_word (codes "site") refl)
    (All-cons IsWord site.0 (decimal site.1 ∷ []) (name_is_word site.0 (names i d lt))
    (All-cons IsWord (decimal site.1) [] (decimal_is_word site.1 (omega (arith, few))) (All-nil IsWord))) (omega arith))

-- the words of a scope, and a word behind them
scope_and_word : (objects : Objects) (groups : GroupList) (scope : Scope) (word : List ℕ) → AreNames objects → AreNames groups
    → IsScopeKnown (length objects) groups scope → IsWord word
    → All IsWord (scope_words objects groups scope ++ word ∷ []) × (length (scope_words objects groups scope ++ word ∷ []) ≤ 3)
scope_and_word objects groups (Object x) word names titles known is = (
  All-cons IsWord _ (name_at objects x ∷ word ∷ []) (tested_is_word (codes "object") refl)
      (All-cons IsWord (name_at objects x) (word ∷ []) (name_is_word (name_at objects x) (name_of objects x names known))
      (All-cons IsWord word [] is (All-nil IsWord))),
  omega arith,
)
scope_and_word objects groups (Group g) word names titles known is = (
  All-cons IsWord _ (name_at groups g ∷ word ∷ []) (tested_is_word (codes "group") refl)
      (All-cons IsWord (name_at groups g) (word ∷ []) (name_is_word (name_at groups g) (name_of groups g titles known))
      (All-cons IsWord word [] is (All-nil IsWord))),
  omega arith,
)
scope_and_word objects groups Everything word names titles known is =
    (All-cons IsWord _ (word ∷ []) (tested_is_word (codes "all") refl) (All-cons IsWord word [] is (All-nil IsWord)), omega arith)
scope_and_word objects groups Count word names titles known is =
    (All-cons IsWord _ (word ∷ []) (tested_is_word (codes "count") refl) (All-cons IsWord word [] is (All-nil IsWord)), omega arith)

limit_is_line : (objects : Objects) (groups : GroupList) (site : List ℕ) (l : Limit) → AreNames objects → AreNames groups
    → is_name site ≡ true → IsScopeKnown (length objects) groups l.scope → l.amount ≤ greatest_amount
    → IsWordLine (limit_words objects groups site l)
limit_is_line objects groups site l names titles name known amount =
    let rest = scope_and_word objects groups l.scope (decimal l.amount) names titles known (decimal_is_word l.amount (omega (arith, amount))) in
    word_line _ _ (site ∷ (scope_words objects groups l.scope ++ decimal l.amount ∷ [])) refl (tested_is_word (codes "limit") refl)
    (All-cons IsWord site (scope_words objects groups l.scope ++ decimal l.amount ∷ []) (name_is_word site name) rest.0)
    (omega (arith, rest.1))

limits_are_lines : (objects : Objects) (groups : GroupList) (sites : List (List ℕ × ℕ)) (tables : List Entries) → AreNames objects
    → AreNames groups → AreNames sites → All AreEntries tables → All (AreEntriesKnown (length objects) groups) tables
    → All IsWordLine (limit_lines objects groups sites tables)
limits_are_lines objects groups [] tables names titles sited are known = All-nil IsWordLine
limits_are_lines objects groups (s ∷ sites) [] names titles sited are known = All-nil IsWordLine
limits_are_lines objects groups (s ∷ sites) (t ∷ tables) names titles sited are known =
    let table = All-head AreEntries t tables are in
    let scopes = latest-known (length objects) groups t (All-head (AreEntriesKnown (length objects) groups) t tables known) in
    let amounts = All-latest (λ l. l.amount ≤ greatest_amount) t table.amounts in
    All-append IsWordLine (map (limit_words objects groups s.0) (latest t)) (limit_lines objects groups sites tables)
    (All-map IsWordLine (limit_words objects groups s.0) (latest t) (λ i d lt.
    limit_is_line objects groups s.0 (get_or (latest t) i d) names titles (All-head (λ e. is_name e.0 ≡ true) s sites sited) (scopes i d lt)
    (amounts i d lt)))
    (limits_are_lines objects groups sites tables names titles (All-tail (λ e. is_name e.0 ≡ true) s sites sited)
    (All-tail AreEntries t tables are) (All-tail (AreEntriesKnown (length objects) groups) t tables known))

pub setup_is_lines : (d : Declared) → HasTables d → All IsWordLine (declaring_lines d)
setup_is_lines d has =
    let start = All-cons IsWordLine (codes "start" ∷ []) [] (word_line _ _ [] refl (tested_is_word (codes "start") refl) (All-nil IsWord) (omega arith))
    (All-nil IsWordLine) in
    All-append IsWordLine (map object_words d.objects ++ map (group_words d.objects) d.groups)
    (map site_words d.sites ++ (limit_lines d.objects d.groups d.sites d.limits ++ (codes "start" ∷ []) ∷ []))
    (All-append IsWordLine (map object_words d.objects) (map (group_words d.objects) d.groups)
    (objects_are_lines d.objects has.objects (in_range_values d.objects has.state))
    (groups_are_lines d.objects d.groups has.objects has.groups has.declared.members has.members))
    (All-append IsWordLine (map site_words d.sites) (limit_lines d.objects d.groups d.sites d.limits ++ (codes "start" ∷ []) ∷ [])
    (sites_are_lines d.sites has.sites has.declared.capacities)
    (All-append IsWordLine (limit_lines d.objects d.groups d.sites d.limits) ((codes "start" ∷ []) ∷ [])
    (limits_are_lines d.objects d.groups d.sites d.limits has.objects has.groups has.sites has.entries has.declared.known) start))
