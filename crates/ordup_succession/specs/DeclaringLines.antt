-- The lines that declare a store, and their text.
use Rattle.std.specs.Prelude.{ℕ, ℤ, List, [], ◌∷◌, ◌++◌, codes, map}
use Rattle.std.specs.Fmt.{decimal, signed_decimal}
use Rattle.ordup_objects.specs.Tables.{Objects}
use Rattle.ordup_log.specs.Groups.{GroupList}
use Rattle.ordup_log.specs.declared.scope.Scope.{Scope}
use Rattle.ordup_log.specs.declared.scope.Scope.TheVariants.{Object, Group, All as Everything, Count}
use Rattle.ordup_limits.specs.Entries.{Entries, latest}
use Rattle.ordup_limits.specs.declared.limit.Limit.{Limit}
use Rattle.ordup_primary.specs.Declarations.{Declared}
use Rattle.ordup_rows.specs.Rows.{name_at}
use Rattle.ordup_succession.specs.Lines.{lines_text}

-- `object N V`
abbrev pub object_words : List ℕ × ℤ → List (List ℕ)
object_words object = codes "object" ∷ object.0 ∷ signed_decimal object.1 ∷ []

-- `group G X ..`
abbrev pub group_words : Objects → List ℕ × List ℕ → List (List ℕ)
group_words objects group = codes "group" ∷ group.0 ∷ map (name_at objects) group.1

-- `site S CAP`
abbrev pub site_words : List ℕ × ℕ → List (List ℕ)
site_words site = codes "site" ∷ site.0 ∷ decimal site.1 ∷ []

-- `object X`, `group G`, `all` or `count`
abbrev pub scope_words : Objects → GroupList → Scope → List (List ℕ)
scope_words objects groups (Object x) = codes "object" ∷ name_at objects x ∷ []
scope_words objects groups (Group g) = codes "group" ∷ name_at groups g ∷ []
scope_words objects groups Everything = codes "all" ∷ []
scope_words objects groups Count = codes "count" ∷ []

-- `limit S object X N`, `limit S group G N`, `limit S all N` or `limit S count N`
abbrev pub limit_words : Objects → GroupList → List ℕ → Limit → List (List ℕ)
limit_words objects groups site l =
    codes "limit" ∷ site ∷ (scope_words objects groups l.scope ++ decimal l.amount ∷ [])

-- the lines of the last limits of each site, in the order of the sites and of their scopes
abbrev pub limit_lines : Objects → GroupList → List (List ℕ × ℕ) → List Entries → List (List (List ℕ))
limit_lines objects groups (s ∷ sites) (entries ∷ limits) =
    map (limit_words objects groups s.0) (latest entries) ++ limit_lines objects groups sites limits
limit_lines objects groups _ _ = []

-- the lines of the objects and of the groups
abbrev pub object_lines : Objects → GroupList → List (List (List ℕ))
object_lines objects groups = map object_words objects ++ map (group_words objects) groups

-- all lines that declare a store, and the one that starts it
abbrev pub declaring_lines : Declared → List (List (List ℕ))
declaring_lines d =
    object_lines d.objects d.groups
    ++ (map site_words d.sites ++ (limit_lines d.objects d.groups d.sites d.limits ++ (codes "start" ∷ []) ∷ []))

-- their text
abbrev pub declarations_text : Declared → List ℕ
declarations_text d = lines_text (declaring_lines d)
