-- Declarations, as the words of a line spell them.
use Rattle.std.specs.Prelude.{ℕ, ℤ, List, [], ◌∷◌, Option, Some, None, option_map, codes, if◌then◌else◌}
use Rattle.std.specs.Str.{bytes_eq}
use Rattle.ordup_grammar.specs.Words.{name_and_number, only_number}
use Rattle.ordup_grammar.specs.declared.declaration.Declaration.{Declaration}
use Rattle.ordup_grammar.specs.declared.declaration.Declaration.TheVariants.{Object, Group, Site, Limit}
use Rattle.ordup_grammar.specs.declared.declaration.ScopeWord.{ScopeWord}
use Rattle.ordup_grammar.specs.declared.declaration.ScopeWord.TheVariants as scope

-- what a limit weighs and its amount, by a word and the words after it
abbrev pub scope_and_amount : List ℕ → List (List ℕ) → Option (ScopeWord × ℤ)
scope_and_amount kind rest =
    if bytes_eq kind (codes "object") then option_map (λ (x, n). (scope.Object x, n)) (name_and_number rest)
    else if bytes_eq kind (codes "group") then option_map (λ (g, n). (scope.Group g, n)) (name_and_number rest)
    else if bytes_eq kind (codes "all") then option_map (λ n. (scope.All, n)) (only_number rest)
    else if bytes_eq kind (codes "count") then option_map (λ n. (scope.Count, n)) (only_number rest)
    else None

-- the limit that words spell: a site, what is weighed, and an amount
abbrev pub limit_of : List (List ℕ) → Option (List ℕ × ScopeWord × ℤ)
limit_of (s ∷ kind ∷ rest) = option_map (λ (what, n). (s, what, n)) (scope_and_amount kind rest)
limit_of _ = None

-- the group that words spell: its name and its members
abbrev pub group_of : List (List ℕ) → Option Declaration
group_of (name ∷ members) = Some (Group name members)
group_of [] = None

-- the declaration that a first word and the words after it spell
abbrev pub declaration_of : List ℕ → List (List ℕ) → Option Declaration
declaration_of first rest =
    if bytes_eq first (codes "object") then option_map (λ (name, initial). Object name initial) (name_and_number rest)
    else if bytes_eq first (codes "group") then group_of rest
    else if bytes_eq first (codes "site") then option_map (λ (name, capacity). Site name capacity) (name_and_number rest)
    else if bytes_eq first (codes "limit") then option_map (λ (s, what, n). Limit s what n) (limit_of rest)
    else None
