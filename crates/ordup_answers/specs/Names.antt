-- Which objects, groups and sites words name. A word that names nothing counts as the index after the last.
use Rattle.std.specs.Prelude.{ℕ, List, length, map, unwrap_or}
use Rattle.ordup_objects.specs.Tables.{index_of}
use Rattle.ordup_log.specs.declared.scope.Scope.{Scope}
use Rattle.ordup_log.specs.declared.scope.Scope.TheVariants.{Object, Group, All, Count}
use Rattle.ordup_primary.specs.Declarations.{Declared}
use Rattle.ordup_grammar.specs.declared.declaration.ScopeWord.{ScopeWord}
use Rattle.ordup_grammar.specs.declared.declaration.ScopeWord.TheVariants as word

-- the index of a name in a table, or the index after the last
abbrev pub index_among : {V : Type 0} → List (List ℕ × V) → List ℕ → ℕ
index_among table name = unwrap_or (index_of name table) (length table)

-- the indices of names in a table
abbrev pub indices_among : {V : Type 0} → List (List ℕ × V) → List (List ℕ) → List ℕ
indices_among table names = map (index_among table) names

-- what is weighed of what is declared
abbrev pub scope_in : Declared → ScopeWord → Scope
scope_in d (word.Object x) = Object (index_among d.objects x)
scope_in d (word.Group g) = Group (index_among d.groups g)
scope_in d word.All = All
scope_in d word.Count = Count
