-- What a hold makes of a book in which a limit of a site is changed.
use Rattle.std.specs.Prelude.{ℕ}
use Rattle.ordup_log.specs.declared.scope.Scope.{Scope}
use Rattle.ordup_primary.specs.Primaries.{relimited}
use Rattle.ordup_holds.specs.Books.{BookState}

-- the book whose primary has the limit of site s on a scope changed from the head on
abbrev pub with_changed_limit : BookState → ℕ → Scope → ℕ → BookState
with_changed_limit b s scope amount = record b { primary = relimited b.primary s scope amount }
