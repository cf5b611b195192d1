-- Queries, and what their reads add up to.
use Rattle.std.specs.Prelude.{◌≡◌, ℕ, ℤ, pos, ◌+◌, ◌+ℤ◌, ◌==◌, if◌then◌else◌}
use Rattle.std.specs.Prelude.{Option, Some, None, List, [], ◌∷◌, length, map, nat_lt}
use Rattle.ordup_objects.specs.declared.refusal.Refusal.{Refusal}
use Rattle.ordup_objects.specs.declared.refusal.Refusal.TheVariants.{OutOfRange, TooMany, OverImport}
use Rattle.ordup_site.specs.Sites.{SiteState}
use Rattle.ordup_query.specs.declared.answer.QueryAnswer.{QueryAnswer}
use Rattle.ordup_query.specs.declared.answer.ReadAnswer.{ReadAnswer}
use Rattle.ordup_query.specs.Sizes.{most_reads, greatest_import_limit}
use Rattle.ordup_query.specs.Imports.{charge}

-- the reference, the marks of the objects there, the limit, and what the accepted reads added up to
pub record QueryState : Type 0 where
  pub place : ℕ
  pub marks : List ℕ
  pub limit : ℕ
  pub sum : ℤ
  pub total : ℕ
  pub reads : ℕ

-- why a query with this limit is refused, if it is
abbrev pub begin_refusal : ℕ → Option Refusal
begin_refusal limit = if nat_lt greatest_import_limit limit then Some OutOfRange else None

-- why a query refuses a read, if it does: it made as many as it may, or its total would pass the limit
abbrev pub read_refusal : ℕ → ℕ → ℕ → ℕ → Option Refusal
read_refusal reads limit total import =
    if reads == most_reads then Some TooMany else
    if nat_lt limit (total + import) then Some OverImport else None

-- why it refuses a read of an object at a site, if it does
abbrev pub refusal_at : QueryState → SiteState → ℕ → Option Refusal
refusal_at q s x = read_refusal q.reads q.limit q.total (charge s q.marks x)

-- values, added up
abbrev pub value_sum : List ℤ → ℤ
value_sum [] = pos 0
value_sum (value ∷ values) = value_sum values +ℤ value

-- imports, added up
abbrev pub import_sum : List ℕ → ℕ
import_sum [] = 0
import_sum (import ∷ imports) = import_sum imports + import

-- what reads with these answers come to, at a reference
abbrev pub summed_up : ℕ → List ReadAnswer → QueryAnswer
summed_up place answers = record {
  place = place;
  sum = value_sum (map (λ a. a.value) answers);
  total = import_sum (map (λ a. a.import) answers);
  reads = length answers;
}

-- the accepted reads had these answers, newest first, and there were no others
pub record HasRead (q : QueryState) (answers : List ReadAnswer) : Type 0 where
  pub reads : q.reads ≡ length answers
  pub sum : q.sum ≡ value_sum (map (λ a. a.value) answers)
  pub total : q.total ≡ import_sum (map (λ a. a.import) answers)
