-- Queries that begin, and reads by open ones.
use Rattle.std.specs.Prelude.{◌≡◌, ℕ, pos, ◌+◌, ◌+ℤ◌, cond, Option, Some, None, List, [], length, slice_get, slice_index_or}
use Rattle.ordup_objects.specs.declared.refusal.Refusal.{Refusal}
use Rattle.ordup_objects.specs.declared.refusal.Refusal.TheVariants.{UnknownQuery}
use Rattle.ordup_objects.specs.States.{value_at}
use Rattle.ordup_site.specs.Sites.{SiteState}
use Rattle.ordup_primary.specs.Primaries.{PrimaryState}
use Rattle.ordup_query.specs.Imports.{charge}
use Rattle.ordup_objects.specs.Marks.{AreMarks}
use Rattle.ordup_query.specs.Queries.{refusal_at}
use Rattle.ordup_query.specs.declared.answer.ReadAnswer.{ReadAnswer}
use Rattle.ordup_world.specs.Events.{is_same}
use Rattle.ordup_world.specs.Worlds.{OpenState, Queries, find_query}

-- a query that begins at site s now: its reference is what is acknowledged, and it has read nothing
pub record IsBegun (p : PrimaryState) (s most : ℕ) (o : OpenState) : Type 0 where
  pub site : o.site ≡ s
  pub place : o.query.place ≡ p.acked
  pub limit : o.query.limit ≡ most
  pub sum : o.query.sum ≡ pos 0
  pub total : o.query.total ≡ 0
  pub reads : o.query.reads ≡ 0
  pub count : length o.query.marks ≡ length p.log.start
  pub marks : AreMarks p.log p.acked o.query.marks

-- the open query of a name stands at index i
pub record IsOpenAt (queries : Queries) (name : List ℕ) (i : ℕ) : Type 0 where
  pub held : OpenState
  pub entry : slice_get queries i ≡ Some (name, held)
  pub found : find_query name queries ≡ Some held

-- the site at a place
abbrev pub site_at : List SiteState → ℕ → SiteState
site_at sites s = slice_index_or sites s (record { applied = 0; values = []; travelled = [] })

-- why a read by the open query of a name is refused, if it is
abbrev pub refusal_of : Option OpenState → List SiteState → ℕ → Option Refusal
refusal_of None sites x = Some UnknownQuery
refusal_of (Some o) sites x = refusal_at o.query (site_at sites o.site) x

-- an open query with one answer more
abbrev pub with_answer : OpenState → ReadAnswer → OpenState
with_answer o a = record {
  site = o.site;
  query = record o.query { sum = o.query.sum +ℤ a.value; total = a.total; reads = o.query.reads + 1 };
}

-- a read of an object at the site of an open query is answered so
pub record IsAnswered (o : OpenState) (site : SiteState) (x : ℕ) (a : ReadAnswer) : Type 0 where
  pub allowed : refusal_at o.query site x ≡ None
  pub value : a.value ≡ value_at site.values x
  pub import : a.import ≡ charge site o.query.marks x
  pub total : a.total ≡ o.query.total + a.import

-- a read was accepted: the query of the name answered it and counts it, and no other query changed
pub record IsRead (old new : Queries) (name : List ℕ) (sites : List SiteState) (x : ℕ) (a : ReadAnswer) : Type 0 where
  pub before : OpenState
  pub found : find_query name old ≡ Some before
  pub answered : IsAnswered before (site_at sites before.site) x a
  pub queries : (q : List ℕ) → find_query q new ≡ cond (is_same name q) (Some (with_answer before a)) (find_query q old)
  pub count : length new ≡ length old
