-- What there is between two holds.
use Rattle.std.specs.Prelude.{ℕ, ℤ, ◌==◌, if◌then◌else◌, Option, List}
use Rattle.ordup_objects.specs.declared.change.Change.{Change}
use Rattle.ordup_query.specs.Queries.{QueryState}
use Rattle.ordup_world.specs.Queries.{ReadMade}
use Rattle.ordup_holds.specs.Books.{BookState}
use Rattle.ordup_holds.specs.Cells.{CellState}

-- a read by a query, and how many updates its site had applied
pub record ReadAt : Type 0 where
  pub made : ReadMade
  pub applied : ℕ

-- a query that began: its site, what it keeps, and its reads, the newest first
pub record Asked : Type 0 where
  pub site : ℕ
  pub query : QueryState
  pub reads : List ReadAt

-- What a session was answered: its set has this number; the update with this number is acknowledged; or the value of an object at a
-- site that had applied this many updates.
pub data Heard : Type 0 where
  Numbered : (number : ℕ) (set : List Change) → Heard
  Acknowledged : (number : ℕ) → Heard
  Viewed : (site object : ℕ) (value : ℤ) (applied : ℕ) → Heard

-- a session: how many updates it has seen, and what it was answered, the newest first
pub record Caller : Type 0 where
  pub seen : ℕ
  pub heard : List Heard

-- the book, the cells of the sites, the query of each number that began, and the session of each number
pub record Moment : Type 0 where
  pub book : BookState
  pub cells : List CellState
  pub queries : ℕ → Option Asked
  pub sessions : ℕ → Caller

-- the same for each number but one
abbrev pub but_at : {X : Type 0} → (ℕ → X) → ℕ → X → ℕ → X
but_at f i x j = if j == i then x else f j
