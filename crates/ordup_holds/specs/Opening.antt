-- A book and cells at the start.
use Rattle.std.specs.Prelude.{◌≡◌, ℕ, Some, List, length, slice_get}
use Rattle.ordup_objects.specs.Tables.{initial_state}
use Rattle.ordup_primary.specs.Declarations.{Declared, capacity_of}
use Rattle.ordup_primary.specs.PrimaryInside.{first_state}
use Rattle.ordup_feed.specs.Ends.{Sending, AreNewEnds}
use Rattle.ordup_holds.specs.Books.{BookState}
use Rattle.ordup_holds.specs.Cells.{CellState}

-- The ends of the feeds of the first n sites, and their cells: each end has its cell, in which the taker's end of the same feed
-- lies. The feed has the site's capacity, begins at the initial values, and nothing went through it.
pub record AreFirstFeeds (d : Declared) (n : ℕ) (ends : List Sending) (cells : List CellState) : Type 0 where
  pub end_count : length ends ≡ n
  pub cell_count : length cells ≡ n
  pub each : (s : ℕ) (e : Sending) → slice_get ends s ≡ Some e
      → (c : CellState) × (slice_get cells s ≡ Some c) × AreNewEnds (initial_state d.objects) (capacity_of d s) e c.end

-- a store in which nothing has happened, as a book and cells
pub record AreOpened (d : Declared) (b : BookState) (cells : List CellState) : Type 0 where
  pub primary : b.primary ≡ first_state d
  pub feeds : AreFirstFeeds d (length d.sites) b.ends cells
