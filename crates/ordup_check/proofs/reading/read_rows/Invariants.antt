use Rattle.std.specs.Prelude.{ℕ, List}
use Rattle.ordup_check.specs.Reading.{HasRead, IsPlain, IsReached}
use Rattle.ordup_check.specs.StageViews.{stage_of}
use Rattle.ordup_rows.specs.Rows.{Row}
use Rattle.ordup_check.proofs.reading.read_rows.Given as goal

-- the rows so far were taken, and the reader is as before but for what it read
abbrev pub invariant-loop-count : goal.invariant-loop-count
invariant-loop-count g l =
    IsPlain l.rdr × IsReached (stage_of l.stage)
    × ((text : List ℕ) (before : List Row) → HasRead g.R.Read.remaining l.fn.rdr before (stage_of l.fn.stage) l.fn.read text
    → HasRead g.R.Read.remaining l.rdr before (stage_of l.stage) l.count text)
