use Rattle.std.proofs.Common.{◌≡◌, length}
use Rattle.ordup_holds.specs.Books.{KeepsBook}
use Rattle.ordup_holds.specs.Turning.{Reported}
use Rattle.ordup_holds.proofs.BookLemmas.{Upto}
use Rattle.ordup_holds.proofs.turning.report_all.Given as goal

-- the sites so far reported, the others are as they were
abbrev pub invariant-loop-index : goal.invariant-loop-index
invariant-loop-index g l = record {
  kept : KeepsBook l.primary l.ends.items;
  upto : Upto l.index Reported (record { primary = l.fn.primary; ends = l.fn.ends.items })
      (record { primary = l.primary; ends = l.ends.items });
  sites : length l.primary.sites ≡ l.index-end;
}
