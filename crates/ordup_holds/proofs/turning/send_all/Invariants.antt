use Rattle.std.proofs.Common.{◌≡◌, length}
use Rattle.ordup_holds.specs.Books.{KeepsBook}
use Rattle.ordup_holds.specs.Turning.{SentOut, send_bound}
use Rattle.ordup_holds.proofs.BookLemmas.{Upto}
use Rattle.ordup_holds.proofs.turning.send_all.Given as goal

-- the sites so far were sent what they may be, the others are as they were
abbrev pub invariant-loop-index : goal.invariant-loop-index
invariant-loop-index g l = record {
  kept : KeepsBook l.primary l.ends.items;
  upto : Upto l.index (SentOut (send_bound l.fn.primary)) (record { primary = l.fn.primary; ends = l.fn.ends.items })
      (record { primary = l.primary; ends = l.ends.items });
  sites : length l.primary.sites ≡ l.index-end;
}
