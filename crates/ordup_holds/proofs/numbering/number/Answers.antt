use Rattle.ordup_holds.proofs.BookLemmas.{keeps-numbered}
use Rattle.ordup_holds.proofs.numbering.number.Goals as goal

pub invariant_of-book-2 : goal.invariant_of-book-2
invariant_of-book-2 g c =
    rw c.in_ok-number.ensures.added
    (record { kept = keeps-numbered _ _ c.args.set c.keeps.ensures.sound c.book.invariant.kept; spare_values = c.book.invariant.spare_values })
