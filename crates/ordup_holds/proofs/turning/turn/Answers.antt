-- The settlements change nothing that the feeds are tied to.
-- So what the reports leave is still a book when updates are sent, and its values for each site stay the initial ones.
use Rattle.std.proofs.Common.{ap, ◌∙◌}
use Rattle.ordup_primary.specs.Primaries.{PrimaryState}
use Rattle.ordup_holds.proofs.BookLemmas.{keeps-settled, spare_values-kept, spare_values-turned}
use Rattle.ordup_holds.proofs.turning.turn.Goals as goal

pub invariant_of-book : goal.invariant_of-book
invariant_of-book g c =
    let reported = c.report_all.ensures.reported in
    let feeds = c.settle_all.ensures.feeds in
    record {
      kept = keeps-settled _ _ _ feeds c.report_all.ensures.kept;
      spare_values =
          spare_values-kept c.book.inside.primary c.settle_all.new.primary _ (feeds.log ∙ ap (λ (p : PrimaryState). p.log) reported.primary)
          (feeds.count ∙ reported.sites) c.book.invariant.spare_values;
    }

pub send_all-requires : goal.send_all-requires
send_all-requires g c = record { kept = keeps-settled _ _ _ c.settle_all.ensures.feeds c.report_all.ensures.kept }

pub invariant_of-book-2 : goal.invariant_of-book-2
invariant_of-book-2 g c =
    record {
      kept = c.send_all.ensures.kept;
      spare_values = spare_values-turned _ c.report_all.ensures.reported c.settle_all.ensures.feeds c.send_all.ensures.sent c.book.invariant.spare_values;
    }

pub invariant_of-book-in_err-send_all : goal.invariant_of-book-in_err-send_all
invariant_of-book-in_err-send_all g c =
    record {
      kept = c.send_all.ensures.kept;
      spare_values = spare_values-turned _ c.report_all.ensures.reported c.settle_all.ensures.feeds c.send_all.ensures.sent c.book.invariant.spare_values;
    }
