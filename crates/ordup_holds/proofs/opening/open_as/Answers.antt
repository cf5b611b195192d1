-- A primary that sent nothing is tied to feeds that are empty. So it makes a book with them, and with values for each site.
use Rattle.std.proofs.Common.{◌∙◌, sym, length}
use Rattle.std.proofs.lemmas.List.{length-replicate}
use Rattle.ordup_primary.specs.Primaries.{first_progress}
use Rattle.ordup_holds.proofs.OpeningLemmas.{keeps-first, first-is}
use Rattle.ordup_holds.proofs.opening.open_as.Goals as goal

pub new-requires-2-clause-ends : goal.new-requires-2-clause-ends
new-requires-2-clause-ends g c =
    let made = c.in_ok-primary.ensures in
    let feeds = rw (c.setup-2.ensures, made.setup) at c.in-Ok-or_give_up-2.ensures.feeds in
    keeps-first c.args.setup _ _ c.in-Ok-or_give_up-2.field-0.1.items
    (first-is _ _ made.setup made.log made.numbers made.sites made.limits) feeds

pub new-requires-2-clause-spare : goal.new-requires-2-clause-spare
new-requires-2-clause-spare g c =
    let made = c.in_ok-primary.ensures in
    let count = rw (c.setup.ensures, made.setup) at c.in-Ok-or_give_up.ensures.count in
    let values = rw (c.setup.ensures, made.setup) at c.in-Ok-or_give_up.ensures.values in (
      rw made.sites (count ∙ sym (length-replicate (length c.args.setup.sites) first_progress)),
      rw made.log values,
    )

pub returns-3-clause-opened : goal.returns-3-clause-opened
returns-3-clause-opened g c =
    let made = c.in_ok-primary.ensures in
    let feeds = rw (c.setup-2.ensures, made.setup) at c.in-Ok-or_give_up-2.ensures.feeds in
    rw c.new-2.ensures
    (record { primary = first-is _ _ made.setup made.log made.numbers made.sites made.limits; feeds = feeds })
