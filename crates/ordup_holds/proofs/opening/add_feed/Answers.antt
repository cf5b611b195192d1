-- Spare capacity for an end and a cell is reserved before the feed is made, so both lists get theirs, or neither does.
use Rattle.std.proofs.Common.{◌∙◌, sym, ap}
use Rattle.ordup_objects.specs.Tables.{initial_state}
use Rattle.ordup_holds.proofs.OpeningLemmas.{feeds-more, has-spare}
use Rattle.ordup_holds.proofs.opening.add_feed.Goals as goal

pub capacity-requires : goal.capacity-requires
capacity-requires g c = c.requires.site

pub push_reserved-requires : goal.push_reserved-requires
push_reserved-requires g c = has-spare _ _ c.in_ok-reserve.ensures.ok

pub new-cell-requires : goal.new-cell-requires
new-cell-requires g c =
    rw (c.new-taker.ensures, c.in-Ok.ensures.ends.taker)
    (c.in_ok-replica.ensures.start _ (ap initial_state (c.objects-2.ensures ∙ sym c.objects.ensures)))

pub push_reserved-requires-2 : goal.push_reserved-requires-2
push_reserved-requires-2 g c = has-spare _ _ c.in_ok-reserve-2.ensures.ok

pub returns-clause-feeds : goal.returns-clause-feeds
returns-clause-feeds g c =
    let ends = rw c.reserve.ensures.items at c.push_reserved.ensures.items in
    let cells = rw c.reserve-2.ensures.items at c.push_reserved-2.ensures.items in
    let made = rw (c.objects-2.ensures, c.capacity.ensures.capacity) at c.in-Ok.ensures.ends in
    rw (ends, cells)
    (feeds-more c.args.setup.now c.args.site c.args.ends.now.items c.args.cells.now.items c.new-end.result c.new-cell.result
    c.requires.feeds (rw (c.new-cell.ensures, c.new-taker.ensures, c.new-end.ensures) made))
