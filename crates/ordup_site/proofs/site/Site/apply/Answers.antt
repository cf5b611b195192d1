-- Values and distances move by the changes of the set, which is the step of a site from one place of a log to the next.
use Rattle.ordup_site.specs.Sites.{SiteState}
use Rattle.ordup_site.proofs.SiteLemmas.{IsStep-moved, HasApplied-last, HasApplied-next}
use Rattle.ordup_site.proofs.site.Site.apply.Goals as goal

pub put_moves-requires-clause-moves : goal.put_moves-requires-clause-moves
put_moves-requires-clause-moves g c =
    (c.args.set.now, rw c.changes.ensures.changes c.compute_moves.ensures.moves)

pub returns-clause-last : goal.returns-clause-last
returns-clause-last g c =
    let held = c.self.inside in
    let m = c.args.set.now in
    let s : SiteState = record { applied = held.applied; values = held.values; travelled = held.travelled.items } in
    let new = c.put_moves.new in
    let moves = rw c.deref_mut.ensures.value at c.put_moves.ensures in
    let step = IsStep-moved s m new.values new.travelled _ _
    (moves m (rw c.changes.ensures.changes c.compute_moves.ensures.moves)) held.travelled.ok.0 in
    rw (← c.self.view_is) (HasApplied-last _ _ m step)

pub returns-clause-next : goal.returns-clause-next
returns-clause-next g c =
    let held = c.self.inside in
    let m = c.args.set.now in
    let s : SiteState = record { applied = held.applied; values = held.values; travelled = held.travelled.items } in
    let new = c.put_moves.new in
    let moves = rw c.deref_mut.ensures.value at c.put_moves.ensures in
    let step = IsStep-moved s m new.values new.travelled _ _
    (moves m (rw c.changes.ensures.changes c.compute_moves.ensures.moves)) held.travelled.ok.0 in
    rw (← c.self.view_is) (HasApplied-next _ _ m step)
