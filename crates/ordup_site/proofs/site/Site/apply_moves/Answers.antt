-- The moves alone say what the values become. So the step is that of any set that has them, the log's next one included.
use Rattle.std.proofs.Common.{◌+◌, refl}
use Rattle.ordup_objects.specs.Serial.{set_at}
use Rattle.ordup_site.specs.Sites.{SiteState}
use Rattle.ordup_site.proofs.SiteLemmas.{IsStep-moved, HasApplied-last, HasApplied-next}
use Rattle.ordup_site.proofs.site.Site.apply_moves.Goals as goal

pub returns-clause-last : goal.returns-clause-last
returns-clause-last g c =
    let held = c.self.inside in
    let s : SiteState = record { applied = held.applied; values = held.values; travelled = held.travelled.items } in
    let new = c.put_moves.new in
    let moves = rw c.deref_mut.ensures.value at c.put_moves.ensures in
    rw (← c.self.view_is) (λ h m are.
    HasApplied-last s _ m (IsStep-moved s m new.values new.travelled _ _ (moves m are) held.travelled.ok.0) h)

pub returns-clause-next : goal.returns-clause-next
returns-clause-next g c =
    let held = c.self.inside in
    let s : SiteState = record { applied = held.applied; values = held.values; travelled = held.travelled.items } in
    let new = c.put_moves.new in
    let moves = rw c.deref_mut.ensures.value at c.put_moves.ensures in
    rw (← c.self.view_is) (λ h j is lt are.
    let m = set_at h (j + 1) in
    HasApplied-next s _ m (IsStep-moved s m new.values new.travelled _ _ (moves m are) held.travelled.ok.0) h j is lt refl)
