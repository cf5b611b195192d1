use Rattle.std.proofs.lemmas.Bool.Decides.{Decides-eqb}
use Rattle.ordup_objects.proofs.SameLemmas.{same-tables}
use Rattle.ordup_primary.proofs.SetupLemmas.{other-sites, same-declared}
use Rattle.ordup_primary.proofs.setup.Setup.is_same.Goals as goal

pub returns-then-not-is_same-3 : goal.returns-then-not-is_same-3
returns-then-not-is_same-3 g c =
    let these = c.self.inside.capacities in
    let those = c.other.inside.capacities in
    rw (← c.self.view_is, ← c.other.view_is) (other-sites _ _ c.is_same-3.result (same-tables _ Decides-eqb these those _ c.is_same-3.ensures)
    c.if-not-is_same-3.true)

pub returns : goal.returns
returns g c =
    let these = c.self.inside in
    let those = c.other.inside in
    let sites = same-tables _ Decides-eqb these.capacities those.capacities _ c.is_same-3.ensures in
    rw (← c.self.view_is, ← c.other.view_is) (same-declared _ _ (c.is_same.ensures.0 c.if-not-is_same.false)
    (c.is_same-2.ensures.0 c.if-not-is_same-2.false) (sites.0 c.if-not-is_same-3.false) c.are_same_limits.result
    (rw (c.as_slice.ensures.value, c.as_slice-2.ensures.value) at c.are_same_limits.ensures))
