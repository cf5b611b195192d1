-- What was sent is in the log, so the update is there.
-- The site has the values before it, so the moves in the log are its own too.
use Rattle.std.proofs.Common.{arith, refl, ◌≡◌, ◌<◌, ◌+◌, length, get_or}
use Rattle.std.proofs.lemmas.Grind.{common_steps}
use Rattle.ordup_objects.specs.Serial.{set_at}
use Rattle.ordup_primary.specs.Primaries.{progress_at}
use Rattle.ordup_site.specs.Sites.{SiteState}
use Rattle.ordup_world.specs.Worlds.{StoreState}
use Rattle.ordup_world.specs.StoreInside.{state_of}
use Rattle.ordup_world.proofs.StoreLemmas.{holds-at, next_moves}
use Rattle.ordup_world.proofs.StepLemmas.{unknown-site, nothing_to_apply, applied_next}
use Rattle.ordup_world.proofs.store.Store.apply.Goals as goal

pub returns-then-index-len : goal.returns-then-index-len
returns-then-index-len g c = unknown-site c.requires c.args.site (grind (arith, common_steps)) (λ setup past no. rw no refl)

pub returns-then-applied-sent : goal.returns-then-applied-sent
returns-then-applied-sent g c =
    nothing_to_apply c.requires (grind (arith, common_steps)) {site = c.index-3.result.now} (grind (arith, common_steps))
    (grind (arith, common_steps))

pub apply_moves-requires : goal.apply_moves-requires
apply_moves-requires g c =
    let w : StoreState = state_of c.args.self.now in
    let site : SiteState = c.index_mut.result.now in
    let here : c.applied-applied.result ≡ site.applied = grind (arith, common_steps) in
    let lt : c.args.site < length w.sites = grind (arith, common_steps) in
    let at : site ≡ get_or w.sites c.args.site site = grind (arith, common_steps) in
    let holds = holds-at w c.requires c.args.site site lt at in
    let less : site.applied < (progress_at w.primary c.args.site).sent =
    omega (arith, holds.holds.applied, here, c.sent-sent.ensures, c.if-applied-sent.false) in
    record {
      moves = (
        set_at w.primary.log (site.applied + 1),
        next_moves w c.requires c.args.site site lt at less c.moves.result.now (rw (c.log.ensures, here) at c.moves.ensures.moves),
      );
      spare = omega (arith, less, holds.holds.sent, c.requires.primary.few);
    }

pub returns : goal.returns
returns g c =
    let w : StoreState = state_of c.args.self.now in
    let site : SiteState = c.index_mut.result.now in
    let here : c.applied-applied.result ≡ site.applied = grind (arith, common_steps) in
    let lt : c.args.site < length w.sites = grind (arith, common_steps) in
    let at : site ≡ get_or w.sites c.args.site site = grind (arith, common_steps) in
    let holds = holds-at w c.requires c.args.site site lt at in
    let less : site.applied < (progress_at w.primary c.args.site).sent =
    omega (arith, holds.holds.applied, here, c.sent-sent.ensures, c.if-applied-sent.false) in
    let moves = next_moves w c.requires c.args.site site lt at less c.moves.result.now (rw (c.log.ensures, here) at c.moves.ensures.moves) in
    rw c.index-4.ensures (applied_next c.requires lt at less (grind (arith, common_steps))
    (c.apply_moves.ensures.next w.primary.log site.applied holds.holds.prefix (omega (arith, less, holds.holds.sent)) moves))
