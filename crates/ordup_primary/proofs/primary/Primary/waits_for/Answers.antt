use Rattle.std.proofs.Common.{◌<◌, ◌+◌, arith, refl}
use Rattle.std.proofs.lemmas.Bool.{lt-ltb}
use Rattle.ordup_primary.specs.Primaries.{progress_at}
use Rattle.ordup_primary.specs.PrimaryInside.{state_of}
use Rattle.ordup_primary.proofs.PrimaryLemmas.{waits-by_last_round}
use Rattle.ordup_primary.proofs.primary.Primary.waits_for.Goals as goal

pub returns : goal.returns
returns g c =
    let p = state_of c.self.inside in
    let sound = c.self.invariant.primary in
    let there = rw (← c.self.view_is) at c.requires in
    let below : p.acked < p.decided = omega (arith, sound.acked, c.if-self.false) in
    let late : (progress_at p c.args.site).reported < p.acked + 1 = omega (arith, c.if-reported-head.false, rw (← c.self.view_is) at c.reported.ensures) in
    rw (c.last_place.ensures, c.rounds.ensures, ← c.self.view_is, lt-ltb p.acked p.decided below)
    (waits-by_last_round p c.args.site (p.acked + 1) sound there below refl late)
