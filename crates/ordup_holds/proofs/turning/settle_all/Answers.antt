-- Each settlement that acknowledges the head is one more of those that were made, and none of them touches a feed.
use Rattle.std.proofs.Common.{suc, ◌∙◌, sym}
use Rattle.ordup_holds.specs.Turning.{Settles}
use Rattle.ordup_holds.proofs.SettlementLemmas.{settled-acked, same-feeds, same-feeds-more}
use Rattle.ordup_holds.proofs.turning.settle_all.Goals as goal

pub loop-primary-preserved : goal.loop-primary-preserved
loop-primary-preserved c =
    let before = c.loop-primary.invariant in
    let ok = c.in_ok-settle.ensures in
    let sound = c.acked.ensures.sound in
    let settles : Settles c.loop-primary.primary c.settle.new.self =
    record { allowed = ok.allowed; first = ok.first; later = ok.later } in (
      same-feeds-more _ _ _ before.0 (same-feeds _ _ sound settles),
      (
        suc before.1.0,
        (
          c.loop-primary.primary,
          before.1.1,
          settles,
          settled-acked _ _ _ sound settles (sym c.in-Acked.is ∙ ok.answer),
        ),
      ),
    )
