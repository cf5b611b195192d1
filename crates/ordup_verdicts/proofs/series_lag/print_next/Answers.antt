-- The next record is valid and goes on from those before, and its lag is written after their places and windows.
use Rattle.std.proofs.Common.{◌∙◌, ap, subst, sym}
use Rattle.std.specs.Io.KnownBytes.{Appends}
use Rattle.ordup_text.specs.Fronts.{AppendsFront}
use Rattle.ordup_series.proofs.AuditLemmas.{fewest-yes, next-valid}
use Rattle.ordup_lag.specs.Texts.{lag_after}
use Rattle.ordup_verdicts.proofs.SeriesLagLemmas.{before-is, lag-fails}
use Rattle.ordup_verdicts.proofs.series_lag.print_next.Goals as goal

pub write_lag-requires-clause-valid : goal.write_lag-requires-clause-valid
write_lag-requires-clause-valid g c =
    let (done, has) = c.requires.audited in
    next-valid done c.args.next.now _ (c.in-Ok.ensures.verdict done has).0 (sym c.is_yes.ensures ∙ c.if-not-is_yes.false)

pub returns-in-Ok-write_lag : goal.returns-in-Ok-write_lag
returns-in-Ok-write_lag g c done has =
    let (n, next) = fewest-yes _ _ (c.in-Ok.ensures.verdict done has).1 (sym c.is_yes.ensures ∙ c.if-not-is_yes.false) in
    let before = before-is done c.places.result c.rounds.result has.valid.1 (c.places.ensures.places ∙ has.places)
    (c.rounds.ensures.rounds ∙ has.rounds) in (
      next,
      subst
          (λ b. Appends (g.W.Write.contents c.args.output.now) (g.W.Write.contents c.write_lag.new.output) (lag_after b c.args.next.now))
          before c.in-Ok-write_lag.ensures.written,
    )

pub returns-in-Err-write_lag : goal.returns-in-Err-write_lag
returns-in-Err-write_lag g c done has =
    let (n, next) = fewest-yes _ _ (c.in-Ok.ensures.verdict done has).1 (sym c.is_yes.ensures ∙ c.if-not-is_yes.false) in
    let before = before-is done c.places.result c.rounds.result has.valid.1 (c.places.ensures.places ∙ has.places)
    (c.rounds.ensures.rounds ∙ has.rounds) in
    rw c.fault_of_lag.ensures
    (lag-fails done c.args.next.now c.take.new.self (g.W.Write.contents c.args.output.now) (g.W.Write.contents c.write_lag.new.output)
    c.in-Err-write_lag.fault next.valid
    (subst
    (λ b. AppendsFront (g.W.Write.contents c.args.output.now) (g.W.Write.contents c.write_lag.new.output) (lag_after b c.args.next.now))
    before c.in-Err-write_lag.ensures.front)
    (λ e. ap g.W.Write.contents (c.in-Err-write_lag.ensures.refused e)))
