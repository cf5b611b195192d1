-- The cursor stands behind all rounds before this place. A place has one round at most, so one step is enough.
use Rattle.std.proofs.Common.{arith, ◌-◌, ◌+◌, ◌≡◌}
use Rattle.ordup_audit.proofs.CursorLemmas.{upto-more, upto-same}
use Rattle.ordup_audit.proofs.cursors.pass_rounds.Goals as goal
use Rattle.ordup_audit.proofs.cursors.pass_rounds.Goals.{else-passed-rounds-via-then-passed-rounds+else-rounds-passed}
use Rattle.ordup_audit.proofs.cursors.pass_rounds.Goals.{else-passed-rounds-via-else-passed-rounds}

pub returns-then-rounds-passed : goal.returns-then-rounds-passed
returns-then-rounds-passed c =
    let now : (c.args.place - 1) + 1 ≡ c.args.place = omega arith in
    upto-more (c.args.place - 1) c.args.passed c.args.place c.args.rounds.now c.requires.ascending
    (c.requires.before (c.args.place - 1) now) c.if-passed-rounds.true c.if-rounds-passed.true now

pub returns : goal.returns
returns c =
    let now : (c.args.place - 1) + 1 ≡ c.args.place = omega arith in
    upto-same (c.args.place - 1) c.args.passed c.args.place c.args.rounds.now c.requires.ascending
    (c.requires.before (c.args.place - 1) now)
    (λ there here. elim c.else-passed-rounds.branch [
      | else-passed-rounds-via-then-passed-rounds+else-rounds-passed w ↦ w.if-rounds-passed.false here
      | else-passed-rounds-via-else-passed-rounds w ↦ absurd (omega arith)
    ]) now
