use Rattle.ordup_audit.proofs.CursorLemmas.{awaited-none, awaited-last}
use Rattle.ordup_audit.proofs.cursors.awaited.Goals as goal

pub returns-then-passed-eq0 : goal.returns-then-passed-eq0
returns-then-passed-eq0 c = λ k upto. awaited-none c.args.rounds.now k c.args.passed c.if-passed-eq0.true upto

pub returns : goal.returns
returns c = λ k upto. awaited-last c.args.rounds.now k c.args.passed c.requires.ascending c.if-passed-eq0.false upto
