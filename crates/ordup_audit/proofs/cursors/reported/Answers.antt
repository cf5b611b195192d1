use Rattle.ordup_audit.proofs.CursorLemmas.{reported-none, reported-last}
use Rattle.ordup_audit.proofs.cursors.reported.Goals as goal

pub returns-then-passed-eq0 : goal.returns-then-passed-eq0
returns-then-passed-eq0 c = λ k upto. reported-none c.args.changes.now k c.args.passed c.if-passed-eq0.true upto

pub returns : goal.returns
returns c = λ k upto. reported-last c.args.changes.now k c.args.passed _ c.if-passed-eq0.false c.requires upto
