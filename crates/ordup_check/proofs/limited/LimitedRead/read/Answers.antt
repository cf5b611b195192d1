use Rattle.std.proofs.Common.{rules}
use Rattle.ordup_check.proofs.Cuts.{reads_cut}
use Rattle.ordup_check.proofs.limited.LimitedRead.read.Goals as goal

pub returns-clause-bytes : goal.returns-clause-bytes
returns-clause-bytes g c =
    rw c.if-self.false
    (reads_cut c.args.self.now.left c.in_ok-count.count _ _ c.read-2.new.buf _ (search rules) (search rules)
    (λ given. search rules) c.in_ok-count.ensures.bytes)
