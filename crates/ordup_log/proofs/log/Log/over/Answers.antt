use Rattle.std.proofs.Common.{arith}
use Rattle.std.proofs.lemmas.Grind.{common_steps}
use Rattle.ordup_log.proofs.LogLemmas.{IsLog-empty}
use Rattle.ordup_log.proofs.log.Log.over.Goals as goal

pub invariant_of-result : goal.invariant_of-result
invariant_of-result g c =
    IsLog-empty c.args.start c.in_ok-end.end c.new.result c.new-2.result c.new-3.result c.in_ok-travelled.travelled c.new-4.result
    c.len.ensures.state c.in_ok-end.ensures.copied c.new.ensures.items c.new-2.ensures.items c.new-3.ensures.items
    (grind (arith, common_steps)) c.new-4.ensures.items
