use Rattle.ordup_limits.specs.Limits.{are_on_one_scope}
use Rattle.ordup_limits.specs.Sizes.{most_limits}
use Rattle.ordup_limits.proofs.PutLemmas.{spare-found, spare-new}
use Rattle.ordup_limits.proofs.entries.has_spare_scope.Goals as goal

pub returns-in-Some : goal.returns-in-Some
returns-in-Some c =
    spare-found are_on_one_scope c.args.limits.now c.args.limit.now c.in-Some.field-0 most_limits c.in-Some.ensures c.len-count.ensures.few

pub returns-in-None : goal.returns-in-None
returns-in-None c = spare-new are_on_one_scope c.args.limits.now c.args.limit.now c.len-count.result most_limits c.in-None.ensures c.len-count.ensures.len
