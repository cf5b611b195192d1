use Rattle.std.proofs.Common.{rules}
use Rattle.ordup_objects.proofs.NameLemmas.{IsPadded-over}
use Rattle.ordup_objects.proofs.name.Name.padded.Goals as goal

pub invariant_of-result : goal.invariant_of-result
invariant_of-result c = rw c.copy_short.ensures (IsPadded-over c.args.bytes.now (search rules))
