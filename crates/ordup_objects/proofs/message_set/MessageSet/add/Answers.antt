-- The test of one change more promises the same of the longer set, so only the push itself can still be refused.
use Rattle.std.proofs.Common.{arith, refl}
use Rattle.std.proofs.lemmas.Result.{err_from_is_err_and}
use Rattle.std.proofs.lemmas.Grind.{common_steps}
use Rattle.ordup_objects.proofs.message_set.MessageSet.add.Goals as goal

pub check_one_more-requires : goal.check_one_more-requires
check_one_more-requires g c = record {
  known = rw (c.len.ensures.len, c.changes.ensures.changes) c.requires;
  set = rw c.changes.ensures.changes c.changes.ensures.set;
}

pub returns-in_err-check_one_more : goal.returns-in_err-check_one_more
returns-in_err-check_one_more g c =
    let failed = err_from_is_err_and c.from_residual.result c.from_residual.ensures.1 in
    let refused = rw (c.len.ensures.len, c.changes.ensures.changes) at c.in_err-check_one_more.ensures.refused in
    rw failed.1 (record { added = tt; known = tt; allowed = tt; refused = rw refused failed.2; err = refl })

pub invariant_of-self : goal.invariant_of-self
invariant_of-self g c = grind (arith, common_steps)

pub returns : goal.returns
returns g c = grind (arith, common_steps)
