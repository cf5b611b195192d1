-- After the tests memory alone can be refused. On each way out the primary is as before, or has the new limit.
use Rattle.std.proofs.Common.{arith, refl, ap, ◌+◌, ◌∙◌}
use Rattle.std.proofs.lemmas.Result.{err_from_is_err_and}
use Rattle.ordup_primary.specs.Primaries.{PrimaryState}
use Rattle.ordup_primary.proofs.primary.Primary.relimit.Goals as goal

pub returns-in_err-check_relimit-clause-refused : goal.returns-in_err-check_relimit-clause-refused
returns-in_err-check_relimit-clause-refused g c =
    let failed = err_from_is_err_and c.from_residual.result c.from_residual.ensures.1 in
    rw (failed.1, failed.2, c.in_err-check_relimit.ensures.refused) refl

pub returns-in_err-check_relimit-clause-err : goal.returns-in_err-check_relimit-clause-err
returns-in_err-check_relimit-clause-err g c =
    let failed = err_from_is_err_and c.from_residual.result c.from_residual.ensures.1 in
    rw failed.1 refl

pub returns-in_err-check_relimit-clause-sound : goal.returns-in_err-check_relimit-clause-sound
returns-in_err-check_relimit-clause-sound g c = c.keeps.ensures.sound

pub put_limit-put-requires : goal.put_limit-put-requires
put_limit-put-requires g c = record {
  site = c.requires;
  known = c.in_ok-check_relimit.ensures.known;
  allowed = c.in_ok-check_relimit.ensures.allowed;
}

pub returns-in_err-put-clause-refused : goal.returns-in_err-put-clause-refused
returns-in_err-put-clause-refused g c =
    let failed = err_from_is_err_and c.from_residual-in_err-put.result c.from_residual-in_err-put.ensures.1 in
    rw (failed.1, failed.2, c.in_ok-check_relimit.ensures.allowed) c.in_err-put.ensures.refused

pub returns-in_err-put-clause-err : goal.returns-in_err-put-clause-err
returns-in_err-put-clause-err g c =
    let failed = err_from_is_err_and c.from_residual-in_err-put.result c.from_residual-in_err-put.ensures.1 in
    rw failed.1 c.in_err-put.ensures.err

pub returns-in_err-put-clause-sound : goal.returns-in_err-put-clause-sound
returns-in_err-put-clause-sound g c = c.keeps-2.ensures.sound

pub overflow_add-result : goal.overflow_add-result
overflow_add-result g c =
    let is = c.self.invariant.primary in
    omega (arith, is.acked, is.decided, is.few)

pub returns-clause-place : goal.returns-clause-place
returns-clause-place g c = ap (λ (p : PrimaryState). p.acked + 1) (c.self.view_is ∙ c.in_ok-put.ensures.changed)

pub returns-clause-changed : goal.returns-clause-changed
returns-clause-changed g c = c.in_ok-put.ensures.changed

pub returns-clause-allowed : goal.returns-clause-allowed
returns-clause-allowed g c = c.in_ok-check_relimit.ensures.allowed

pub returns-clause-sound : goal.returns-clause-sound
returns-clause-sound g c = c.keeps-2.ensures.sound
