use Rattle.std.proofs.Common.{arith, ◌∙◌}
use Rattle.std.proofs.lemmas.Result.{err_from_is_err_and}
use Rattle.ordup_log.proofs.LogLemmas.{append_refusal-prefix, prefix-longer}
use Rattle.ordup_log.proofs.log.Log.copy_updates.Goals as goal

pub returns-in_err-append-clause-refused : goal.returns-in_err-append-clause-refused
returns-in_err-append-clause-refused g c =
    let set = c.in_ok-set.ensures.copied ∙ c.set.ensures.set in
    let taken =
    append_refusal-prefix c.args.self.now c.loop-index.log c.in_ok-set.set c.loop-index.index c.keeps.ensures.legal
    c.keeps.ensures.few (omega arith) c.loop-index.invariant set in
    let failed = err_from_is_err_and c.from_residual-in_err-append.result c.from_residual-in_err-append.ensures.1 in
    rw (failed.1, failed.2) (rw taken at c.in_err-append.ensures.refused)

pub loop-index-preserved : goal.loop-index-preserved
loop-index-preserved g c =
    let set = c.in_ok-set.ensures.copied ∙ c.set.ensures.set in
    c.in_ok-append.ensures.added
    ∙ prefix-longer c.args.self.now c.loop-index.log c.in_ok-set.set c.loop-index.index (omega arith) c.loop-index.invariant set
