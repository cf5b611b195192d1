use Rattle.std.proofs.lemmas.Result.{err_from_is_err_and}
use Rattle.ordup_primary.specs.Declarations.{site_refusal}
use Rattle.ordup_grammar.specs.Numbers.{amount_of}
use Rattle.ordup_primary.specs.Declarations.{with_site}
use Rattle.ordup_answers.proofs.RefusalLemmas.{refused_by_call}
use Rattle.ordup_answers.proofs.declaring.declare_site.Goals as goal

pub returns-in_err-site : goal.returns-in_err-site
returns-in_err-site g c =
    let failed = err_from_is_err_and c.from_residual.result c.from_residual.ensures.1 in
    let d = c.args.setup.now in
    let capacity = amount_of c.args.capacity in
    let o = site_refusal d.sites c.args.name.now capacity in
    let refused = rw (c.as_bytes.ensures, c.amount.ensures) at c.in_err-site.ensures.refused in
    rw (failed.1, failed.2)
    (refused_by_call o (with_site d c.args.name.now capacity) c.in_err-site.field-0.0 refused, c.in_err-site.ensures.err)
