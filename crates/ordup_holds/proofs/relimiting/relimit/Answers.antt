-- The scope and the site are tested first.
-- For those that are known, the primary's refusals are the ones that the cluster promises.
use Rattle.std.proofs.Common.{arith}
use Rattle.std.proofs.lemmas.Result.{err_from_is_err_and}
use Rattle.ordup_holds.proofs.BookLemmas.{keeps-relimited, primary-refuses}
use Rattle.ordup_holds.proofs.relimiting.relimit.Goals as goal

pub returns-in_err-place-clause-refused : goal.returns-in_err-place-clause-refused
returns-in_err-place-clause-refused g c =
    let known = rw (c.objects.ensures, c.groups.ensures.groups, c.setup-setup.ensures) at c.in_ok-check_scope.ensures.allowed in
    let sites = rw c.setup-setup.ensures at c.sites.ensures.sites in
    let same = primary-refuses c.book.inside.primary c.args.site c.args.scope c.args.amount known
    (omega (arith, c.if-index-sites.false, c.index.ensures, sites)) in
    let failed = err_from_is_err_and c.from_residual-in_err-place.result c.from_residual-in_err-place.ensures.1 in
    rw (← c.book.view_is, same, failed.1, failed.2) c.in_err-place.ensures.refused

pub invariant_of-book-2 : goal.invariant_of-book-2
invariant_of-book-2 g c =
    rw c.in_ok-place.ensures.changed
    (record { kept = keeps-relimited _ _ _ _ _ c.book.invariant.kept; spare_values = c.book.invariant.spare_values })

pub returns-clause-allowed : goal.returns-clause-allowed
returns-clause-allowed g c =
    let known = rw (c.objects.ensures, c.groups.ensures.groups, c.setup-setup.ensures) at c.in_ok-check_scope.ensures.allowed in
    let sites = rw c.setup-setup.ensures at c.sites.ensures.sites in
    let same = primary-refuses c.book.inside.primary c.args.site c.args.scope c.args.amount known
    (omega (arith, c.if-index-sites.false, c.index.ensures, sites)) in
    rw (← c.book.view_is, same) c.in_ok-place.ensures.allowed
