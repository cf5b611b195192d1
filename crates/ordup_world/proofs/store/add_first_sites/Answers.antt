use Rattle.std.proofs.Common.{◌≡◌, ◌∙◌, ap, arith, length, refl, replicate}
use Rattle.std.proofs.lemmas.Result.{err_from_is_err_and}
use Rattle.ordup_world.specs.Worlds.{first_site}
use Rattle.ordup_world.proofs.store.add_first_sites.Goals as goal

pub returns : goal.returns
returns g c =
    let all : c.loop-site._site ≡ length c.args.setup.now.sites =
    omega (arith, c.loop-site-test.false, c.loop-site.auto._site-end, c.sites-site-end.ensures.sites) in
    record { sites = c.loop-site.invariant ∙ ap (λ n. replicate n (first_site c.args.setup.now)) all; refused = tt }

pub returns-in_err-site : goal.returns-in_err-site
returns-in_err-site g c =
    let failed = err_from_is_err_and c.from_residual.result c.from_residual.ensures.1 in
    rw (failed.1, failed.2) (record { sites = tt; refused = c.in_err-site.ensures.refused })

pub returns-in_err-push : goal.returns-in_err-push
returns-in_err-push g c =
    let failed = err_from_is_err_and c.from_residual-in_err-push.result c.from_residual-in_err-push.ensures.1 in
    rw (failed.1, failed.2) (record { sites = tt; refused = refl })
