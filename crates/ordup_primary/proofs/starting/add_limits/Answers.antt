-- The tables copied so far are the first ones of the setup. After a table for each site they are all.
use Rattle.std.proofs.Common.{arith, ◌≡◌, ◌∙◌, []}
use Rattle.std.proofs.lemmas.List.{take_more, take_all}
use Rattle.ordup_primary.specs.Declarations.{limits_of}
use Rattle.ordup_primary.proofs.starting.add_limits.Goals as goal

pub limits-requires : goal.limits-requires
limits-requires g c = omega (arith, c.new.ensures, c.loop-site-test.true, c.sites-site-end.ensures.sites)

pub loop-site-init : goal.loop-site-init
loop-site-init g c = c.requires

pub loop-site-preserved : goal.loop-site-preserved
loop-site-preserved g c =
    let setup = c.args.setup.now in
    let site = c.loop-site.site in
    let copied : c.in_ok-table.table ≡ limits_of setup site =
    c.in_ok-table.ensures.copied ∙ rw c.new.ensures at c.limits.ensures.limits in
    let more = take_more setup.limits site []
    (omega (arith, c.loop-site-test.true, c.sites-site-end.ensures.sites, c.sites-site-end.ensures.limits)) in
    rw (more, ← copied, ← c.loop-site.invariant) c.in_ok-push.ensures.items

pub returns-clause-limits : goal.returns-clause-limits
returns-clause-limits g c =
    c.loop-site.invariant ∙ take_all c.loop-site.site c.args.setup.now.limits
    (omega (arith, c.loop-site-test.false, c.sites-site-end.ensures.sites, c.sites-site-end.ensures.limits))
