use Rattle.std.proofs.Common.{◌∙◌, ap, arith}
use Rattle.ordup_primary.specs.Declarations.{Declared}
use Rattle.ordup_primary.specs.Primaries.{PrimaryState}
use Rattle.ordup_cluster.proofs.OpeningRefusal.{opening-allowed}
use Rattle.ordup_cluster.proofs.cluster.Cluster.after.Goals as goal

pub returns-2-clause-cluster : goal.returns-2-clause-cluster
returns-2-clause-cluster c =
    let opened = c.in_ok-book.ensures.opened in
    let setup = c.in-Ok-or_give_up.ensures.setup ∙ ap (λ (p : PrimaryState). p.setup) opened.primary in
    c.under_locks.ensures ∙ ap (λ (d : Declared). record { before = c.args.before; start = d }) setup

pub returns-2-clause-allowed : goal.returns-2-clause-allowed
returns-2-clause-allowed c =
    opening-allowed c.args.before c.args.setup (omega (arith, c.if-before-gt-MOST_BEFORE.false)) c.in_ok-book.ensures.allowed
