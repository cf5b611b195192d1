-- The log is over the objects that are declared, so a ledger of the declared limits is one of the log.
use Rattle.std.proofs.Common.{◌≡◌, ap, arith, length, ◌∙◌}
use Rattle.std.proofs.lemmas.Bool.{eqb-true}
use Rattle.std.proofs.lemmas.Result.{IfOk-weaker}
use Rattle.ordup_objects.specs.Serial.{History}
use Rattle.ordup_primary.specs.Declarations.{Declared}
use Rattle.tests_of_scripts.proofs.events.worked_rows.ledger_of_a.Goals as goal

pub returns-clause-stands : goal.returns-clause-stands
returns-clause-stands g c =
    let p = c.args.primary.now in
    let setup = c.setup-setup.ensures in
    let log = ap (λ (h : History). length h.start) c.log.ensures in
    let objects = c.objects-2.ensures ∙ ap (λ (d : Declared). d.objects) setup in
    let same : length p.log.start ≡ length p.setup.objects =
    omega (arith, c.objects.ensures, log, c.len.ensures.len, ap length objects, eqb-true c.objects.result c.len.result c.expect-2.ensures) in
    IfOk-weaker c.new.result _ _ (λ ledger stands.
    stands p.log p.setup.groups (omega (arith, same, c.len.ensures.few, ap length objects))
    (rw same (rw setup at c.limits.ensures.known))) c.new.ensures.stands
