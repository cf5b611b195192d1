use Rattle.std.proofs.Common.{◌∙◌, length, arith, ap}
use Rattle.std.proofs.lemmas.List.{length-map}
use Rattle.ordup_objects.proofs.SerialLemmas.{length-serial}
use Rattle.ordup_primary.proofs.SetupLemmas.{successor-ready}
use Rattle.ordup_primary.proofs.primary.Primary.successor.Goals as goal

pub successor_with-requires-clause-values : goal.successor_with-requires-clause-values
successor_with-requires-clause-values g c =
    let log = c.self.inside.log in
    ap length c.end.ensures ∙ length-serial log (length log.sets) (omega arith) ∙ ap length c.self.invariant.primary.start
    ∙ length-map c.self.inside.setup.objects (λ e. e.1)

pub returns-clause-ready : goal.returns-clause-ready
returns-clause-ready g c =
    successor-ready c.self.inside.setup c.successor_with.result c.self.invariant.primary.ready c.successor_with.ensures.objects c.successor_with.ensures.sites
