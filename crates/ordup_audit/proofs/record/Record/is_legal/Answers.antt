use Rattle.std.proofs.Common.{◌∙◌, ap}
use Rattle.std.specs.Prelude.{◌==◌}
use Rattle.ordup_audit.proofs.RecordLemmas.{legal-rest}
use Rattle.ordup_audit.proofs.record.Record.is_legal.Goals as goal

pub returns : goal.returns
returns g c =
    rw (← c.self.view_is) (legal-rest c.self.inside.parts c.self.invariant c.is_empty.result (c.is_empty.ensures ∙ ap (λ n. n == 0)
    c.self.inside.parts.rest.ok.0) c.keeps.ensures.legal)
