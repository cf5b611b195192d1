use Rattle.std.proofs.Common.{sym}
use Rattle.ordup_grammar.specs.Lines.{cut}
use Rattle.ordup_script.proofs.Plannings.{takes_line}
use Rattle.ordup_script.proofs.plan.PlanningLineTaker.take.Goals as goal

pub returns-clause-lines : goal.returns-clause-lines
returns-clause-lines g c =
    takes_line c.args.self.now c.take_line.new.self _ (cut c.args.line.now) c.take_line.result (sym c.of.ensures)
    c.take_line.ensures.plan
