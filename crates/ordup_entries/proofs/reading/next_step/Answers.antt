use Rattle.std.proofs.Common.{◌≡◌, sym, rules, Some, None, refl}
use Rattle.ordup_entries.specs.Lines.{step_of}
use Rattle.ordup_entries.proofs.ReadingLemmas.{no_next, a_next, next-some, next-none}
use Rattle.ordup_entries.proofs.reading.next_step.Goals as goal

pub returns-in_err-step-clause-next : goal.returns-in_err-step-clause-next
returns-in_err-step-clause-next c number =
    let none : step_of c.in_ok-line.line ≡ None = search rules in
    rw c.from_residual-in_err-step.ensures
    (no_next number c.args.part c.args.room c.args.lines.now c.in_ok-line.line c.in_ok-line.rest c.in_ok-line.ensures.parts (rw none refl))

pub returns-then-may_be_next-clause-next : goal.returns-then-may_be_next-clause-next
returns-then-may_be_next-clause-next c number =
    let is : step_of c.in_ok-line.line ≡ Some c.in_ok-step.step = search rules in
    a_next number c.args.part c.args.room c.args.lines.now c.in_ok-line.line c.in_ok-line.rest c.in_ok-step.step c.in_ok-line.ensures.parts
    (next-some c.args.part c.args.room (step_of c.in_ok-line.line) c.in_ok-step.step is (sym c.if-may_be_next.ensures))

pub returns-else-may_be_next-clause-next : goal.returns-else-may_be_next-clause-next
returns-else-may_be_next-clause-next c number =
    let is : step_of c.in_ok-line.line ≡ Some c.in_ok-step.step = search rules in
    no_next number c.args.part c.args.room c.args.lines.now c.in_ok-line.line c.in_ok-line.rest c.in_ok-line.ensures.parts
    (next-none c.args.part c.args.room (step_of c.in_ok-line.line) c.in_ok-step.step is (sym c.if-may_be_next.ensures))
