-- A lent log may have more updates than the record, so the number is compared with how many of them count.
use Rattle.std.proofs.Common.{arith, ◌∙◌}
use Rattle.ordup_audit.proofs.RecordLemmas.{lent-count, lent-first, lent-rest}
use Rattle.ordup_audit.proofs.record_view.RecordView.set.Goals as goal

pub set-requires : goal.set-requires
set-requires g c = record {
  first = c.requires.first;
  last = omega (arith, c.if-number-self.true, c.self.invariant.logged);
}

pub returns-then-number-self : goal.returns-then-number-self
returns-then-number-self g c =
    rw (← c.self.view_is) (c.set.ensures.set ∙ lent-first c.self.inside.logged c.args.number c.self.inside.log.now.sets
    c.self.inside.rest.now c.self.invariant.logged c.requires.first c.if-number-self.true)

pub overflow_sub-result : goal.overflow_sub-result
overflow_sub-result g c = omega (arith, c.if-number-self.false)

pub overflow_sub-result-2 : goal.overflow_sub-result-2
overflow_sub-result-2 g c = omega (arith, c.if-number-self.false)

pub bounds-self-inside-number : goal.bounds-self-inside-number
bounds-self-inside-number g c =
    let last = rw (← c.self.view_is) at c.requires.last in
    omega (
      arith,
      last,
      lent-count c.self.inside.logged c.self.inside.log.now.sets c.self.inside.rest.now c.self.invariant.logged,
      c.if-number-self.false,
    )

pub returns : goal.returns
returns g c =
    let last = rw (← c.self.view_is) at c.requires.last in
    rw (← c.self.view_is) (lent-rest c.self.inside.logged c.args.number c.self.inside.log.now.sets c.self.inside.rest.now
    c.index-self-number.result c.self.invariant.logged c.if-number-self.false last)
