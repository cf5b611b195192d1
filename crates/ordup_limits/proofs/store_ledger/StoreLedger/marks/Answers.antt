-- The totals of the objects stand before those of other scopes, and they are the marks of the place so far.
-- Where the place before it is asked for, the last update is taken off them.
use Rattle.std.proofs.Common.{arith, ap, sym, ◌≡◌, ◌+◌, ◌-◌, ◌∙◌, length}
use Rattle.ordup_limits.proofs.OverLemmas.{AreMarks-totals}
use Rattle.ordup_limits.proofs.store_ledger.StoreLedger.marks.Goals as goal

pub on_objects-so_far-requires : goal.on_objects-so_far-requires
on_objects-so_far-requires g c =
    let stands = rw (← c.self.view_is) at c.requires.stands in
    omega (arith, stands.objects, c.objects.ensures)

pub returns-then-place-clause-count : goal.returns-then-place-clause-count
returns-then-place-clause-count g c =
    ap length c.in_ok-marks.ensures.items ∙ c.on_objects-so_far.ensures.count ∙ c.objects.ensures

pub returns-then-place-clause-marks : goal.returns-then-place-clause-marks
returns-then-place-clause-marks g c =
    let stands = rw (← c.self.view_is) at c.requires.stands in
    let here : c.self.inside.added.place ≡ c.args.place = sym c.place.ensures ∙ c.if-place.true in
    rw (← here) (AreMarks-totals c.args.log.now c.args.groups.now c.self.inside.added c.objects.result _ stands.added c.objects.ensures
    (ap length c.in_ok-marks.ensures.items ∙ c.on_objects-so_far.ensures.count) (c.in_ok-marks.ensures.items ∙ c.on_objects-so_far.ensures.totals))

pub take_off-requires : goal.take_off-requires
take_off-requires g c =
    let stands = rw (← c.self.view_is) at c.requires.stands in
    let near = rw (← c.self.view_is) at c.requires.near in
    let here : c.self.inside.added.place ≡ c.args.place + 1 = omega (arith, near.0, near.1, c.if-place.false, c.place.ensures) in
    let count = ap length c.in_ok-marks.ensures.items ∙ c.on_objects-so_far.ensures.count in
    record {
      first = omega arith;
      last = omega (arith, here, stands.added.last);
      count = count ∙ c.objects.ensures;
      marks = rw (← here) (AreMarks-totals c.args.log.now c.args.groups.now c.self.inside.added c.objects.result _ stands.added
          c.objects.ensures count (c.in_ok-marks.ensures.items ∙ c.on_objects-so_far.ensures.totals));
    }

pub returns-clause-count : goal.returns-clause-count
returns-clause-count g c = c.take_off.ensures.count

pub returns-clause-marks : goal.returns-clause-marks
returns-clause-marks g c =
    let here : c.args.place + 1 - 1 ≡ c.args.place = omega arith in
    rw here at c.take_off.ensures.marks
