-- Where each entry holds from the end of the span or before, the limits in force there are the last ones, which the table
-- has. Else they are made from the entries. An empty span passes none of them.
use Rattle.std.proofs.Common.{arith, refl, sym, ◌∙◌, length}
use Rattle.ordup_limits.specs.Entries.{in_force}
use Rattle.ordup_limits.proofs.EntryLemmas.{in_force-known, in_force-latest, latest-known}
use Rattle.ordup_limits.proofs.LimitLemmas.{within-empty, first_passed-within}
use Rattle.ordup_limits.proofs.limit_table.LimitTable.over.Goals as goal

pub returns-then-from-to : goal.returns-then-from-to
returns-then-from-to g c =
    let limits = in_force c.args.self.now c.args.to in
    let all = within-empty c.args.log.now c.args.groups.now limits c.args.from c.args.to (omega arith) in
    record {
      over = first_passed-within c.args.log.now c.args.groups.now limits c.args.from c.args.to all;
      within = (λ none. all, λ is. refl);
    }

pub hold_from-requires : goal.hold_from-requires
hold_from-requires g c = rw c.as_slice.ensures.value c.self.invariant.entries.rising

pub first_passed-requires-clause-known : goal.first_passed-requires-clause-known
first_passed-requires-clause-known g c =
    rw (c.as_slice-then-hold_from.ensures.limits, c.self.invariant.limits) (latest-known (length c.args.log.now.start) c.args.groups.now
    c.self.inside.entries.items (rw (← c.self.view_is) at c.requires.known))

pub returns-then-hold_from-clause-over : goal.returns-then-hold_from-clause-over
returns-then-hold_from-clause-over g c =
    let entries = c.self.inside.entries.items in
    let hold = rw c.as_slice.ensures.value at (c.if-hold_from.ensures.0 refl) in
    let same = c.as_slice-then-hold_from.ensures.limits ∙ c.self.invariant.limits ∙ sym (in_force-latest entries c.args.to hold) in
    rw (← c.self.view_is) (rw same at c.first_passed.ensures.over)

pub returns-then-hold_from-clause-within : goal.returns-then-hold_from-clause-within
returns-then-hold_from-clause-within g c =
    let entries = c.self.inside.entries.items in
    let hold = rw c.as_slice.ensures.value at (c.if-hold_from.ensures.0 refl) in
    let same = c.as_slice-then-hold_from.ensures.limits ∙ c.self.invariant.limits ∙ sym (in_force-latest entries c.args.to hold) in
    rw (← c.self.view_is) (rw same at c.first_passed.ensures.within)

pub in_force-limits-requires-clause-rising : goal.in_force-limits-requires-clause-rising
in_force-limits-requires-clause-rising g c = rw c.as_slice-2.ensures.value c.self.invariant.entries.rising

pub first_passed-requires-2-clause-known : goal.first_passed-requires-2-clause-known
first_passed-requires-2-clause-known g c =
    rw (c.as_slice-3.ensures.limits, c.in_force-limits.ensures, c.as_slice-2.ensures.value) (in_force-known (length c.args.log.now.start)
    c.args.groups.now c.self.inside.entries.items c.args.to (rw (← c.self.view_is) at c.requires.known))
