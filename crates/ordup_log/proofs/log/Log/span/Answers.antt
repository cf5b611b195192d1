-- A span on a group is the sum of those on its members, and a span on the count is how many updates it has.
use Rattle.std.proofs.Common.{arith, ◌-◌, sym, ap, ◌∙◌, sum_by}
use Rattle.ordup_objects.specs.Weights.{object_span}
use Rattle.ordup_log.specs.Groups.{members_at}
use Rattle.ordup_log.proofs.SpanLemmas.{span-members, span-count}
use Rattle.ordup_log.proofs.log.Log.span.Goals as goal

pub returns-in-Group-clause-span : goal.returns-in-Group-clause-span
returns-in-Group-clause-span g c =
    let h = c.args.self.now in
    let members = members_at c.args.groups.now c.in-Group.group in
    rw c.in-Group.is (c.span_on_members.ensures.span
    ∙ ap (sum_by (λ x. object_span h x c.args.from c.args.to)) c.members.ensures.members
    ∙ sym (span-members h members c.args.from (c.args.to - c.args.from)))

pub returns-in-All-clause-span : goal.returns-in-All-clause-span
returns-in-All-clause-span g c = rw c.in-All.is c.span_on_all.ensures.span

pub returns-in-All-clause-few : goal.returns-in-All-clause-few
returns-in-All-clause-few g c = c.span_on_all.ensures.few

pub returns-in-Count-clause-span : goal.returns-in-Count-clause-span
returns-in-Count-clause-span g c = rw c.in-Count.is (sym (span-count c.args.self.now c.args.groups.now c.args.from c.args.to))

pub returns-in-Count-clause-few : goal.returns-in-Count-clause-few
returns-in-Count-clause-few g c = omega (arith, c.keeps.ensures.few, c.requires.last)
