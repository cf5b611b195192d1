-- The counter goes on from one group to the next, by as many rows as the group has members.
-- So the rows are those of one list.
use Rattle.std.proofs.Common.{◌≡◌, arith, get_or, [], List, ℕ}
use Rattle.ordup_objects.proofs.SameLemmas.{first-at}
use Rattle.ordup_rows.proofs.FormLemmas.{member_rows-more, more_written}
use Rattle.ordup_rows.proofs.forming.push_groups.Goals as goal

pub loop-index-preserved : goal.loop-index-preserved
loop-index-preserved g c =
    let index = c.loop-index.index in
    let groups = c.args.groups.now in
    let objects = c.args.objects.now in
    let counter = c.loop-index.counter in
    let none : List ℕ × List ℕ = ([], []) in
    let members : c.members-members.result.now ≡ (get_or groups index none).1 =
    rw c.new-group.ensures at c.members-members.ensures.members in
    let name = first-at groups index none c.name.result.now (omega arith) (rw c.new-group.ensures at c.name.ensures) in
    let more = rw (← name, ← members) at (member_rows-more objects counter index groups none (omega arith)) in
    let few = c.members-members.ensures.group.few in (
      more_written c.loop-index.rows c.push_members.new.rows _ _ _ _ c.loop-index.invariant.0
          c.in_ok-push_members.ensures.clean c.in_ok-push_members.ensures.text more,
      omega (arith, few),
      omega arith,
    )
