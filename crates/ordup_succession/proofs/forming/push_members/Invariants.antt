use Rattle.std.proofs.Common.{◌≡◌, ◌++◌, drop, map}
use Rattle.ordup_rows.specs.Rows.{name_at}
use Rattle.ordup_succession.specs.Spread.{spread}
use Rattle.ordup_succession.proofs.forming.push_members.Given as goal

-- the names so far and those that are left are all of them
abbrev pub invariant-loop-object : goal.invariant-loop-object
invariant-loop-object g l =
    l.out.text ++ spread (map (name_at l.objects) (drop l.object-index l.members))
    ≡ l.initial.out.text ++ spread (map (name_at l.objects) l.members)
