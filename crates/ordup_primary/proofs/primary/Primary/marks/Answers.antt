use Rattle.std.proofs.Common.{arith}
use Rattle.ordup_primary.proofs.primary.Primary.marks.Goals as goal

pub marks-requires : goal.marks-requires
marks-requires g c =
    let are = c.self.invariant.ledger in
    record {
      near = (omega (arith, c.self.invariant.primary.acked, are.decided), are.added);
      stands = rw c.groups.ensures.groups are.stand;
    }

pub returns : goal.returns
returns g c = rw (← c.self.view_is) c.marks.ensures
