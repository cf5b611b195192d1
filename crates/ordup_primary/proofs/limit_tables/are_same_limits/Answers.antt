use Rattle.std.proofs.Common.{arith, refl}
use Rattle.std.proofs.lemmas.List.{same_lists}
use Rattle.ordup_primary.proofs.limit_tables.are_same_limits.Goals as goal

pub returns : goal.returns
returns g c =
    (λ is. same_lists c.args.these.now c.args.those.now (omega arith) (λ k d lt. c.loop-index.invariant k d (omega arith)), λ e. refl)
