-- The span keeps the limits before the index.
-- So the first one that it does not keep is the answer, and where the loop comes to its end it keeps them all.
use Rattle.std.proofs.Common.{arith, sym, ◌≡◌, false, true, get_or}
use Rattle.std.proofs.lemmas.List.{take_all}
use Rattle.ordup_limits.specs.Limits.{keeps_limit}
use Rattle.ordup_limits.proofs.LimitLemmas.{first_passed-within, first_passed-at, passed-not_within, within-more}
use Rattle.ordup_limits.proofs.limit_table.first_passed.Goals as goal

pub returns-then-not-keeps_limit : goal.returns-then-not-keeps_limit
returns-then-not-keeps_limit g c =
    let over : keeps_limit c.args.log.now c.args.groups.now c.args.from c.args.to
    (get_or c.args.limits.now c.loop-index.index c.index-limits-index.result) ≡ false =
    rw (← c.index-limits-index.is) (sym c.if-not-keeps_limit.ensures.kept) in
    record {
      over = first_passed-at c.args.log.now c.args.groups.now c.args.limits.now c.args.from c.args.to
          c.loop-index.index c.index-limits-index.result (omega arith) c.loop-index.invariant.kept over;
      within = passed-not_within c.args.log.now c.args.groups.now c.args.limits.now c.args.from c.args.to
          c.loop-index.index c.index-limits-index.result (omega arith) over;
    }

pub loop-index-preserved : goal.loop-index-preserved
loop-index-preserved g c =
    let kept : keeps_limit c.args.log.now c.args.groups.now c.args.from c.args.to
    (get_or c.args.limits.now c.loop-index.index c.index-limits-index.result) ≡ true =
    rw (← c.index-limits-index.is) (sym c.if-not-keeps_limit.ensures.kept) in
    record {
      kept = within-more c.args.log.now c.args.groups.now c.args.limits.now c.args.from c.args.to
          c.loop-index.index c.index-limits-index.result (omega arith) c.loop-index.invariant.kept kept;
      all = c.if-not-keeps_limit.ensures.all;
    }

pub returns-clause-over : goal.returns-clause-over
returns-clause-over g c =
    first_passed-within c.args.log.now c.args.groups.now c.args.limits.now c.args.from c.args.to
    (rw (take_all c.loop-index.index c.args.limits.now c.loop-index-test.false) at c.loop-index.invariant.kept)
