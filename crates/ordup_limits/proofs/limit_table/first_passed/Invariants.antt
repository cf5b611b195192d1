use Rattle.std.proofs.Common.{◌≡◌, true, take, IfSome}
use Rattle.ordup_log.specs.Spans.{span}
use Rattle.ordup_log.specs.declared.scope.Scope.TheVariants.{All}
use Rattle.ordup_limits.specs.Limits.{within}
use Rattle.ordup_limits.proofs.limit_table.first_passed.Given as goal

-- the span passes none of the limits so far; what it weighs on all objects, once that was asked for
abbrev pub invariant-loop-index : goal.invariant-loop-index
invariant-loop-index g l = record {
  kept : within l.log l.groups (take l.index l.limits) l.from l.to ≡ true;
  all : IfSome l.all (λ weight. weight ≡ span l.log l.groups All l.from l.to);
}
