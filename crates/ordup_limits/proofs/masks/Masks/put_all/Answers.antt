use Rattle.std.proofs.Common.{◌==◌, arith}
use Rattle.std.proofs.lemmas.Bool.{lt-ltb}
use Rattle.ordup_limits.specs.Masks.{has_bit}
use Rattle.ordup_limits.proofs.MaskLemmas.{objects-more}
use Rattle.ordup_limits.proofs.masks.Masks.put_all.Goals as goal

pub loop-object-preserved : goal.loop-object-preserved
loop-object-preserved g c = λ x i below few.
    objects-more c.loop-object.object c.new.result x (i == c.args.limit) (has_bit c.loop-object.self i x) _ _
    c.new.ensures (c.put.ensures x i below few) (c.loop-object.invariant x i below few)

pub returns : goal.returns
returns g c = λ x i below few.
    rw (lt-ltb x c.loop-object.object (omega (arith, below, c.loop-object-test.false))) at (c.loop-object.invariant x i below few)
