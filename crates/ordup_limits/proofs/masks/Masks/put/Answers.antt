use Rattle.std.proofs.Common.{arith, refl}
use Rattle.std.proofs.lemmas.Bool.{ne_eqb}
use Rattle.ordup_limits.proofs.MaskLemmas.{has_bit-put}
use Rattle.ordup_limits.proofs.masks.Masks.put.Goals as goal

pub returns-then-index-ge-MOST_OBJECTS : goal.returns-then-index-ge-MOST_OBJECTS
returns-then-index-ge-MOST_OBJECTS g c = λ x i below few.
    rw (ne_eqb c.args.object x (omega (arith, below, c.index.ensures))) refl

pub returns : goal.returns
returns g c = λ x i below few.
    rw (← c.self.view_is) (has_bit-put c.self.inside.masks.items c.args.object c.args.limit c.index-2.result c.index_mut.result.now c.requires
    c.index-2.ensures (omega (arith, c.index.ensures, c.self.invariant)) c.index_mut.ensures.value x i)
