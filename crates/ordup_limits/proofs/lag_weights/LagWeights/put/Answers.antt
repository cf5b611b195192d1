-- What is added and what is allowed change at one index alone, so only the bit of this index is decided anew.
-- No amount counts as more than 10^18, so its sum with what a log weighs fits.
use Rattle.std.proofs.Common.{arith, ap, refl, sym, get_or, ◌+◌, ◌∙◌}
use Rattle.std.specs.Prelude.{nat_lt}
use Rattle.std.proofs.Math.Nat.{min-le_right}
use Rattle.std.proofs.lemmas.Bool.{eq-eqb, ne_eqb}
use Rattle.ordup_limits.specs.Sizes.{greatest_amount}
use Rattle.ordup_limits.proofs.ChangeLemmas.{weighed-few}
use Rattle.ordup_limits.proofs.PassedLemmas.{ArePassed-put}
use Rattle.ordup_limits.proofs.lag_weights.LagWeights.put.Goals as goal

pub weighed-total-requires : goal.weighed-total-requires
weighed-total-requires g c = record { last = rw (← c.self.view_is) at c.requires.extended; known = c.requires.known }

pub weighed-requires : goal.weighed-requires
weighed-requires g c = record { last = rw (← c.self.view_is) at c.requires.reported; known = c.requires.known }

pub overflow_add-allowed : goal.overflow_add-allowed
overflow_add-allowed g c =
    let reported = rw (← c.self.view_is) at c.requires.reported in
    omega (
      arith,
      c.kept_amount.ensures,
      min-le_right c.args.limit.now.amount greatest_amount,
      c.weighed.ensures,
      weighed-few c.args.log.now c.keeps.ensures.legal c.args.groups.now c.keeps-2.ensures.groups c.args.limit.now.scope c.requires.known
          c.self.inside.reported reported,
      reported,
      c.keeps.ensures.few,
    )

pub invariant_of-self : goal.invariant_of-self
invariant_of-self g c =
    let index = c.args.index in
    let allowed = c.kept_amount.result + c.weighed.result in
    record {
      passed = ArePassed-put c.self.inside.passed c.with_bit-self-inside.result index c.self.inside.added c.self.inside.allowed
          c.put.new.self c.put-2.new.self _ c.self.invariant.passed c.with_bit-self-inside.ensures
          (ap (λ n. nat_lt n c.weighed-total.result) (sym (c.put-2.ensures index ∙ rw (eq-eqb index index refl) refl))
          ∙ ap (nat_lt (get_or c.put-2.new.self index 0)) (sym (c.put.ensures index ∙ rw (eq-eqb index index refl) refl)))
          (λ i other. c.put.ensures i ∙ rw (ne_eqb i index other) refl)
          (λ i other. c.put-2.ensures i ∙ rw (ne_eqb i index other) refl);
      fits = c.with_bit-self-inside.type_inv;
    }

pub returns : goal.returns
returns g c =
    rw (← c.self.view_is) (record {
      rest = refl;
      added = rw c.weighed-total.ensures at c.put.ensures;
      allowed = rw (c.kept_amount.ensures, c.weighed.ensures) at c.put-2.ensures;
    })
