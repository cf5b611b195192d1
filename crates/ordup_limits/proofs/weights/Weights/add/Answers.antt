-- The number of a scope is an index in the totals. The sum fits, as is required, and no other total changes.
use Rattle.std.proofs.Common.{arith, ap, refl, ◌<◌, ◌∙◌, ◌≡◌, get_or, length}
use Rattle.std.proofs.Math.ListN.{length-set}
use Rattle.std.proofs.lemmas.List.{get_or_read}
use Rattle.ordup_limits.specs.StoreLedgers.{scope_index}
use Rattle.ordup_limits.proofs.weights.Weights.add.Goals as goal

pub index_mut-requires : goal.index_mut-requires
index_mut-requires g c = omega (arith, c.scope_index.ensures, c.requires.index, c.self.invariant)

pub overflow_add-index_mut : goal.overflow_add-index_mut
overflow_add-index_mut g c =
    let totals = c.self.inside.totals.items in
    let there : c.scope_index.result < length totals = omega (arith, c.scope_index.ensures, c.requires.index, c.self.invariant) in
    omega (
      arith,
      get_or_read totals c.scope_index.result c.index_mut.result.now there c.index_mut.ensures.value 0,
      ap (λ i. get_or totals i 0) c.scope_index.ensures,
      rw (← c.self.view_is) at c.requires.fits,
    )

pub invariant_of-self : goal.invariant_of-self
invariant_of-self g c = length-set c.self.inside.totals.items c.scope_index.result _ ∙ c.self.invariant

pub returns-clause-raised : goal.returns-clause-raised
returns-clause-raised g c =
    let totals = c.self.inside.totals.items in
    let there : c.scope_index.result < length totals = omega (arith, c.scope_index.ensures, c.requires.index, c.self.invariant) in
    let was : c.index_mut.result.now ≡ get_or totals (scope_index c.args.scope.now) 0 =
    get_or_read totals c.scope_index.result c.index_mut.result.now there c.index_mut.ensures.value 0
    ∙ ap (λ i. get_or totals i 0) c.scope_index.ensures in
    rw (← c.self.view_is, was, c.scope_index.ensures) refl

pub returns-clause-count : goal.returns-clause-count
returns-clause-count g c = rw (← c.self.view_is) c.self.invariant
