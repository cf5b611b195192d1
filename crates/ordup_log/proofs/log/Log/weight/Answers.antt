use Rattle.std.proofs.Common.{arith, ◌∙◌, ◌-◌}
use Rattle.ordup_log.proofs.SpanLemmas.{span-one}
use Rattle.ordup_log.proofs.WeightLemmas.{weight-few}
use Rattle.ordup_log.proofs.log.Log.weight.Goals as goal

pub returns-clause-weight : goal.returns-clause-weight
returns-clause-weight g c =
    c.span.ensures.span ∙ span-one c.args.self.now c.args.groups.now c.args.scope c.args.number c.requires.first

pub returns-clause-few : goal.returns-clause-few
returns-clause-few g c =
    let h = c.args.self.now in
    let groups = c.args.groups.now in
    omega (
      arith,
      c.span.ensures.span,
      span-one h groups c.args.scope c.args.number c.requires.first,
      weight-few h c.keeps.ensures.legal groups c.keeps-2.ensures.groups c.args.scope c.requires.known (c.args.number - 1)
          (omega (arith, c.requires.first, c.requires.last)),
    )
