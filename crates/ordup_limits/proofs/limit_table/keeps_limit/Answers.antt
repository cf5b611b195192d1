use Rattle.std.proofs.Common.{◌∙◌, arith, inl, inr}
use Rattle.std.proofs.lemmas.Bool.{le-leb}
use Rattle.ordup_limits.proofs.LimitLemmas.{keeps-all, keeps-count}
use Rattle.ordup_limits.proofs.limit_table.keeps_limit.Goals as goal

pub returns-in-Count-clause-kept : goal.returns-in-Count-clause-kept
returns-in-Count-clause-kept g c = keeps-count c.args.log.now c.args.groups.now c.args.from c.args.to c.args.limit c.in-Count.is

pub returns-then-weight_of_all-limit-clause-kept : goal.returns-then-weight_of_all-limit-clause-kept
returns-then-weight_of_all-limit-clause-kept g c =
    le-leb c.weight_of_all-in-Object.result c.args.limit.amount c.if-weight_of_all-limit.true
    ∙ keeps-all c.args.log.now c.args.groups.now c.args.from c.args.to c.args.limit c.keeps.ensures.groups
    c.requires.known c.requires.forward c.requires.last
    (omega (arith, c.weight_of_all-in-Object.ensures.weight, c.if-weight_of_all-limit.true)) (λ count. elim c.in-Object.is [
      | inl object ↦ cc
      | inr group ↦ cc
    ])
