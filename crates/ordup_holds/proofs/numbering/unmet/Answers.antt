use Rattle.std.proofs.Common.{ℕ, ◌∙◌, ap, length, sym, subst, arith}
use Rattle.ordup_conditions.specs.Conditions.{AreConditionsKnown}
use Rattle.ordup_objects.proofs.SerialLemmas.{length-serial}
use Rattle.ordup_objects.specs.Sets.{AreKnown}
use Rattle.ordup_holds.proofs.numbering.unmet.Goals as goal

pub first_unmet-requires-clause-known : goal.first_unmet-requires-clause-known
first_unmet-requires-clause-known c =
    subst (λ (n : ℕ). AreKnown n c.args.set.now)
    (sym (ap length c.end.ensures ∙ length-serial c.args.log.now _ (omega arith)))
    c.requires.set

pub first_unmet-requires-clause-objects : goal.first_unmet-requires-clause-objects
first_unmet-requires-clause-objects c =
    subst (λ (n : ℕ). AreConditionsKnown n c.args.conditions.now)
    (sym (ap length c.end.ensures ∙ length-serial c.args.log.now _ (omega arith)))
    c.requires.conditions

pub returns-clause-first : goal.returns-clause-first
returns-clause-first c = rw (← c.end.ensures) c.first_unmet.ensures.first

pub returns-clause-met : goal.returns-clause-met
returns-clause-met c = rw (← c.end.ensures) c.first_unmet.ensures.met
