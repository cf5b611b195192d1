-- The changes before are a set already.
-- So only the last change can be refused, for the first reason that the whole list has.
use Rattle.std.proofs.Common.{arith, rules}
use Rattle.std.proofs.lemmas.Grind.{common_steps}
use Rattle.ordup_objects.proofs.RefusalLemmas.{set_refusal-last, IsSet-push}
use Rattle.ordup_objects.proofs.message_set.check_one_more.Goals as goal

pub returns-then-not-is_known-clause-refused : goal.returns-then-not-is_known-clause-refused
returns-then-not-is_known-clause-refused c = grind (arith, common_steps, set_refusal-last)

pub returns-then-not-has_number_in_range-clause-refused : goal.returns-then-not-has_number_in_range-clause-refused
returns-then-not-has_number_in_range-clause-refused c = grind (arith, common_steps, set_refusal-last)

pub returns-then-changes-eq-MOST_CHANGES-clause-refused : goal.returns-then-changes-eq-MOST_CHANGES-clause-refused
returns-then-changes-eq-MOST_CHANGES-clause-refused c = grind (arith, common_steps, set_refusal-last)

pub returns-then-is_changed-clause-refused : goal.returns-then-is_changed-clause-refused
returns-then-is_changed-clause-refused c = grind (arith, common_steps, set_refusal-last)

pub returns-clause-set : goal.returns-clause-set
returns-clause-set c =
    IsSet-push c.args.changes.now c.args.change.now c.requires.set (search rules) (search rules) (search rules)

pub returns-clause-allowed : goal.returns-clause-allowed
returns-clause-allowed c = grind (arith, common_steps, set_refusal-last)
