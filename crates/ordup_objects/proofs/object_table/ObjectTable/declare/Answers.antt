-- The test has seen to name, value and count. So the push can lack memory alone, and the longer table keeps its rules.
use Rattle.std.proofs.Common.{Option, rules, refl, sym, subst, w64}
use Rattle.std.proofs.lemmas.Int.{to_z-of_z}
use Rattle.std.proofs.lemmas.Result.{err_from_is_err_and}
use Rattle.ordup_objects.specs.declared.refusal.Refusal.{Refusal}
use Rattle.ordup_objects.specs.Refusals.{IsRefusal}
use Rattle.ordup_objects.proofs.TableLemmas.{objects-longer}
use Rattle.ordup_objects.proofs.object_table.ObjectTable.declare.Goals as goal

pub returns-in_err-name : goal.returns-in_err-name
returns-in_err-name g c =
    let failed = err_from_is_err_and c.from_residual.result c.from_residual.ensures.1 in
    let value = to_z-of_z w64 c.args.initial c.ranges.initial in
    let refused = subst (λ (r : Option Refusal). IsRefusal r failed.0) (sym (rw value at c.in_err-name.ensures.refused)) failed.2 in
    rw failed.1 (record { object = tt; declared = tt; allowed = tt; refused = refused; err = refl })

pub returns-in_err-push : goal.returns-in_err-push
returns-in_err-push g c =
    let failed = err_from_is_err_and c.from_residual-in_err-push.result c.from_residual-in_err-push.ensures.1 in
    let value = to_z-of_z w64 c.args.initial c.ranges.initial in
    let refused = subst (λ (r : Option Refusal). IsRefusal r failed.0) (sym (rw value at c.in_ok-name.ensures.allowed)) failed.2 in
    rw failed.1 (record { object = tt; declared = tt; allowed = tt; refused = refused; err = rw c.in_err-push.ensures.err c.self.view_is })

pub invariant_of-self : goal.invariant_of-self
invariant_of-self g c = rw c.in_err-push.ensures.err c.self.invariant

pub invariant_of-self-2 : goal.invariant_of-self-2
invariant_of-self-2 g c =
    objects-longer c.self.inside.objects c.push.new.self c.in_ok-name.name c.args.initial (search rules) (search rules) (search rules)
    c.self.invariant.1

pub returns : goal.returns
returns g c =
    let value = to_z-of_z w64 c.args.initial c.ranges.initial in
    record {
      object = rw (c.new.ensures, c.len-index.ensures.len, c.self.view_is) refl;
      declared = rw (c.self.view_is, c.in_ok-name.ensures.name, value) at c.in_ok-push.ensures.ok;
      allowed = rw value at c.in_ok-name.ensures.allowed;
      refused = tt;
      err = tt;
    }
