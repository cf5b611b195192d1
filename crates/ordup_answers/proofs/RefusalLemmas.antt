-- What is given by calls that may be refused.
use Rattle.std.proofs.Common.{◌≡◌, sym, ap, Option, Some, None, inl, inr}
use Rattle.std.specs.Prelude.{◌⊎◌, Result, Ok, Err, OnOk, IfErr}
use Rattle.ordup_objects.specs.declared.refusal.Refusal.{Refusal}
use Rattle.ordup_objects.specs.declared.refusal.Refusal.TheVariants.{NoMemory}
use Rattle.ordup_objects.specs.Refusals.{IsRefusal}
use Rattle.ordup_answers.specs.Refusals.{unless, Makes}

module _ {T : Type 0} where
  -- a call that gives no value is refused as it should be, or for want of memory
  pub refused_by_call : (o : Option Refusal) (x : T) (e : Refusal) → IsRefusal o e → (unless o x ≡ Err e) ⊎ (e ≡ NoMemory)
  refused_by_call None x e is = inr is
  refused_by_call (Some r) x e is = inl (ap (λ (r : Refusal). Err r) (sym is))

  -- a call that changes a value makes of it what it should
  pub made_by_call : (r : Result (Unit {0}) Refusal) (o : Option Refusal) (x old new : T) → OnOk r (new ≡ x) → OnOk r (o ≡ None)
      → IfErr r (IsRefusal o) → IfErr r (λ _. new ≡ old) → Makes (unless o x) old new r
  made_by_call (Ok done) o x old new is allowed refused same = rw (allowed, is)
  made_by_call (Err e) o x old new is allowed refused same = (refused_by_call o x e refused, same)
