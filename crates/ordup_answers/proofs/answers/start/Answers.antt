-- The definition refuses no start of a setup that is ready, so only memory can be lacking.
-- The world has a copy of the setup, which declares the same.
use Rattle.std.proofs.Common.{◌≡◌, refl, [], None, Some, Result, Ok, Err}
use Rattle.std.specs.Prelude.{IfOk, IfErr}
use Rattle.ordup_objects.specs.declared.refusal.Refusal.{Refusal}
use Rattle.ordup_objects.specs.declared.refusal.Refusal.TheVariants.{NoMemory}
use Rattle.ordup_objects.specs.Refusals.{IsRefusal}
use Rattle.ordup_primary.specs.Declarations.{Declared, start_refusal}
use Rattle.ordup_world.specs.Worlds.{WorldState, StandsFor}
use Rattle.ordup_answers.specs.ScriptStates.{IsWorldOf, running}
use Rattle.ordup_answers.proofs.answers.start.Goals as goal

-- a start that nothing refuses fails for want of memory alone
starts : (A : Type 0) (d : Declared) (r : Result WorldState Refusal) → start_refusal d ≡ None
    → IfOk r (λ w. StandsFor {A = A} d w []) → IfErr r (λ e. IsRefusal (start_refusal d) e)
    → IfOk r (λ w. (start_refusal d ≡ None) × IsWorldOf {A = A} w (running d []))
    × IfErr r (λ e. (e ≡ NoMemory → ⊥) → start_refusal d ≡ Some e)
starts A d (Ok w) ready stands refused = ((ready, stands), tt)
starts A d (Err e) ready stands refused = (tt, λ other. absurd (other (rw ready at refused)))

pub returns : goal.returns
returns g c =
    let d = c.args.setup.now in
    let ready : start_refusal d ≡ None = rw (← c.if-not-is_ready.ensures) refl in
    let (started, refused) = starts g.row.A.Denot d c.start.result ready
    (rw c.in_ok-copy.ensures.copied at c.start.ensures.state) (rw c.in_ok-copy.ensures.copied at c.start.ensures.refused) in
    record { started = started; refused = refused }
