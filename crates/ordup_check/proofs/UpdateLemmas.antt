-- Updates as far as their rows were read.
use Rattle.ordup_audit.proofs.Common.{◌++◌, ◌∙◌, ◌∷◌, ◌≡◌, [], ap, Change, Err}
use Rattle.ordup_audit.proofs.Common.{IfOk, List, Objects, Ok, Result, sym}
use Rattle.ordup_rows.specs.Stages.{with_change}
use Rattle.ordup_rows.proofs.Growth.{with_change-last}
use Rattle.ordup_check.specs.PartialUpdates.{Updates}

abbrev updates_over : Objects → List (List Change) → Updates
updates_over objects sets = record { objects = objects; sets = sets }

-- the last update got a change more
pub last_changed : {X E : Type 0} (objects : Objects) (front : List (List Change)) (m next : List Change) (change : Change)
    (result : Result X E) → IfOk result (λ x. next ≡ m ++ change ∷ [])
    → IfOk result (λ x. updates_over objects (front ++ next ∷ []) ≡ updates_over objects (with_change (front ++ m ∷ []) change))
last_changed objects front m next change (Err e) h = tt
last_changed objects front m next change (Ok x) h =
    ap (updates_over objects) (ap (λ n. front ++ n ∷ []) h ∙ sym (with_change-last front m change))
