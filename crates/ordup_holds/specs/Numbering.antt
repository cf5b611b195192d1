-- What a hold makes of a book in which a set is numbered, and a turn is made after it.
use Rattle.std.specs.Prelude.{◌≡◌, ℕ, Some, None, List, Result, Ok, Err, length}
use Rattle.ordup_objects.specs.Serial.{History, serial, with_update}
use Rattle.ordup_objects.specs.States.{State, after}
use Rattle.ordup_objects.specs.Refusals.{IsRefusal}
use Rattle.ordup_objects.specs.declared.change.Change.{Change}
use Rattle.ordup_objects.specs.declared.refusal.Refusal.{Refusal}
use Rattle.ordup_objects.specs.declared.refusal.Refusal.TheVariants.{NoMemory}
use Rattle.ordup_log.specs.Appending.{append_refusal}
use Rattle.ordup_conditions.specs.Conditions.{first_unmet}
use Rattle.ordup_conditions.specs.declared.condition.Condition.{Condition}
use Rattle.ordup_holds.specs.declared.proposal_error.ProposalError.{ProposalError}
use Rattle.ordup_holds.specs.declared.proposal_error.ProposalError.TheVariants.{Refused, Unmet}
use Rattle.ordup_holds.specs.Books.{BookState}
use Rattle.ordup_holds.specs.Turning.{Turned, TurnedInPart}

-- the book with one more update in its log
abbrev pub with_numbered : BookState → List Change → BookState
with_numbered b set = record b { primary = record b.primary { log = with_update b.primary.log set } }

-- a turn of book b, which answers how many updates are acknowledged then; or the part of one that was made before a growth was
-- refused
abbrev pub IsTurn : BookState → BookState → Result ℕ Refusal → Type 0
IsTurn b c (Ok acked) = (acked ≡ c.primary.acked) × Turned b c
IsTurn b c (Err e) = (e ≡ NoMemory) × TurnedInPart b c

-- the state after the last update of a log
abbrev pub last_state : History → State
last_state log = serial log (length log.sets)

-- Why a set with conditions is not numbered: the state after it would not meet the condition at this index, which is the first such
-- one; or it would meet them all, and the set is refused.
abbrev pub IsNotNumbered : History → List Change → List Condition → ProposalError → Type 0
IsNotNumbered log set conditions (Unmet index) = first_unmet (after set (last_state log)) conditions ≡ Some index
IsNotNumbered log set conditions (Refused e) =
    (first_unmet (after set (last_state log)) conditions ≡ None) × IsRefusal (append_refusal log set) e
