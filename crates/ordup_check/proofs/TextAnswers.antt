-- A text that tells a record is answered by it.
use Rattle.ordup_audit.proofs.Common.{◌≡◌, ◌≤◌, arith, Err, IfSome, inl, inr, length, List, Ok, Option, RecordState, refl, Some, ℕ}
use Rattle.csv.specs.Reading.{strip_bom}
use Rattle.ordup_rows.specs.Texts.{TextTells}
use Rattle.ordup_rows.proofs.TextLemmas.{texts_tell_one_record, texts_of_a_record_are_not_malformed}
use Rattle.ordup_check.specs.Answers.{AnswersRecord}
use Rattle.ordup_check.specs.Limits.{IsMalformedWithin}
use Rattle.ordup_check.specs.declared.reading.RecordReadFault.{RecordReadFault}
use Rattle.ordup_check.specs.declared.reading.RecordReadFault.TheVariants as fault

pub record_answered : (o : Option (List ℕ)) (text : List ℕ) (q r : RecordState) → o ≡ Some text → TextTells (strip_bom text) r
    → IfSome o (λ text. TextTells (strip_bom text) q) → AnswersRecord (Ok q) r
record_answered o text q r is tells read = texts_tell_one_record (strip_bom text) q r (rw is at read) tells

pub fault_answered : (limit : ℕ) (o : Option (List ℕ)) (text : List ℕ) (e : RecordReadFault) (r : RecordState) → o ≡ Some text
    → length text ≤ limit → TextTells (strip_bom text) r
    → ((n : ℕ) → e ≡ fault.Malformed n → IfSome o (λ text. IsMalformedWithin limit text n)) → AnswersRecord (Err e) r
fault_answered limit o text fault.Read r is few tells malformed = tt
fault_answered limit o text fault.NoMemory r is few tells malformed = tt
fault_answered limit o text (fault.Malformed n) r is few tells malformed =
    elim (rw is at (malformed n refl)) [
      | inl whole ↦ texts_of_a_record_are_not_malformed (strip_bom text) r n tells whole.1
      | inr long ↦ absurd (omega (arith, few, long.0))
    ]
