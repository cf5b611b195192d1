-- Valid records.
use Rattle.std.specs.Prelude.{◌≡◌, ◌<◌, ◌≤◌, false, [], length, take, slice_index_or}
use Rattle.ordup_objects.specs.Serial.{History, serial, IsLegalHistory}
use Rattle.ordup_objects.specs.States.{is_legal}
use Rattle.ordup_objects.specs.Tables.{initial_state}
use Rattle.ordup_rounds.specs.Fewest.{IsCertificate}
use Rattle.ordup_audit.specs.Records.{RecordState, history_of, is_within, report_at}

-- a record is valid where its updates are legal one after the other, and its rounds and windows are a certificate
pub record IsValid (r : RecordState) : Type 0 where
  pub legal : IsLegalHistory (history_of r)
  pub certificate : IsCertificate (is_within r) (report_at r.reports) (length r.sets) r.rounds r.windows

-- the updates of a record up to the first that is not legal after those before it, over the initial values
pub record IsLegalPrefix (r : RecordState) (log : History) : Type 0 where
  pub start : log.start ≡ initial_state r.objects
  pub legal : IsLegalHistory log
  pub upto : length log.sets ≤ length r.sets
  pub front : log.sets ≡ take (length log.sets) r.sets
  pub next : length log.sets < length r.sets
      → is_legal (slice_index_or r.sets (length log.sets) []) (serial log (length log.sets)) ≡ false
