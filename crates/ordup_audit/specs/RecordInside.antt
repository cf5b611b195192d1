-- A record in its parts.
use Rattle.std.specs.Prelude.{◌≡◌, ◌<◌, false, [], ◌++◌, length, slice_index_or}
use Rattle.ordup_objects.specs.States.{is_legal}
use Rattle.ordup_objects.specs.Serial.{serial}
use Rattle.ordup_objects.specs.Tables.{initial_state}
use Rattle.ordup_audit.specs.Records.{RecordState, IsRecord}
use Rattle.ordup_audit.specs.declared.record.RecordParts.{RecordParts}

module _ {A : Type 0} where
  -- what the parts stand for
  abbrev pub state_of : RecordParts A → RecordState
  state_of p = record {
    site = p.site;
    objects = p.objects;
    groups = p.groups;
    limits = p.limits;
    sets = p.log.sets ++ p.rest.items;
    reports = p.reports.items;
    rounds = p.rounds.items;
    windows = p.windows.items;
  }

  -- the parts of a record: its updates are split where the first of the rest is not legal after those of the log
  pub record AreParts (p : RecordParts A) : Type 0 where
    pub whole : IsRecord (state_of p)
    pub start : p.log.start ≡ initial_state p.objects
    pub rest : 0 < length p.rest.items → is_legal (slice_index_or p.rest.items 0 []) (serial p.log (length p.log.sets)) ≡ false
