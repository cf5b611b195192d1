-- A record as far as its rows were read.
use Rattle.std.specs.Prelude.{◌≡◌, Bool, Option, Result, IfOk}
use Rattle.std.specs.Bool.{then_some}
use Rattle.ordup_audit.specs.Records.{RecordState}
use Rattle.ordup_check.specs.declared.partial_record.PartialRecord.{PartialRecord}

-- the record that it stands for
abbrev pub record_so_far : PartialRecord → RecordState
record_so_far p = record {
  site = p.site;
  objects = p.updates.objects;
  groups = p.groups;
  limits = p.limits;
  sets = p.updates.sets;
  reports = p.reports.items;
  rounds = p.rounds.items;
  windows = p.windows.items;
}

-- after a row it is this record; there is none where the row was not taken
abbrev pub Takes : {E : Type 0} → Result Bool E → PartialRecord → Option RecordState → Type 0
Takes result new next = IfOk result (λ taken. then_some taken (record_so_far new) ≡ next)
