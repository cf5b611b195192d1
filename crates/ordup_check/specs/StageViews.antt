-- How far a reading has come, as the code holds it.
use Rattle.ordup_rows.specs.Stages.{Stage, reading, unread}
use Rattle.ordup_check.specs.PartialRecords.{record_so_far}
use Rattle.ordup_check.specs.declared.stage.Stage as held
use Rattle.ordup_check.specs.declared.stage.Stage.TheVariants as at

-- how far a reading has come
abbrev pub stage_of : held.Stage → Stage
stage_of at.Unread = unread
stage_of (at.Reading version decided so_far) = reading version decided (record_so_far so_far)
