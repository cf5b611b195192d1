-- The rows of a text from its start on, up to its end or to the first that is bad.
use Rattle.ordup_audit.proofs.Common.{IfSome, refl, subst}
use Rattle.csv.specs.Reading.{source_of}
use Rattle.csv.specs.Records.{fields_of}
use Rattle.ordup_check.specs.Reading.{HasBadRow}
use Rattle.ordup_check.specs.StageViews.{stage_of}
use Rattle.ordup_check.proofs.ReadSteps.{bad, closed-sound, malformed-number, whole}
use Rattle.ordup_check.proofs.reading.read_stage.Goals as goal

pub returns-in-Text-clause-taken : goal.returns-in-Text-clause-taken
returns-in-Text-clause-taken g c =
    whole g.R.Read.remaining c.args.rdr.now c.read_rows-read.new.rdr (source_of g.R.Read.remaining c.args.rdr.now)
    (stage_of c.read_rows-read.new.stage) c.in-Text.next (fields_of c.read_rows-read.new.row) refl c.requires
    (rw (c.in-Ok-or_give_up.is, c.in-Text.is) at c.read_rows-read.ensures.ended)

pub returns-in-Text-clause-sound : goal.returns-in-Text-clause-sound
returns-in-Text-clause-sound g c =
    closed-sound (stage_of c.read_rows-read.new.stage) (rw (c.in-Ok-or_give_up.is, c.in-Text.is) at c.read_rows-read.ensures.stage)

pub returns-in-Row-clause-malformed : goal.returns-in-Row-clause-malformed
returns-in-Row-clause-malformed g c n e =
    subst (λ k. IfSome (source_of g.R.Read.remaining c.args.rdr.now) (λ text. HasBadRow text k)) (malformed-number c.in-Row.row n e)
    (bad g.R.Read.remaining c.args.rdr.now c.read_rows-read.new.rdr (source_of g.R.Read.remaining c.args.rdr.now)
    (stage_of c.read_rows-read.new.stage) c.in-Row.row (fields_of c.read_rows-read.new.row) refl c.requires
    (rw (c.in-Ok-or_give_up.is, c.in-Row.is) at c.read_rows-read.ensures.ended))
