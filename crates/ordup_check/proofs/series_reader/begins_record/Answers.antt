use Rattle.ordup_audit.proofs.Common.{◌∙◌, ap, sym}
use Rattle.std.specs.Str.{bytes_eq}
use Rattle.csv.specs.Records.{fields_of}
use Rattle.ordup_check.proofs.SeriesLemmas.{first-none, first-some}
use Rattle.ordup_check.proofs.series_reader.begins_record.Goals as goal

pub returns-in-Some : goal.returns-in-Some
returns-in-Some c =
    c.eq.ensures ∙ (ap (λ s. bytes_eq c.in-Some.kind.now s) c.as_slice.ensures
    ∙ sym (first-some (fields_of c.args.row.now) c.in-Some.kind.now c.in-Some.ensures.value))

pub returns-in-None : goal.returns-in-None
returns-in-None c = first-none (fields_of c.args.row.now) c.in-None.ensures.value
