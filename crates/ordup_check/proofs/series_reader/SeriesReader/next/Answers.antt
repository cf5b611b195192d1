-- The next record from where the reader stands.
use Rattle.ordup_audit.proofs.Common.{inl, inr}
use Rattle.csv.specs.Records.{fields_of}
use Rattle.ordup_check.specs.SeriesReading.{limited_bytes, passed, short_bytes}
use Rattle.ordup_check.proofs.SeriesLemmas.{stands_at_a_first_row}
use Rattle.ordup_check.proofs.series_reader.SeriesReader.next.Goals as goal

pub returns-in-Ok-Some-clause-next : goal.returns-in-Ok-Some-clause-next
returns-in-Ok-Some-clause-next g c limit text records has = elim has [
  | inl (before, are, stands) ↦
      c.end_record.ensures.next limit text before records are
      ((rw (c.in-Ok-Some.is, c.in-Ok-Some.field-0-is) at c.read_stage.ensures.ended) (passed limit text) before stands)
      (stands_at_a_first_row (short_bytes (limited_bytes g.R.Read.remaining)) c.args.self.now.position c.args.self.now.rdr
      (fields_of c.args.self.now.row) (passed limit text) before stands)
  | inr (stands, some, short, told) ↦ absurd ((rw (c.in-Ok-Some.is, c.in-Ok-Some.field-0-is) at c.read_stage.ensures.some) stands)
]
