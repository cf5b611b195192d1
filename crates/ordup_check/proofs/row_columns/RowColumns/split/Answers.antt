use Rattle.std.proofs.Common.{◌∙◌}
use Rattle.csv.specs.Records.{fields_of}
use Rattle.ordup_check.proofs.ColumnLemmas.{columns_at-is}
use Rattle.ordup_check.proofs.row_columns.RowColumns.split.Goals as goal

pub returns : goal.returns
returns c = c.at_places.ensures ∙ columns_at-is (fields_of c.args.row.now)
