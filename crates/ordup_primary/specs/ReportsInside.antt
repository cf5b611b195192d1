-- Reports in the fields of a `Reports`.
use Rattle.std.specs.Prelude.{◌-◌, vec_len, vec_capacity}
use Rattle.ordup_primary.specs.Reports.{ReportList}
use Rattle.ordup_primary.specs.declared.reports.Reports.TheInside.{Inside}

module _ {A : Type 0} where
  abbrev pub reports_of : Inside A → ReportList
  reports_of r = record { changes = r.changes.items; spare = vec_capacity r.changes - vec_len r.changes }
