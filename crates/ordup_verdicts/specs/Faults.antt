-- The faults of records that are read and of a lag that is written, as those of a job.
use Rattle.std.specs.Prelude.{ℕ}
use Rattle.ordup_check.specs.declared.reading.RecordReadFault.{RecordReadFault}
use Rattle.ordup_check.specs.declared.reading.RecordReadFault.TheVariants as reading
use Rattle.ordup_check.specs.declared.series.SeriesReadFault.{SeriesReadFault}
use Rattle.ordup_check.specs.declared.series.SeriesReadFault.TheVariants as reading_series
use Rattle.ordup_lag.specs.declared.writing.LagFault.{LagFault}
use Rattle.ordup_lag.specs.declared.writing.LagFault.TheVariants as series
use Rattle.ordup_faults.specs.declared.fault.Fault.{Fault}
use Rattle.ordup_faults.specs.declared.fault.Fault.TheVariants as fault

-- the fault of reading a record
abbrev pub fault_of_reading : RecordReadFault → Fault
fault_of_reading reading.Read = fault.Read
fault_of_reading (reading.Malformed row) = fault.Malformed row
fault_of_reading reading.NoMemory = fault.NoMemory

-- the fault of reading a series of records
abbrev pub fault_of_series_reading : SeriesReadFault → Fault
fault_of_series_reading reading_series.Read = fault.Read
fault_of_series_reading (reading_series.Malformed place row) = fault.MalformedRecord place row
fault_of_series_reading reading_series.NoMemory = fault.NoMemory

-- the fault of reading the record at this place of a series
abbrev pub fault_of_next : RecordReadFault → ℕ → Fault
fault_of_next reading.Read place = fault.Read
fault_of_next (reading.Malformed row) place = fault.MalformedRecord place row
fault_of_next reading.NoMemory place = fault.NoMemory

-- the fault of writing the lag of a record
abbrev pub fault_of_lag : LagFault → Fault
fault_of_lag series.Write = fault.Write
fault_of_lag series.NoMemory = fault.NoMemory
