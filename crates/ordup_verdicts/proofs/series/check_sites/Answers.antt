use Rattle.ordup_check.specs.SitesVerdicts.{IsMalformedSites, JudgesSites}
use Rattle.ordup_verdicts.proofs.SeriesOutcomes.{not_read}
use Rattle.ordup_verdicts.proofs.series.check_sites.Goals as goal

pub returns-in-Err : goal.returns-in-Err
returns-in-Err g c =
    rw c.fault_of_series_reading.ensures (not_read JudgesSites IsMalformedSites _ _ c.in-Err.fault c.in-Err.ensures.malformed)
