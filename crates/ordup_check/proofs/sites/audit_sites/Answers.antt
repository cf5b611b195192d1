use Rattle.ordup_check.specs.SeriesLaws.{texts_of}
use Rattle.ordup_check.specs.SitesVerdicts.{IsMalformedSites, JudgesSites}
use Rattle.ordup_check.proofs.JudgingLemmas.{judged-known, malformed-known}
use Rattle.ordup_check.proofs.SeriesAnswers.{sites_answered}
use Rattle.ordup_check.proofs.WrittenSeries.{written_series_are_told}
use Rattle.ordup_check.proofs.sites.audit_sites.Goals as goal

pub returns-clause-verdict : goal.returns-clause-verdict
returns-clause-verdict g c =
    judged-known (g.R.Read.remaining c.args.input.now) c.audit_each-verdict.result _ JudgesSites c.new-records.ensures.first
    c.audit_each-verdict.ensures.verdict

pub returns-clause-malformed : goal.returns-clause-malformed
returns-clause-malformed g c =
    malformed-known (g.R.Read.remaining c.args.input.now) c.audit_each-verdict.result _ IsMalformedSites c.new-records.ensures.first
    c.audit_each-verdict.ensures.malformed

pub returns-clause-told : goal.returns-clause-told
returns-clause-told g c text records is few told some valid =
    sites_answered text records few told (g.R.Read.remaining c.args.input.now) c.audit_each-verdict.result is some valid
    (returns-clause-verdict g c) (returns-clause-malformed g c)

pub returns-clause-written : goal.returns-clause-written
returns-clause-written g c records text few are some valid =
    returns-clause-told g c (texts_of records) records text few (written_series_are_told records are) some valid
