-- A record of which all parts are lent.
use Rattle.std.specs.Prelude.{◌≤◌, ◌++◌, length, take}
use Rattle.ordup_audit.specs.Records.{RecordState, IsRecord}
use Rattle.ordup_audit.specs.RecordViews.{changes_in}
use Rattle.ordup_audit.specs.declared.record_view.RecordView.TheInside.{Inside}

module _ {A : Type 0} where
  -- what the parts stand for
  abbrev pub lent_state : Inside A → RecordState
  lent_state v = record {
    site = v.site.now;
    objects = v.objects.now;
    groups = v.groups.now;
    limits = v.limits.now;
    sets = take v.logged v.log.now.sets ++ v.rest.now;
    reports = changes_in v.reports;
    rounds = v.rounds.now;
    windows = v.windows.now;
  }

  -- they are those of a record
  pub record IsLent (v : Inside A) : Type 0 where
    pub whole : IsRecord (lent_state v)
    pub logged : v.logged ≤ length v.log.now.sets
