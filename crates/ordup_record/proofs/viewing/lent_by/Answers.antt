-- Field by field the view shows what the primary has of the site, so it is the record by its definition.
-- The tables keep their rules and the rounds are the fewest, so the record is valid.
use Rattle.ordup_audit.proofs.Common.{◌++◌, ◌<◌, ◌∙◌, ◌≡◌, [], ap, append-nil, history_of, IsLegalHistory, IsRecord, length, map}
use Rattle.ordup_audit.proofs.Common.{take}
use Rattle.ordup_audit.specs.RecordViews.{change_of_step}
use Rattle.ordup_objects.proofs.SameLemmas.{first-at}
use Rattle.ordup_primary.specs.Declarations.{Declared}
use Rattle.ordup_primary.specs.Primaries.{progress_at, reported_at}
use Rattle.ordup_record.specs.RecordsOf.{record_of, report_changes}
use Rattle.ordup_record.proofs.ChangeLemmas.{changes-copied}
use Rattle.ordup_record.proofs.RecordOfLemmas.{content-is, content-lent, content-valid, record-sound, record-valid}
use Rattle.ordup_record.proofs.viewing.lent_by.Goals as goal

pub invariant_of-result : goal.invariant_of-result
invariant_of-result g c =
    let p = c.args.primary.now in
    let s = c.args.site in
    let sound = c.keeps.ensures.sound in
    let setup : c.setup-setup.result.now ≡ p.setup = c.setup-setup.ensures in
    let known : s < length p.setup.sites = rw (← sound.count) c.requires in
    let name : c.site_name-name.result.now ≡ (record_of p s).site =
    first-at p.setup.sites s ([], 0) c.site_name-name.result.now known (rw setup at c.site_name-name.ensures) in
    let objects : c.objects-objects.result.now ≡ p.setup.objects =
    c.objects-objects.ensures ∙ ap (λ (d : Declared). d.objects) setup in
    let groups : c.groups-groups.result.now ≡ p.setup.groups =
    c.groups-groups.ensures.groups ∙ ap (λ (d : Declared). d.groups) setup in
    let sets : take c.decided.result c.log-log.result.now.sets ++ [] ≡ take p.decided p.log.sets =
    rw (c.decided.ensures, c.log-log.ensures) (append-nil (take p.decided p.log.sets)) in
    let progress = progress_at p s in
    let reports : map change_of_step c.report_changes.result.now ≡ (record_of p s).reports =
    ap (map change_of_step) c.report_changes.ensures.changes
    ∙ changes-copied progress.reports (length progress.reports)
    ∙ ap (report_changes (reported_at progress)) c.report_changes.ensures.decided in
    let legal : IsLegalHistory (history_of (record_of p s)) =
    rw sound.start at (c.prefixes_of_legal_histories_are_legal.ensures p.log p.decided sound.legal) in
    let is : IsRecord (record_of p s) =
    record-sound p s sound c.requires c.keeps.ensures.fewest
    (rw name at c.keeps-2.ensures)
    (rw objects at c.keeps-3.ensures.few)
    (rw objects at c.keeps-3.ensures.names)
    (rw objects at c.keeps-3.ensures.distinct)
    (rw groups at c.keeps-4.ensures.few)
    (rw groups at c.keeps-4.ensures.groups)
    (rw groups at c.keeps-4.ensures.names)
    (rw groups at c.keeps-4.ensures.distinct)
    (rw setup at c.groups-groups.ensures.members)
    (rw c.limits-limits.ensures.limits at c.keeps-5.ensures)
    legal in
    content-lent p s _ (record {
      site = name;
      objects = objects;
      groups = groups;
      limits = c.limits-limits.ensures.limits;
      sets = sets;
      reports = reports;
      rounds = c.rounds.ensures;
      windows = c.windows.ensures.windows;
    }) is (rw (c.decided.ensures, c.log-log.ensures) sound.decided)

pub returns-clause-content : goal.returns-clause-content
returns-clause-content g c =
    let p = c.args.primary.now in
    let s = c.args.site in
    let sound = c.keeps.ensures.sound in
    let setup : c.setup-setup.result.now ≡ p.setup = c.setup-setup.ensures in
    let known : s < length p.setup.sites = rw (← sound.count) c.requires in
    let name : c.site_name-name.result.now ≡ (record_of p s).site =
    first-at p.setup.sites s ([], 0) c.site_name-name.result.now known (rw setup at c.site_name-name.ensures) in
    let objects : c.objects-objects.result.now ≡ p.setup.objects =
    c.objects-objects.ensures ∙ ap (λ (d : Declared). d.objects) setup in
    let groups : c.groups-groups.result.now ≡ p.setup.groups =
    c.groups-groups.ensures.groups ∙ ap (λ (d : Declared). d.groups) setup in
    let sets : take c.decided.result c.log-log.result.now.sets ++ [] ≡ take p.decided p.log.sets =
    rw (c.decided.ensures, c.log-log.ensures) (append-nil (take p.decided p.log.sets)) in
    let progress = progress_at p s in
    let reports : map change_of_step c.report_changes.result.now ≡ (record_of p s).reports =
    ap (map change_of_step) c.report_changes.ensures.changes
    ∙ changes-copied progress.reports (length progress.reports)
    ∙ ap (report_changes (reported_at progress)) c.report_changes.ensures.decided in
    content-is p s _ (record {
      site = name;
      objects = objects;
      groups = groups;
      limits = c.limits-limits.ensures.limits;
      sets = sets;
      reports = reports;
      rounds = c.rounds.ensures;
      windows = c.windows.ensures.windows;
    })

pub returns-clause-valid : goal.returns-clause-valid
returns-clause-valid g c =
    let p = c.args.primary.now in
    let s = c.args.site in
    let sound = c.keeps.ensures.sound in
    let setup : c.setup-setup.result.now ≡ p.setup = c.setup-setup.ensures in
    let known : s < length p.setup.sites = rw (← sound.count) c.requires in
    let name : c.site_name-name.result.now ≡ (record_of p s).site =
    first-at p.setup.sites s ([], 0) c.site_name-name.result.now known (rw setup at c.site_name-name.ensures) in
    let objects : c.objects-objects.result.now ≡ p.setup.objects =
    c.objects-objects.ensures ∙ ap (λ (d : Declared). d.objects) setup in
    let groups : c.groups-groups.result.now ≡ p.setup.groups =
    c.groups-groups.ensures.groups ∙ ap (λ (d : Declared). d.groups) setup in
    let sets : take c.decided.result c.log-log.result.now.sets ++ [] ≡ take p.decided p.log.sets =
    rw (c.decided.ensures, c.log-log.ensures) (append-nil (take p.decided p.log.sets)) in
    let progress = progress_at p s in
    let reports : map change_of_step c.report_changes.result.now ≡ (record_of p s).reports =
    ap (map change_of_step) c.report_changes.ensures.changes
    ∙ changes-copied progress.reports (length progress.reports)
    ∙ ap (report_changes (reported_at progress)) c.report_changes.ensures.decided in
    let legal : IsLegalHistory (history_of (record_of p s)) =
    rw sound.start at (c.prefixes_of_legal_histories_are_legal.ensures p.log p.decided sound.legal) in
    content-valid p s _ (record {
      site = name;
      objects = objects;
      groups = groups;
      limits = c.limits-limits.ensures.limits;
      sets = sets;
      reports = reports;
      rounds = c.rounds.ensures;
      windows = c.windows.ensures.windows;
    }) (record-valid p s sound c.requires c.keeps.ensures.fewest legal)
