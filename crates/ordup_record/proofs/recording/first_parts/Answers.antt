use Rattle.ordup_audit.proofs.Common.{◌<◌, ◌≡◌, [], length}
use Rattle.ordup_objects.specs.Serial.{prefix_of}
use Rattle.ordup_objects.proofs.SameLemmas.{first-at}
use Rattle.ordup_record.proofs.recording.first_parts.Goals as goal

pub returns-clause-site : goal.returns-clause-site
returns-clause-site g c =
    let p = c.args.primary.now in
    let known : c.args.site < length p.setup.sites = rw (← c.keeps.ensures.sound.count) c.requires in
    first-at p.setup.sites c.args.site ([], 0) c.site_name.result.now known (rw c.setup.ensures at c.site_name.ensures)

pub returns-clause-log : goal.returns-clause-log
returns-clause-log g c =
    let p = c.args.primary.now in
    let log : c.in_ok-log.log ≡ prefix_of p.log p.decided = rw (c.log.ensures, c.decided.ensures) at c.in_ok-log.ensures.copied in
    rw c.keeps.ensures.sound.start at log
