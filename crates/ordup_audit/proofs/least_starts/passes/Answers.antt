use Rattle.ordup_audit.proofs.Common.{◌∙◌, ap, History, length, length-map}
use Rattle.ordup_audit.proofs.least_starts.passes.Goals as goal

pub over-requires : goal.over-requires
over-requires g c =
    let log = c.log-log.ensures.whole c.requires.legal in
    let start = ap (λ (h : History). length h.start) log ∙ length-map c.args.audited.now.objects _ in
    record {
      last = rw log c.requires.last;
      known = rw (c.limits.ensures, start, c.groups-groups.ensures) c.keeps.ensures.scopes;
    }
