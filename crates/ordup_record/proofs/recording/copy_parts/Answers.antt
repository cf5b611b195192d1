-- The site, the log and the rest are right from the start, and each of the two calls says which parts it leaves alone.
-- So the parts come to those of the lent record, which keeps the rules of a record.
use Rattle.ordup_audit.proofs.Common.{◌∙◌, ◌≡◌, ap, History, initial_state, state_of, sym}
use Rattle.std.proofs.lemmas.Result.{err_from_is_err_and}
use Rattle.ordup_audit.specs.declared.record.RecordParts.{RecordParts}
use Rattle.ordup_record.proofs.RecordOfLemmas.{parts-are, parts-content}
use Rattle.ordup_record.proofs.recording.copy_parts.Goals as goal

pub returns-in_err-copy_declared : goal.returns-in_err-copy_declared
returns-in_err-copy_declared g c =
    let failed = err_from_is_err_and c.from_residual.result c.from_residual.ensures.1 in
    rw (failed.1, failed.2) (record { parts = tt; content = tt; refused = c.in_err-copy_declared.ensures.refused })

pub returns-in_err-copy_decided : goal.returns-in_err-copy_decided
returns-in_err-copy_decided g c =
    let failed = err_from_is_err_and c.from_residual-in_err-copy_decided.result c.from_residual-in_err-copy_decided.ensures.1 in
    rw (failed.1, failed.2) (record { parts = tt; content = tt; refused = c.in_err-copy_decided.ensures.refused })

pub returns : goal.returns
returns g c =
    let r = c.args.audited.now in
    let declared = c.in_ok-copy_declared.ensures in
    let decided = c.in_ok-copy_decided.ensures in
    let q : RecordParts g.row.A.Denot = c.copy_decided.new.parts in
    let site = ap (λ (p : RecordParts g.row.A.Denot). p.site) decided.kept
    ∙ ap (λ (p : RecordParts g.row.A.Denot). p.site) declared.kept ∙ c.requires.site in
    let objects = ap (λ (p : RecordParts g.row.A.Denot). p.objects) decided.kept ∙ declared.objects in
    let groups = ap (λ (p : RecordParts g.row.A.Denot). p.groups) decided.kept ∙ declared.groups in
    let limits = ap (λ (p : RecordParts g.row.A.Denot). p.limits) decided.kept ∙ declared.limits in
    let log = ap (λ (p : RecordParts g.row.A.Denot). p.log) decided.kept
    ∙ ap (λ (p : RecordParts g.row.A.Denot). p.log) declared.kept ∙ c.requires.log in
    let rest = ap (λ (p : RecordParts g.row.A.Denot). p.rest.items) decided.kept
    ∙ ap (λ (p : RecordParts g.row.A.Denot). p.rest.items) declared.kept ∙ c.requires.rest in
    let content : state_of q ≡ r =
    parts-content r q site objects groups limits (ap (λ (h : History). h.sets) log) rest decided.reports decided.rounds decided.windows in
    let start = ap (λ (h : History). h.start) log ∙ ap initial_state (sym objects) in
    record { parts = parts-are r q c.keeps.ensures content start rest; content = content; refused = tt }
