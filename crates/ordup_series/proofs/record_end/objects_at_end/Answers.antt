use Rattle.std.proofs.Common.{◌∙◌, ap, arith, length, sym}
use Rattle.std.proofs.lemmas.List.{length-map}
use Rattle.ordup_objects.proofs.SerialLemmas.{length-serial}
use Rattle.ordup_objects.specs.States.{State}
use Rattle.ordup_audit.specs.Records.{history_of}
use Rattle.ordup_series.proofs.record_end.objects_at_end.Goals as goal

pub copy_with-requires : goal.copy_with-requires
copy_with-requires g c =
    let r = c.args.audited.now in
    let whole = c.log.ensures.whole c.requires in
    let values = rw whole at c.end-values.ensures in
    let same = length-serial (history_of r) (length r.sets) (omega arith) in
    ap (λ (v : State). length v) values ∙ same ∙ length-map r.objects (λ e. e.1) ∙ sym (ap length c.objects.ensures)
