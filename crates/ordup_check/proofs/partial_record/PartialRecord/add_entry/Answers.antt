use Rattle.ordup_audit.proofs.Common.{Entries, length, refl}
use Rattle.ordup_limits.specs.Entries.{entry_of}
use Rattle.ordup_check.specs.PartialRecords.{record_so_far}
use Rattle.ordup_check.proofs.RowLemmas.{entry_added, refused_row}
use Rattle.ordup_check.proofs.partial_record.PartialRecord.add_entry.Goals as goal

pub returns-in-Ok : goal.returns-in-Ok
returns-in-Ok c =
    let r = c.args.self.now in
    let e = entry_of c.args.scope c.args.amount c.args.place in
    rw (c.entries.ensures, c.in-Ok.ensures.changed, c.entries-count.ensures)
    (entry_added r.limits e (length r.limits) (λ (limits : Entries). record (record_so_far r) { limits = limits }) _
    (rw c.objects.ensures at c.in-Ok.ensures.allowed) refl)

pub returns-in-Err : goal.returns-in-Err
returns-in-Err c =
    refused_row c.not_taken.result _ c.in-Err.refusal _ _ _ c.not_taken.ensures (rw c.objects.ensures at c.in-Err.ensures.refused)
