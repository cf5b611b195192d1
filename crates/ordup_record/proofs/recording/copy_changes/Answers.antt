-- The list has the first changes of those that are lent, and spare capacity for all. One push more makes it one longer.
use Rattle.ordup_audit.proofs.Common.{◌++◌, ◌+◌, ◌∙◌, ◌∷◌, ◌≡◌, [], ap, arith, List, rules, slice_get, Some, sym, take, take_all, ℕ}
use Rattle.std.proofs.lemmas.Result.{err_from_is_err_and}
use Rattle.ordup_objects.proofs.TableLemmas.{take-next}
use Rattle.ordup_audit.specs.RecordViews.{changes_in}
use Rattle.ordup_audit.specs.declared.report_change.ReportChange.{ReportChange}
use Rattle.ordup_record.proofs.recording.copy_changes.Goals as goal

-- one change more
copied-more : (changes copied more : List ReportChange) (i : ℕ) (change : ReportChange) → more ≡ copied ++ change ∷ []
    → copied ≡ take i changes → slice_get changes i ≡ Some change
    → more ≡ take (i + 1) changes
copied-more changes copied more i change pushed before at =
    pushed ∙ ap (λ cs. cs ++ change ∷ []) before ∙ sym (take-next changes i change at)

pub returns-in_err-changes : goal.returns-in_err-changes
returns-in_err-changes g c =
    let failed = err_from_is_err_and c.from_residual.result c.from_residual.ensures.1 in
    rw failed.1 (record { copied = tt; refused = search rules })

pub loop-i-init : goal.loop-i-init
loop-i-init g c = record {
  changes = c.in_ok-changes.ensures.items;
  spare = omega (arith, c.in_ok-changes.ensures.capacity, c.len.ensures);
}

pub at-requires : goal.at-requires
at-requires g c = omega (arith, c.len-i-end.ensures)

pub loop-i-preserved : goal.loop-i-preserved
loop-i-preserved g c =
    let inside = c.loop-i.invariant in
    record {
      changes = copied-more (changes_in c.args.lent) c.loop-i.changes.items c.push_reserved.new.self.items c.loop-i.i c.at.result
          c.push_reserved.ensures.items inside.changes c.at.ensures;
      spare = omega (arith, inside.spare, c.push_reserved.ensures.capacity);
    }

pub returns : goal.returns
returns g c = record {
  copied = c.loop-i.invariant.changes ∙ take_all c.loop-i.i (changes_in c.args.lent) (omega arith);
  refused = tt;
}
