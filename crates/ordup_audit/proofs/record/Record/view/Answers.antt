use Rattle.std.proofs.Common.{◌∙◌, subst, sym}
use Rattle.std.proofs.Math.Nat.{le_of_eq}
use Rattle.ordup_audit.specs.Records.{IsRecord}
use Rattle.ordup_audit.proofs.RecordLemmas.{lent-whole}
use Rattle.ordup_audit.proofs.record.Record.view.Goals as goal

pub invariant_of-result : goal.invariant_of-result
invariant_of-result g c = record {
  whole = subst IsRecord (sym (lent-whole c.self.inside.parts c.len.result _ _ _ _ c.len.ensures.len c.as_slice.ensures.value
      c.as_slice-2.ensures.value c.as_slice-3.ensures.value c.as_slice-4.ensures.value)) c.self.invariant.whole;
  logged = le_of_eq c.len.ensures.len;
}

pub returns : goal.returns
returns g c =
    lent-whole c.self.inside.parts c.len.result _ _ _ _ c.len.ensures.len c.as_slice.ensures.value c.as_slice-2.ensures.value
    c.as_slice-3.ensures.value c.as_slice-4.ensures.value ∙ c.self.view_is
