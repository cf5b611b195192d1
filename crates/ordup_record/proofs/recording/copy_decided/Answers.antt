-- Each of the three parts is replaced by a copy of what is lent, and no other part is touched.
use Rattle.ordup_audit.proofs.Common.{◌∙◌, refl}
use Rattle.std.proofs.lemmas.Result.{err_from_is_err_and}
use Rattle.ordup_record.proofs.recording.copy_decided.Goals as goal

pub returns-in_err-parts : goal.returns-in_err-parts
returns-in_err-parts g c =
    let failed = err_from_is_err_and c.from_residual.result c.from_residual.ensures.1 in
    rw (failed.1, failed.2) (record { reports = tt; rounds = tt; windows = tt; kept = tt; refused = c.in_err-parts.ensures.refused })

pub returns-in_default : goal.returns-in_default
returns-in_default g c = record { reports = tt; rounds = tt; windows = tt; kept = tt; refused = refl }

pub returns-in_default-from_slice : goal.returns-in_default-from_slice
returns-in_default-from_slice g c = record { reports = tt; rounds = tt; windows = tt; kept = tt; refused = refl }

pub returns : goal.returns
returns g c = record {
  reports = c.in_ok-parts.ensures.copied ∙ c.reports.ensures;
  rounds = c.in-Ok.ensures.items ∙ c.rounds.ensures;
  windows = c.in-Ok-from_slice.ensures.items ∙ c.windows.ensures;
  kept = refl;
  refused = tt;
}
