-- How the job ends that prints what a record ends with.
use Rattle.std.proofs.Common.{ℕ, List, Option, Err}
use Rattle.ordup_audit.specs.Records.{RecordState}
use Rattle.ordup_audit.specs.declared.verdict.Verdict.{Verdict}
use Rattle.ordup_audit.specs.declared.verdict.Verdict.TheVariants.{Fewest, No}
use Rattle.ordup_faults.specs.Faults.{Outcome}
use Rattle.ordup_faults.specs.declared.fault.Fault.{Fault}
use Rattle.ordup_faults.specs.declared.fault.Fault.TheVariants as fault
use Rattle.ordup_verdicts.specs.Verdicts.{PrintsJudged}
use Rattle.ordup_verdicts.proofs.Outcomes.{LeavesAfter, printed, verdict_leaves}
use Rattle.ordup_next.specs.Ends.{DeclaresEnd, PrintsEnd}

objects_leave : (r : RecordState) (n : ℕ) (old new : Option (List ℕ)) (f : Fault) → PrintsEnd r (Fewest n) old new (Err f)
    → LeavesAfter old new f
objects_leave r n old new fault.Write told = tt
objects_leave r n old new fault.NoMemory told = told
objects_leave r n old new fault.Read told = told.2
objects_leave r n old new fault.TooLong told = told.2
objects_leave r n old new (fault.Malformed row) told = told.2
objects_leave r n old new (fault.MalformedRecord place row) told = told.2
objects_leave r n old new fault.NotStarted told = told.2
objects_leave r n old new fault.UnknownSite told = told.2
objects_leave r n old new (fault.NotYet number) told = told.2
objects_leave r n old new fault.Mixed told = told.2

end_leaves : (r : RecordState) (verdict : Verdict) (old new : Option (List ℕ)) (f : Fault)
    → PrintsEnd r verdict old new (Err f) → LeavesAfter old new f
end_leaves r (Fewest n) old new f = objects_leave r n old new f
end_leaves r (No row reason) old new f = verdict_leaves r (No row reason) old new f

pub end_printed : (had old new : Option (List ℕ)) (outcome : Outcome) → PrintsJudged PrintsEnd had old new outcome
    → DeclaresEnd had old new outcome
end_printed = printed PrintsEnd end_leaves
