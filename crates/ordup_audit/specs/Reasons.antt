-- The names of reasons.
use Rattle.std.specs.Prelude.{ℕ, List, codes}
use Rattle.ordup_audit.specs.declared.verdict.Reason.{Reason}
use Rattle.ordup_audit.specs.declared.verdict.Reason.TheVariants.{NotLegal, LimitsBroken, WindowLight, WindowsMeet}
use Rattle.ordup_audit.specs.declared.verdict.Reason.TheVariants.{WindowBeforeReport, CountDiffers}

-- the name by which verdicts show a reason
abbrev pub reason_name : Reason → List ℕ
reason_name NotLegal = codes "NotLegal"
reason_name LimitsBroken = codes "LimitsBroken"
reason_name WindowLight = codes "WindowLight"
reason_name WindowsMeet = codes "WindowsMeet"
reason_name WindowBeforeReport = codes "WindowBeforeReport"
reason_name CountDiffers = codes "CountDiffers"
