-- The line and the status of a fault that no run of the program comes to: each site agrees with the log.
use Rattle.std.proofs.Common.{◌≡◌, refl}
use Rattle.std.specs.Prelude.{codes}
use Rattle.ordup_faults.specs.Faults.{fault_text, fault_status}
use Rattle.ordup_faults.specs.declared.fault.Fault.TheVariants as fault

mixed : (fault_text fault.Mixed ≡ codes "refused 27 Mixed\n") × (fault_status fault.Mixed ≡ 1)
mixed = (refl, refl)
