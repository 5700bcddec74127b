-- For the prover.
-- What the function that goes over a plan's checks says to the prover.
use Rattle.order_check.specs.nfs_history_specs.declared.knowing.KnownCalls.{KnownCalls}
use Rattle.certificate.specs.declared.plan.Certificate.{Certificate}
use Rattle.witness_check.specs.declared.fault.CheckFault.{CheckFault}
use Rattle.witness_check.specs.declared.fault.CheckFault.TheVariants.{No, Stopped, NoMemory}
use Rattle.witness_check.specs.declared.fault.Fault.TheVariants as faults
use Rattle.witness_check.specs.Verdict.{IsPlanFault}
use Rattle.witness_check.specs.Stop.{IsStop, IsNoStop}

-- a fault that is told is the plan's first one, and that of the run is told as a stop; want of memory tells nothing
abbrev pub TellsFault : KnownCalls → Certificate → CheckFault → Type 0
TellsFault history plan (No fault) = IsPlanFault history plan fault × IsNoStop fault
TellsFault history plan (Stopped stop) = IsPlanFault history plan (faults.Illegal stop.number) × IsStop history plan stop.number stop.tree
TellsFault history plan NoMemory = Unit {0}
