-- Why files are refused.
use Rattle.std.specs.Prelude.{◌≢◌, ◌⊎◌, ℕ, List, [], map}
use Rattle.herm_compile.specs.View.{fault_view}
use Rattle.herm_compile.specs.FirstPhase.{AreFirstFaults}
use Rattle.herm_compile.specs.SecondPhase.{AreMisdefined}
use Rattle.herm_compile.specs.ThirdPhase.{AreMisnamed}
use Rattle.herm_compile.specs.FourthPhase.{AreUnaccepted}
use Rattle.herm_refusals.specs.declared.fault.Fault.{Fault}
use Rattle.herm_compile.specs.declared.fault.CompileFault.{CompileFault}
use Rattle.herm_compile.specs.declared.fault.CompileFault.TheVariants.{Refused, Memory}

-- Files have faults in the first phase, and are refused with these and no other (Language reference, "Refusals").
pub record AreUnread (files : List (List ℕ)) (faults : List Fault) : Type 0 where
  pub some : faults ≢ []
  pub each : AreFirstFaults 0 files (map fault_view faults)

-- Files are refused by the first phase that has a fault in them, and with its faults: with one for each file that has no trees, or with those
-- of their definitions, or with those of names and types, or with the facts that statements lack (Language reference, "Refusals").
abbrev pub AreRefused : List (List ℕ) → List Fault → Type 0
AreRefused files faults = AreUnread files faults ⊎ AreMisdefined files faults ⊎ AreMisnamed files faults ⊎ AreUnaccepted files faults

-- Want of memory says nothing of the files.
abbrev pub IfRefused : CompileFault → (List Fault → Type 0) → Type 0
IfRefused (Refused faults) holds = holds faults.items
IfRefused Memory holds = Unit {0}
