-- Along every journal each cell is at one place.
use Rattle.herm_model.specs.Values.{Name}
use Rattle.herm_system.specs.Machines.{Machine}
use Rattle.herm_runs.specs.laws.ProcessLaws.{KeepsNumbers, KeepsLedger}
use Rattle.herm_runs.specs.laws.RunLaws.{LedgerAlong}
use Rattle.herm_runs.proofs.SystemLedger.{runs-keep}
use Rattle.herm_runs.proofs.Numbered.{runs-numbered, numbered-once}

pub ledger-along : {P : Type 0} (machine : Machine Name P) → KeepsNumbers machine → KeepsLedger machine → LedgerAlong machine
ledger-along machine numbers keeps limits argument first journal s is k = (
  runs-keep machine keeps limits argument first k.3.0 (record { system = s; journal = k.0 }) is k.3.1,
  numbered-once machine s (runs-numbered machine numbers limits argument first k.3.0 (record { system = s; journal = k.0 }) is k.3.1),
)
