-- Exact labels and lists of refusals exist.
use Rattle.std.specs.Prelude.{ℕ, List, ◌⊎◌}
use Rattle.herm_model.specs.Paths.{Fact}
use Rattle.herm_model.specs.Types.{TypeTable}
use Rattle.herm_model.specs.Statements.{Process}
use Rattle.herm_model.specs.ControlPaths.{Flow, Holds, Lacks}
use Rattle.herm_model.specs.MissingFacts.{Demand, Refusal, AreRefusals, IsMissing}
use Rattle.herm_model.specs.Labels.{Labels, AreExact}

-- At each point of each flow a fact is held on every control path, or there is one on which it is not held.
abbrev pub HoldsOrLacks : Type 0
HoldsOrLacks = (flow : Flow) (f : Fact) (i : ℕ) → Holds flow f i ⊎ Lacks flow f i

-- each flow has exact labels
abbrev pub ExactLabelsExist : Type 0
ExactLabelsExist = (flow : Flow) → (labels : Labels) × AreExact flow labels

-- each list of demands of each flow has a list of refusals; so has each process
abbrev pub RefusalsExist : Type 0
RefusalsExist = (flow : Flow) (ds : List Demand) → (refusals : List Refusal) × AreRefusals flow ds refusals

abbrev pub MissingExists : Type 0
MissingExists = (types : TypeTable) (p : Process) → (refusals : List Refusal) × IsMissing types p refusals
