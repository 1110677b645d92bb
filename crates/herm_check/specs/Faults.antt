-- What the check answers of a flow.
use Rattle.std.specs.Prelude.{◌<◌, length, ⊤}
use Rattle.herm_model.specs.Lists.{IsIn}
use Rattle.herm_model.specs.ControlPaths.{Flow, Holds}
use Rattle.herm_model.specs.MissingFacts.{Demand, demands}
use Rattle.herm_check.specs.declared.checking.CheckFault.{CheckFault}
use Rattle.herm_check.specs.declared.checking.CheckFault.TheVariants.{Missing, Memory}
use Rattle.herm_check.specs.Missing.{ArePlaced, refusals_of}
use Rattle.herm_check.specs.Shortest.{AreShortest}

-- each fact that a point needs holds there
abbrev pub HasNoFault : Flow → Type 0
HasNoFault flow = (d : Demand) → IsIn d (demands flow) → Holds flow d.fact d.at

-- Some facts are missing: these, each with a shortest path.
abbrev pub IsFault : Flow → CheckFault → Type 0
IsFault flow (Missing missing) = (0 < length missing.facts.items) × ArePlaced missing × AreShortest flow (refusals_of missing)
IsFault flow Memory = ⊤
