-- What tests say of the types of a table.
use Rattle.std.specs.Prelude.{ℕ, List, Bool, false, ◌≡◌, ◌<◌, ◌⊎◌, IsTrue}
use Rattle.herm_model.specs.Types.{TypeTable}
use Rattle.herm_model.specs.WellFormedTables.{Reaches}
use Rattle.herm_types.specs.Table.{says}
use Rattle.herm_graph.specs.Tells.{Tells}

-- the tests say which types reach themselves
abbrev pub SayCycles : TypeTable → List Bool → Type 0
SayCycles table tests = (t : ℕ) → Tells (says tests t) (Reaches table t t)

-- the same of the types below a number
abbrev pub SayCyclesBelow : ℕ → TypeTable → List Bool → Type 0
SayCyclesBelow n table tests = (t : ℕ) → t < n → Tells (says tests t) (Reaches table t t)

-- what is said of these is on a cycle
abbrev pub SayOnCycle : TypeTable → List Bool → Type 0
SayOnCycle table tests = (t : ℕ) → IsTrue (says tests t) → Reaches table t t

-- what is not said of these is on no cycle
abbrev pub SayAllCycles : TypeTable → List Bool → Type 0
SayAllCycles table tests = (t : ℕ) → says tests t ≡ false → Reaches table t t → ⊥

-- the type itself, or one that it reaches, is a goal
abbrev pub MeetsGoal : TypeTable → List Bool → ℕ → Type 0
MeetsGoal table goal t = (u : ℕ) × ((t ≡ u) ⊎ Reaches table t u) × IsTrue (says goal u)
