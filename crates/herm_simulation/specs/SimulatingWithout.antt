-- When the code simulates the source without the names of cells.
use Rattle.std.specs.Prelude.{List, ⊤, ◌≡◌}
use Rattle.herm_model.specs.Values.{Name}
use Rattle.herm_source.specs.Modules.{Program, Modules}
use Rattle.herm_source.specs.Renaming.{forget_state}
use Rattle.herm_source.specs.States.{State}
use Rattle.herm_code_machine.specs.CodeRenaming.{forget_code}
use Rattle.herm_code_machine.specs.CodeStates.{CodeState}
use Rattle.herm_translated.specs.CodeBlocks.{CheckedModule}
use Rattle.herm_simulation.specs.Simulating.{Simulates}

-- Two processes without names, where they are two with names of which the one simulates the other.
pub record SimulatesWithout (program : Program) (modules : Modules) (checked : List CheckedModule) (x : State ⊤) (y : CodeState ⊤) : Type 0 where
  pub named : State Name
  pub named_code : CodeState Name
  pub simulates : Simulates program modules checked named named_code
  pub source : forget_state named ≡ x
  pub code : forget_code named_code ≡ y
