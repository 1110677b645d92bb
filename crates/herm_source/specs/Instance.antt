-- The source machine.
use Rattle.std.specs.Prelude.{ℕ, Option, Some, None, option_map, option_and_then, slice_get, ⊤, ◌≡◌}
use Rattle.herm_model.specs.Lists.{list_of}
use Rattle.herm_model.specs.Values.{Name}
use Rattle.herm_journal.specs.Renaming.{forget_name}
use Rattle.herm_forms.specs.Frames.{counted_action}
use Rattle.herm_forms.specs.Modules.{Module}
use Rattle.herm_system.specs.Machines.{Machine, Standing, ended}
use Rattle.herm_system.specs.Systems.{System}
use Rattle.herm_system.specs.Sound.{IsSoundFor}
use Rattle.herm_source.specs.Modules.{Modules}
use Rattle.herm_source.specs.States.{State, own_name, begin, wanted, local_step, answered}
use Rattle.herm_source.specs.StepLimit.{ready_in}
use Rattle.herm_source.specs.SeenBySystem.{values_held, exception_at, port_type, open_call}
use Rattle.herm_source.specs.Local.{IsLocallySound}

-- the module of a process
abbrev pub code_at : {N : Type 0} → Modules → State N → Option Module
code_at modules s = slice_get modules.codes s.module_number

-- how a process stands, which is at an end where there is no module
abbrev pub ready_if : {N : Type 0} → (limit : ℕ) → State N → Option Module → Standing
ready_if limit s None = ended
ready_if limit s (Some c) = ready_in c limit s

-- The processes of these modules, whose cells have names made so, as a machine. Language reference, "Processes".
abbrev pub machine_of : {N : Type 0} → (Name → N) → Modules → Machine N (State N)
machine_of name modules = record {
  types = modules.types;
  main = modules.main;
  begin = λ code number port. option_map (λ c. begin c code number port) (slice_get modules.codes code);
  module_number = λ s. s.module_number;
  number = λ s. s.frame.number;
  serial = λ s. s.frame.serial;
  steps = λ s. s.frame.steps;
  actions = λ s. s.frame.actions;
  exception = λ s. exception_at s.point;
  held = λ s. list_of (λ c. values_held c s) (code_at modules s);
  finalised = λ s. s.frame.finalised;
  port_type = λ s n. option_and_then (λ c. port_type c s n) (code_at modules s);
  open_call = λ s. option_and_then (λ c. open_call c s) (code_at modules s);
  put_aside = λ s. record s { frame = counted_action s.frame };
  ready = λ limit s. ready_if limit s (code_at modules s);
  wanted = λ s. option_and_then (λ c. wanted name c s) (code_at modules s);
  local_step = λ s. option_and_then (λ c. local_step name c s) (code_at modules s);
  answered = λ s at a. option_and_then (λ c. answered name c s at a) (code_at modules s);
}

abbrev pub source : Modules → Machine Name (State Name)
source modules = machine_of own_name modules

-- the same of values without names
abbrev pub nameless : Modules → Machine ⊤ (State ⊤)
nameless modules = machine_of forget_name modules

-- What is sound within a process of these modules. Language reference, "Sound states".
abbrev pub IsSoundIn : Modules → State Name → Type 0
IsSoundIn modules s = (c : Module) → code_at modules s ≡ Some c → IsLocallySound c s

-- A sound state of the source machine. Language reference, "Sound states".
abbrev pub IsSound : Modules → System (State Name) → Type 0
IsSound modules s = IsSoundFor (source modules) (IsSoundIn modules) s
