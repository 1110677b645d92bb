-- The machine of code.
use Rattle.std.specs.Prelude.{ℕ, Option, Some, None, option_and_then, slice_get, ⊤}
use Rattle.herm_model.specs.Lists.{list_of}
use Rattle.herm_model.specs.Values.{Name}
use Rattle.herm_journal.specs.Renaming.{forget_name}
use Rattle.herm_forms.specs.Frames.{counted_action}
use Rattle.herm_system.specs.Machines.{Machine, Standing, ended}
use Rattle.herm_code_machine.specs.ReadyCode.{ReadyCode, ReadyImage}
use Rattle.herm_code_machine.specs.CodeStates.{CodeState, code_begin}
use Rattle.herm_code_machine.specs.CodeSteps.{code_ready, code_wanted, code_local_step, code_answered}
use Rattle.herm_code_machine.specs.CodeSeen.{code_held, exception_of, code_port_type, code_open_call}

-- names as they are
abbrev pub own_name : Name → Name
own_name n = n

-- the code of a process
abbrev pub code_at : {N : Type 0} → ReadyImage → CodeState N → Option ReadyCode
code_at image s = slice_get image.codes s.module_number

-- how a process stands, which is at an end where there is no code
abbrev pub ready_if : {N : Type 0} → (limit : ℕ) → CodeState N → Option ReadyCode → Standing
ready_if limit s None = ended
ready_if limit s (Some c) = code_ready c limit s

-- The processes of an image, whose cells have names made so, as a machine. Code reference, "Processes".
abbrev pub code_machine_of : {N : Type 0} → (Name → N) → ReadyImage → Machine N (CodeState N)
code_machine_of name image = record {
  types = image.types;
  main = image.main;
  begin = λ code number port. option_and_then (λ c. code_begin name c code number port) (slice_get image.codes code);
  module_number = λ s. s.module_number;
  number = λ s. s.frame.number;
  serial = λ s. s.frame.serial;
  steps = λ s. s.frame.steps;
  actions = λ s. s.frame.actions;
  exception = λ s. exception_of s.position;
  held = λ s. list_of (λ c. code_held c s) (code_at image s);
  finalised = λ s. s.frame.finalised;
  port_type = λ s n. option_and_then (λ c. code_port_type c s n) (code_at image s);
  open_call = λ s. option_and_then (λ c. code_open_call c s) (code_at image s);
  put_aside = λ s. record s { frame = counted_action s.frame };
  ready = λ limit s. ready_if limit s (code_at image s);
  wanted = λ s. option_and_then (λ c. code_wanted name c s) (code_at image s);
  local_step = λ s. option_and_then (λ c. code_local_step name c s) (code_at image s);
  answered = λ s at a. option_and_then (λ c. code_answered name c s at a) (code_at image s);
}

abbrev pub code_machine : ReadyImage → Machine Name (CodeState Name)
code_machine image = code_machine_of own_name image

-- the same of values without names
abbrev pub nameless_code : ReadyImage → Machine ⊤ (CodeState ⊤)
nameless_code image = code_machine_of forget_name image
