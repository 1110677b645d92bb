-- What a process of code has beside its cells.
use Rattle.std.specs.Prelude.{List, flat_map}
use Rattle.herm_model.specs.Values.{Kind}
use Rattle.herm_system.specs.Kinds.{kinds_of}
use Rattle.herm_code_machine.specs.CodeStates.{CodeState}

-- the kinds of the values on its stack, which are no cells; Code reference, "Processes"
abbrev pub stack_kinds : {N : Type 0} → CodeState N → List Kind
stack_kinds s = flat_map kinds_of s.stack
