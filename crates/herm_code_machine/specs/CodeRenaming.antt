-- The same with other names: of a state of code.
use Rattle.std.specs.Prelude.{⊤}
use Rattle.herm_forms.specs.Frames.{Name}
use Rattle.herm_forms.specs.Renaming.{rename_body}
use Rattle.herm_journal.specs.Renaming.{forget_name}
use Rattle.herm_code_machine.specs.CodeStates.{CodeState}

abbrev pub rename_code : {N M : Type 0} → (N → M) → CodeState N → CodeState M
rename_code f s = record { module_number = s.module_number; position = s.position; stack = s.stack; frame = rename_body f s.frame }

-- a state without names
abbrev pub forget_code : CodeState Name → CodeState ⊤
forget_code s = rename_code forget_name s
