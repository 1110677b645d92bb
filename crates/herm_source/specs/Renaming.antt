-- The same with other names: of a state.
use Rattle.std.specs.Prelude.{⊤}
use Rattle.herm_forms.specs.Frames.{Name}
use Rattle.herm_source.specs.States.{State}
use Rattle.herm_forms.specs.Renaming.{rename_body}
use Rattle.herm_journal.specs.Renaming.{forget_name}

abbrev pub rename_state : {N M : Type 0} → (N → M) → State N → State M
rename_state f s = record { module_number = s.module_number; point = s.point; frame = rename_body f s.frame }

-- A state without names, in which a count stands for the list of the finalised names.
abbrev pub forget_state : State Name → State ⊤
forget_state s = rename_state forget_name s
