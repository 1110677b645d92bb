-- Where a process begins, and where it begins a piece.
use Rattle.std.specs.Prelude.{ℕ, [], ⊤}
use Rattle.herm_model.specs.Values.{Cell}
use Rattle.herm_code_machine.specs.CodeStates.{CodeState, at_index, first_frame}
use Rattle.herm_code_machine.specs.CodeSteps.{counted_if}
use Rattle.herm_code_machine.specs.Pieces.{Piece}
use Rattle.herm_code_machine.specs.ReadyCode.{ReadyCode}

-- behind the step of a piece, which is counted; Code reference, "Pieces"
abbrev pub at_piece : Piece → CodeState ⊤ → CodeState ⊤
at_piece p s = record { module_number = s.module_number; position = at_index p.first; stack = s.stack; frame = counted_if p.has_step s.frame }

-- before the first instruction; Code reference, "Processes"
abbrev pub begun : ReadyCode → (module_number number : ℕ) → Cell ⊤ → CodeState ⊤
begun c module_number number port = record { module_number = module_number; position = at_index 0; stack = []; frame = first_frame c.scope.variables number port }
