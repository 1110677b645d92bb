use Rattle.std.proofs.Common.{◌≡◌, map, drop}
use Rattle.std.specs.Prelude.{⊤}
use Rattle.herm_code.specs.View.{instr_view}
use Rattle.herm_code_machine.specs.Pieces.{behind_operands}
use Rattle.herm_forms.specs.Frames.{Frame}
use Rattle.herm_frames.specs.Standing.{Stands}
use Rattle.herm_pieces.specs.View.{ready_view}
use Rattle.herm_stack.specs.Answers.{on_stack}
use Rattle.herm_steps.proofs.operands.push_operands.Given as goal

abbrev pub invariant-indices : goal.invariant-indices
invariant-indices l =
    (s : Frame ⊤) → Stands l.frame s
    → behind_operands (ready_view l.code) s.variables (map instr_view (drop l.index l.instructions)) (on_stack l.stack) ≡ behind_operands (ready_view l.code) s.variables (map instr_view (drop l.fn.piece.first l.instructions)) (on_stack l.fn.stack)
