use Rattle.std.proofs.Common.{◌≡◌, map, drop, ◌+◌}
use Rattle.std.specs.Prelude.{⊤}
use Rattle.herm_model.specs.CellNames.{count_in}
use Rattle.herm_forms.specs.Frames.{Frame}
use Rattle.herm_code_machine.specs.Stacks.{parts_from}
use Rattle.herm_values.specs.View.{value_view}
use Rattle.herm_frames.specs.Standing.{Stands}
use Rattle.herm_exchanges.proofs.Composed.{CountsOn}
use Rattle.herm_exchanges.proofs.calling.make_inputs.Given as goal

abbrev pub invariant-inputs : goal.invariant-inputs
invariant-inputs l = ((s : Frame ⊤) → Stands l.fn.frame s → CountsOn l.frame s (map value_view (drop l.v-index l.inputs)) (s.serial + count_in (parts_from (map value_view l.inputs)))) × (l.frame.calls ≡ l.fn.frame.calls)
