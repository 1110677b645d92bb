use Rattle.std.proofs.Common.{◌≡◌, map, drop}
use Rattle.std.specs.List.{All}
use Rattle.std.specs.Prelude.{⊤}
use Rattle.herm_forms.specs.Frames.{Frame, take_all}
use Rattle.herm_values.specs.Whole.{IsWhole}
use Rattle.herm_code.specs.View.{argument_view}
use Rattle.herm_code_machine.specs.CodeActions.{inouts}
use Rattle.herm_frames.specs.Standing.{Stands}
use Rattle.herm_exchanges.proofs.TakenOut.{TakesOn}
use Rattle.herm_exchanges.proofs.calling.take_inouts.Given as goal

abbrev pub invariant-arguments : goal.invariant-arguments
invariant-arguments l =
    ((s : Frame ⊤) → Stands l.fn.frame s → TakesOn l.frame l.taken.items (inouts (map argument_view (drop l.a-index l.arguments))) (take_all (inouts (map argument_view l.arguments)) s)) × All IsWhole l.taken.items × (l.frame.calls ≡ l.fn.frame.calls)
