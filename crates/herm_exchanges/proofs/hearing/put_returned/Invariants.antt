use Rattle.std.proofs.Common.{map, drop}
use Rattle.std.specs.List.{All}
use Rattle.std.specs.Prelude.{⊤}
use Rattle.herm_model.specs.Outcomes.{Outcome}
use Rattle.herm_forms.specs.Frames.{Frame, putting_all}
use Rattle.herm_values.specs.View.{value_view}
use Rattle.herm_values.specs.Whole.{IsWhole}
use Rattle.herm_code.specs.View.{argument_view}
use Rattle.herm_code_machine.specs.CodeActions.{returned}
use Rattle.herm_frames.specs.Standing.{Stands}
use Rattle.herm_exchanges.proofs.Replied.{PutsOn}
use Rattle.herm_exchanges.proofs.hearing.put_returned.Given as goal

abbrev pub invariant-arguments : goal.invariant-arguments
invariant-arguments l =
    ((s : Frame ⊤) (o : Outcome) → Stands l.fn.frame s → PutsOn l.frame (returned (map argument_view (drop l.a-index l.arguments))) o (map value_view l.left.items) (putting_all (returned (map argument_view l.arguments)) o (map value_view l.initial.left.items) s))
    × All IsWhole l.left.items
