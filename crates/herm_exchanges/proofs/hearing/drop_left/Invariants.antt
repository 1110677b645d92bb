use Rattle.std.proofs.Common.{map, drop}
use Rattle.std.specs.Prelude.{⊤}
use Rattle.herm_forms.specs.Frames as frames
use Rattle.herm_code.specs.View.{argument_view}
use Rattle.herm_code_machine.specs.CodeActions.{outs}
use Rattle.herm_frames.specs.Standing.{Stands}
use Rattle.herm_exchanges.specs.Heard.{left_of, paths_at}
use Rattle.herm_exchanges.proofs.Dropped.{DropsOn}
use Rattle.herm_exchanges.proofs.hearing.drop_left.Given as goal

abbrev pub invariant-arguments : goal.invariant-arguments
invariant-arguments l =
    (s : frames.Frame ⊤) → Stands l.fn.frame s
    → DropsOn l.frame (left_of (paths_at (map argument_view l.arguments) l.kept) (outs (map argument_view (drop l.a-index l.arguments))))
    (frames.drop (left_of (paths_at (map argument_view l.arguments) l.kept) (outs (map argument_view l.arguments))) s)
