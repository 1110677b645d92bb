use Rattle.std.proofs.Common.{map, drop}
use Rattle.std.specs.List.{All}
use Rattle.std.specs.Prelude.{⊤}
use Rattle.herm_forms.specs.Frames.{Frame, take_all}
use Rattle.herm_types.specs.View.{path_view}
use Rattle.herm_values.specs.Whole.{IsWhole}
use Rattle.herm_frames.specs.Standing.{Stands}
use Rattle.herm_exchanges.proofs.TakenOut.{TakesOn}
use Rattle.herm_exchanges.proofs.giving.take_all.Given as goal

abbrev pub invariant-paths : goal.invariant-paths
invariant-paths l = ((s : Frame ⊤) → Stands l.fn.frame s → TakesOn l.frame l.taken.items (map path_view (drop l.path-index l.paths)) (take_all (map path_view l.paths) s)) × All IsWhole l.taken.items
