use Rattle.std.proofs.Common.{◌≡◌, map, drop}
use Rattle.std.specs.Prelude.{⊤}
use Rattle.herm_forms.specs.Frames as frames
use Rattle.herm_types.specs.View.{path_view}
use Rattle.herm_frames.specs.Standing.{Stands}
use Rattle.herm_exchanges.proofs.Dropped.{DropsOn}
use Rattle.herm_exchanges.proofs.sending.drop_all.Given as goal

abbrev pub invariant-paths : goal.invariant-paths
invariant-paths l = ((s : frames.Frame ⊤) → Stands l.fn.frame s → DropsOn l.frame (map path_view (drop l.path-index l.paths)) (frames.drop (map path_view l.paths) s)) × (l.frame.calls ≡ l.fn.frame.calls)
