use Rattle.std.proofs.Common.{length}
use Rattle.std.specs.Prelude.{⊤}
use Rattle.herm_forms.specs.Frames.{Frame, finalise_parts}
use Rattle.herm_values.specs.Parts.{parts_from}
use Rattle.herm_values.specs.View.{views_of}
use Rattle.herm_frames.specs.Standing.{Stands}
use Rattle.herm_exchanges.proofs.TakenOut.{PartsOn}
use Rattle.herm_exchanges.proofs.giving.finalise_places.Given as goal

abbrev pub invariant-places : goal.invariant-places
invariant-places l = (s : Frame ⊤) → Stands l.fn.frame s → PartsOn l.frame l.left.items (finalise_parts (parts_from (views_of l.initial.left.items)) s)

abbrev pub decreases-places : goal.decreases-places
decreases-places l = length l.left.items
