use Rattle.std.proofs.Common.{◌≡◌, map, drop}
use Rattle.std.specs.Prelude.{⊤}
use Rattle.herm_forms.specs.Frames.{Frame}
use Rattle.herm_code.specs.View.{choice_view}
use Rattle.herm_code_machine.specs.CodeActions.{ports_of_choices}
use Rattle.herm_frames.specs.Standing.{Stands}
use Rattle.herm_exchanges.specs.Arms.{first_looking}
use Rattle.herm_exchanges.proofs.receiving.first_looking.Given as goal

abbrev pub invariant-places : goal.invariant-places
invariant-places l = (s : Frame ⊤) → Stands l.frame s → first_looking l.place l.port.number (ports_of_choices (map choice_view (drop l.place l.arms))) s ≡ first_looking 0 l.port.number (ports_of_choices (map choice_view l.arms)) s
