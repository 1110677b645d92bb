use Rattle.std.proofs.Common.{◌≡◌, map, drop}
use Rattle.std.specs.Prelude.{find, ⊤}
use Rattle.herm_forms.specs.Frames.{Frame}
use Rattle.herm_forms.specs.Incoming.{leads_from}
use Rattle.herm_code.specs.View.{choice_view}
use Rattle.herm_code_machine.specs.CodeActions.{ports_of_choices}
use Rattle.herm_frames.specs.Standing.{Stands}
use Rattle.herm_machine.proofs.looking.path_among.Given as goal

abbrev pub invariant-arms : goal.invariant-arms
invariant-arms l = (s : Frame ⊤) → Stands l.frame s → find (leads_from l.port.number s) (ports_of_choices (map choice_view (drop l.arm-index l.arms))) ≡ find (leads_from l.port.number s) (ports_of_choices (map choice_view l.arms))
