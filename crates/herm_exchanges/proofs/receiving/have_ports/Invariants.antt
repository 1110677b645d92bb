use Rattle.std.proofs.Common.{◌≡◌, map, drop}
use Rattle.std.specs.Prelude.{⊤}
use Rattle.herm_forms.specs.Frames.{Frame}
use Rattle.herm_code.specs.View.{choice_view}
use Rattle.herm_code_machine.specs.CodeActions.{ports_of_choices}
use Rattle.herm_frames.specs.Standing.{Stands}
use Rattle.herm_exchanges.specs.Arms.{have_ports}
use Rattle.herm_exchanges.proofs.receiving.have_ports.Given as goal

abbrev pub invariant-arms : goal.invariant-arms
invariant-arms l = (s : Frame ⊤) → Stands l.frame s → have_ports (ports_of_choices (map choice_view (drop l.a-index l.arms))) s ≡ have_ports (ports_of_choices (map choice_view l.arms)) s
