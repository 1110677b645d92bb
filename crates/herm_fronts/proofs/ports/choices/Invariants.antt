use Rattle.std.proofs.Common.{◌≡◌, ◌++◌, map, drop}
use Rattle.herm_typed.specs.Blocks.{typed_arm_view}
use Rattle.herm_translated.specs.Fronts.{choices_from}
use Rattle.herm_code.specs.View.{choice_view}
use Rattle.herm_fronts.specs.Blocks.{exits_view}
use Rattle.herm_fronts.specs.Exits.{IsAlong}
use Rattle.herm_fronts.proofs.ports.choices.Given as goal

abbrev pub invariant-arms : goal.invariant-arms
invariant-arms l = (map choice_view l.found.items ++ choices_from (exits_view l.exits) l.place (map typed_arm_view (drop l.place l.arms)) ≡ choices_from (exits_view l.exits) 0 (map typed_arm_view l.arms)) × IsAlong l.exits l.walk
