use Rattle.std.proofs.Common.{◌∙◌, ◌∷◌, [], ap, map}
use Rattle.herm_code.specs.View.{const_view, module_view}
use Rattle.herm_machine_tests.proofs.ByHand.{hand-kept}
use Rattle.herm_machine_tests.proofs.by_hand.image.Goals as goal

pub new-requires : goal.new-requires
new-requires c = record { good = hand-kept c.args.x c.args.y c.in_ok-modules.modules.items c.in_ok-constants.constants.items c.in_ok-types.types (ap (map module_view) c.in_ok-modules.ensures.items ∙ ap (λ m. m ∷ []) c.in_ok-module.ensures) (ap (map const_view) c.in_ok-constants.ensures.items) c.in_ok-types.ensures }
