use Rattle.std.proofs.Common.{◌≡◌, map, drop, option_map}
use Rattle.std.specs.List.{All}
use Rattle.herm_forms.specs.Callmessages.{assemble}
use Rattle.herm_code_machine.specs.CodeActions.{mode_of}
use Rattle.herm_code_machine.specs.Stacks.{parts_from}
use Rattle.herm_values.specs.View.{value_view, views_of}
use Rattle.herm_values.specs.Whole.{AllWhole, IsWhole}
use Rattle.herm_code.specs.View.{argument_view}
use Rattle.herm_exchanges.specs.Composed.{in_front_of}
use Rattle.herm_exchanges.proofs.calling.assembled.Given as goal

abbrev pub invariant-arguments : goal.invariant-arguments
invariant-arguments l =
    (option_map (in_front_of (views_of l.params.items)) (assemble (map mode_of (map argument_view (drop l.a-index l.arguments))) (parts_from (map value_view l.inputs_left.items)) (map value_view l.moved_left.items))
    ≡ assemble (map mode_of (map argument_view l.arguments)) (parts_from (map value_view l.initial.inputs_left.items)) (map value_view l.initial.moved_left.items))
    × All IsWhole l.inputs_left.items × All IsWhole l.moved_left.items × AllWhole l.params.items
