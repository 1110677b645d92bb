use Rattle.std.proofs.Common.{map, option_map, sym, ap, ap₂, ◌∙◌}
use Rattle.std.proofs.Math.ListN.{drop_of_length-le}
use Rattle.herm_forms.specs.Callmessages.{assemble}
use Rattle.herm_code_machine.specs.CodeActions.{mode_of}
use Rattle.herm_code_machine.specs.Stacks.{parts_from}
use Rattle.herm_values.specs.View.{value_view, views_of}
use Rattle.herm_code.specs.View.{argument_view}
use Rattle.herm_exchanges.specs.Composed.{in_front_of}
use Rattle.herm_exchanges.proofs.Composed.{all_pushed, no_values}
use Rattle.herm_exchanges.proofs.calling.assembled.Goals as goal

pub returns-clause-assembled : goal.returns-clause-assembled
returns-clause-assembled c =
    let os = views_of c.arguments.params.items in
    let inputs = map value_view c.arguments.inputs_left.items in
    let moved = map value_view c.arguments.moved_left.items in
    sym (all_pushed os inputs moved (no_values c.arguments.inputs_left.items ∙ sym c.if-not-none_left.ensures.none) (no_values c.arguments.moved_left.items ∙ sym c.if-not-none_left-2.ensures.none))
    ∙ ap (λ xs. option_map (in_front_of os) (assemble (map mode_of (map argument_view xs)) (parts_from inputs) moved)) (sym (drop_of_length-le c.args.arguments.now c.arguments-test.false))
    ∙ c.arguments.invariant.0
    ∙ ap₂ (λ xs ys. assemble (map mode_of (map argument_view c.args.arguments.now)) (parts_from (map value_view xs)) (map value_view ys)) c.from-inputs_left.ensures.0 c.from-moved_left.ensures.0
