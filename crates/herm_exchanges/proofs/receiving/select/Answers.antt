use Rattle.std.proofs.Common.{map, get_or, sym, option_and_then, ◌∙◌}
use Rattle.herm_forms.specs.Exchanges.{place_of_port, ports_at}
use Rattle.herm_types.specs.View.{path_view}
use Rattle.herm_values.specs.View.{value_view}
use Rattle.herm_code.specs.View.{choice_view}
use Rattle.herm_code_machine.specs.CodeActions.{ports_of_choices, targets_of_choices}
use Rattle.herm_exchanges.proofs.Looked.{arm_target, selected_nowhere, selected_there}
use Rattle.herm_exchanges.proofs.receiving.select.Goals as goal

pub returns-then-is_there : goal.returns-then-is_there
returns-then-is_there c = record {
  settles = λ s number h.
      let a = get_or c.args.arms.now c.in-Some.place c.index-arms-place.result in
      selected_there (option_and_then (place_of_port 0 c.args.port.number) (ports_at (ports_of_choices (map choice_view c.args.arms.now)) s)) (targets_of_choices (map choice_view c.args.arms.now)) c.in-Some.place (path_view a.target) (value_view c.args.message) s c.put.new.self
      (c.in-Some.ensures.place s h) (arm_target c.args.arms.now c.in-Some.place c.index-arms-place.result c.in-Some.ensures.within) (sym c.if-is_there.true ∙ c.in_ok-is_there.ensures.is_there s h) (c.in_ok-is_there.ensures.stands c.if-is_there.true s h);
}

pub returns : goal.returns
returns c = record {
  settles = λ s number h.
      let a = get_or c.args.arms.now c.in-Some.place c.index-arms-place.result in
      selected_nowhere (option_and_then (place_of_port 0 c.args.port.number) (ports_at (ports_of_choices (map choice_view c.args.arms.now)) s)) (targets_of_choices (map choice_view c.args.arms.now)) c.in-Some.place (path_view a.target) (value_view c.args.message) s
      (c.in-Some.ensures.place s h) (arm_target c.args.arms.now c.in-Some.place c.index-arms-place.result c.in-Some.ensures.within) (sym c.if-is_there.false ∙ c.in_ok-is_there.ensures.is_there s h);
}
