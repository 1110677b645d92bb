use Rattle.std.proofs.Common.{map, option_map, Vec, Global, Option, ◌+◌, sym, ap, subst, ◌∙◌}
use Rattle.herm_model.specs.CellNames.{count_in}
use Rattle.herm_forms.specs.Frames.{drop, take_all}
use Rattle.herm_types.specs.View.{path_view}
use Rattle.herm_values.specs.Parts as places
use Rattle.herm_values.specs.View.{value_view, views_of}
use Rattle.herm_values.specs.declared.value.Value.{Value}
use Rattle.herm_code.specs.View.{argument_view}
use Rattle.herm_code_machine.specs.CodeActions.{inouts, mode_of}
use Rattle.herm_code_machine.specs.Stacks.{parts_from}
use Rattle.herm_frames.specs.Standing.{Stands}
use Rattle.herm_exchanges.specs.Worked.{IsTaken}
use Rattle.herm_exchanges.proofs.Composed.{composed_end, composed_unassembled}
use Rattle.herm_exchanges.proofs.calling.composed.Goals as goal

pub returns-in_default-2-clause-composed : goal.returns-in_default-2-clause-composed
returns-in_default-2-clause-composed c = λ s h.
    let args = map argument_view c.args.arguments.now in
    let inputs = parts_from (map value_view c.args.inputs.items) in
    let lost = map path_view c.args.lost.now in
    let made = subst (λ vs. Stands c.make_inputs.new.frame (record s { serial = s.serial + count_in (parts_from (map value_view vs)) })) c.as_slice.ensures.value (c.make_inputs.ensures.stands s h) in
    let dropped = c.in_ok-drop_all.ensures.stands (record s { serial = s.serial + count_in inputs }) made in
    let taken =
    subst (λ (o : Option (Vec Value Global)). IsTaken (option_map (λ vs. vs.items) o) c.take_inouts.new.frame (take_all (inouts args) (drop lost (record s { serial = s.serial + count_in inputs })))) c.in-Some.is
    (c.in_ok-moved.ensures.taken (drop lost (record s { serial = s.serial + count_in inputs })) dropped) in
    composed_unassembled (map mode_of args) inputs lost (inouts args) s c.in-Some.moved.items c.take_inouts.new.frame taken
    (sym (ap (option_map (λ (ps : Vec (Option Value) Global). places.parts_from (views_of ps.items))) c.in_default-2.is) ∙ c.in_ok-params.ensures.assembled)

pub returns-clause-composed : goal.returns-clause-composed
returns-clause-composed c = λ s h.
    let args = map argument_view c.args.arguments.now in
    let inputs = parts_from (map value_view c.args.inputs.items) in
    let lost = map path_view c.args.lost.now in
    let made = subst (λ vs. Stands c.make_inputs.new.frame (record s { serial = s.serial + count_in (parts_from (map value_view vs)) })) c.as_slice.ensures.value (c.make_inputs.ensures.stands s h) in
    let dropped = c.in_ok-drop_all.ensures.stands (record s { serial = s.serial + count_in inputs }) made in
    let taken =
    subst (λ (o : Option (Vec Value Global)). IsTaken (option_map (λ vs. vs.items) o) c.take_inouts.new.frame (take_all (inouts args) (drop lost (record s { serial = s.serial + count_in inputs })))) c.in-Some.is
    (c.in_ok-moved.ensures.taken (drop lost (record s { serial = s.serial + count_in inputs })) dropped) in
    composed_end (map mode_of args) inputs lost (inouts args) s c.in-Some.moved.items c.take_inouts.new.frame c.opened.new.frame (places.parts_from (views_of c.in-Some-2.params.items)) c.opened.result taken
    (sym (ap (option_map (λ (ps : Vec (Option Value) Global). places.parts_from (views_of ps.items))) c.in-Some-2.is) ∙ c.in_ok-params.ensures.assembled)
    c.opened.ensures.opened
