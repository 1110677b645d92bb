use Rattle.std.proofs.Common.{map, drop, ◌+◌, ap, subst, ◌∙◌}
use Rattle.herm_model.specs.CellNames.{count_in}
use Rattle.herm_code_machine.specs.Stacks.{parts_from}
use Rattle.herm_values.specs.View.{value_view}
use Rattle.herm_exchanges.proofs.Composed.{CountsOn, counts_one}
use Rattle.herm_exchanges.proofs.Items.{item_first}
use Rattle.herm_exchanges.proofs.calling.make_inputs.Goals as goal

pub inputs-preserved : goal.inputs-preserved
inputs-preserved c = (
  λ s h.
      counts_one c.inputs.frame c.make_cells.new.self s (value_view c.v-item.result) (map value_view (drop (c.inputs.v-index + 1) c.args.inputs.now)) (s.serial + count_in (parts_from (map value_view c.args.inputs.now))) c.make_cells.ensures.stands
      (subst (λ vs. CountsOn c.inputs.frame s (map value_view vs) (s.serial + count_in (parts_from (map value_view c.args.inputs.now)))) (item_first c.args.inputs.now c.inputs.v-index c.v-item.result c.inputs-test.true c.v-item.is) (c.inputs.invariant.0 s h)),
  ap (λ f. f.calls) c.make_cells.ensures.frame ∙ c.inputs.invariant.1,
)
