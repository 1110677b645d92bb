use Rattle.std.proofs.Common.{ℕ, map, ap, ◌∙◌}
use Rattle.herm_journal.specs.Weights.{weigh_all}
use Rattle.herm_system.specs.Summary.{cut}
use Rattle.herm_values.specs.View.{value_view}
use Rattle.herm_values.specs.declared.value.Value.{Value}
use Rattle.herm_queue.specs.CellStates.{value_text}
use Rattle.herm_queue.specs.MessageStates.{values_of}
use Rattle.herm_queue.specs.PortStates.{PortState}
use Rattle.herm_queue.proofs.Weighed.{texts-queued, values-queued}
use Rattle.herm_queue.proofs.port_cell.PortCell.into_left.Goals as goal

pub returns-clause-texts : goal.returns-clause-texts
returns-clause-texts c = c.hand_over-parcels.ensures.texts ∙ texts-queued c.self.inside.messages.parcels ∙ ap (λ (s : PortState). map (λ (m : ℕ × Value). value_text m.1) s.held.queue) c.self.view_is

pub returns-clause-cells : goal.returns-clause-cells
returns-clause-cells c =
    c.cells_of_parcels.ensures.cells ∙ ap (λ ps. cut (weigh_all (λ n. 1) (map value_view (values_of ps)))) c.hand_over-parcels.ensures.parcels
    ∙ ap (λ vs. cut (weigh_all (λ n. 1) vs)) (values-queued c.self.inside.messages.parcels)
    ∙ ap (λ (s : PortState). cut (weigh_all (λ n. 1) (map (λ (m : ℕ × Value). value_view m.1) s.held.queue))) c.self.view_is
