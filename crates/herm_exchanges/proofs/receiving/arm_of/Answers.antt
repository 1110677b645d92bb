use Rattle.std.proofs.Common.{map, ◌∙◌}
use Rattle.herm_code.specs.View.{choice_view}
use Rattle.herm_code_machine.specs.CodeActions.{ports_of_choices}
use Rattle.herm_exchanges.proofs.Looked.{with_ports, without_ports}
use Rattle.herm_exchanges.proofs.receiving.arm_of.Goals as goal

pub returns-then-not-have_ports-clause-place : goal.returns-then-not-have_ports-clause-place
returns-then-not-have_ports-clause-place c = λ s h. without_ports (ports_of_choices (map choice_view c.args.arms.now)) s c.args.port.number (c.if-not-have_ports.ensures.have s h)

pub returns-clause-place : goal.returns-clause-place
returns-clause-place c = λ s h. c.first_looking-place.ensures.place s h ∙ with_ports (ports_of_choices (map choice_view c.args.arms.now)) s c.args.port.number (c.if-not-have_ports.ensures.have s h)
