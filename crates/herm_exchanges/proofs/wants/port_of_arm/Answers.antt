use Rattle.std.proofs.Common.{map, Some, None, ◌∙◌}
use Rattle.herm_code.specs.View.{choice_view}
use Rattle.herm_code_machine.specs.CodeActions.{ports_of_choices}
use Rattle.herm_exchanges.proofs.Looked.{arm_port}
use Rattle.herm_exchanges.proofs.Told.{looked_at}
use Rattle.herm_exchanges.proofs.wants.port_of_arm.Goals as goal

pub returns-in-Some : goal.returns-in-Some
returns-in-Some c = record {
  port = λ s ports h e.
      c.inport_at.ensures.port s h
      ∙ arm_port c.args.arms.now c.args.place s (Some c.in-Some.arm.now) c.in-Some.ensures.arm
      ∙ looked_at (ports_of_choices (map choice_view c.args.arms.now)) s c.args.place ports e;
  exactly = λ s h. c.inport_at.ensures.port s h ∙ arm_port c.args.arms.now c.args.place s (Some c.in-Some.arm.now) c.in-Some.ensures.arm;
}

pub returns-in-None : goal.returns-in-None
returns-in-None c = record {
  port = λ s ports h e. arm_port c.args.arms.now c.args.place s None c.in-None.ensures.arm ∙ looked_at (ports_of_choices (map choice_view c.args.arms.now)) s c.args.place ports e;
  exactly = λ s h. arm_port c.args.arms.now c.args.place s None c.in-None.ensures.arm;
}
