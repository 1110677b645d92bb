use Rattle.std.proofs.Common.{map, option_map, sym, subst}
use Rattle.herm_model.specs.Outcomes.{arm}
use Rattle.herm_journal.specs.Renaming.{forget_name}
use Rattle.herm_forms.specs.Exchanges as exchanges
use Rattle.herm_instructions.specs.Instructions.{Select}
use Rattle.herm_code.specs.View.{choice_view, instr_view}
use Rattle.herm_code_machine.specs.CodeActions.{code_settles, ports_of_choices, targets_of_choices}
use Rattle.herm_frames.specs.Completed.{outcome_view}
use Rattle.herm_types.specs.View.{path_view}
use Rattle.herm_answers.specs.Incomings.{message_taken}
use Rattle.herm_answers.specs.Settled.{Settles}
use Rattle.herm_answers.proofs.Behind.{settles_by}
use Rattle.herm_answers.proofs.incoming.take_message.Goals as goal

pub returns-in_ok-outcome-in-Receive : goal.returns-in_ok-outcome-in-Receive
returns-in_ok-outcome-in-Receive c = record {
  settles = λ code s stack h.
      let taken = message_taken c.args.parcel in
      subst (λ i. Settles c.outcome_of.result c.receive.new.frame stack (code_settles forget_name code (instr_view i) stack c.args.port.number taken s)) (sym c.in-Receive.is)
      (settles_by c.outcome_of.result (outcome_view c.in_ok-outcome-in-Receive.outcome) c.receive.new.frame stack (exchanges.receive (path_view c.in-Receive.target) taken s) c.outcome_of.ensures.outcome (c.in_ok-outcome-in-Receive.ensures.settles s c.args.parcel.number h));
}

pub returns-in_ok-place-in-Select : goal.returns-in_ok-place-in-Select
returns-in_ok-place-in-Select c = record {
  settles = λ code s stack h.
      let taken = message_taken c.args.parcel in
      let choices = map choice_view c.as_slice.result.now in
      subst (λ i. Settles c.arm_of.result c.select.new.frame stack (code_settles forget_name code (instr_view i) stack c.args.port.number taken s)) (sym c.in-Select.is)
      (subst (λ xs. Settles c.arm_of.result c.select.new.frame stack (code_settles forget_name code (Select (map choice_view xs)) stack c.args.port.number taken s)) c.as_slice.ensures.value
      (settles_by c.arm_of.result (option_map arm c.in_ok-place-in-Select.place) c.select.new.frame stack (exchanges.select (targets_of_choices choices) (ports_of_choices choices) c.args.port.number taken s) c.arm_of.ensures.arm
      (c.in_ok-place-in-Select.ensures.settles s c.args.parcel.number h)));
}
