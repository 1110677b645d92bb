use Rattle.std.proofs.Common.{◌≡◌, Some, None, map, option_and_then, slice_get, ap, ◌∙◌}
use Rattle.herm_model.specs.Calls.{inport_at, message_type}
use Rattle.herm_code.specs.View.{argument_view, instr_view}
use Rattle.herm_frames.specs.Scopes.{number_of, numbers_of}
use Rattle.herm_letters.specs.View.{reply_view}
use Rattle.herm_pieces.specs.View.{ready_view}
use Rattle.herm_types.specs.View.{path_view, raise_decl_view}
use Rattle.herm_machine.proofs.Awaited.{heard-by}
use Rattle.herm_machine.proofs.suiting.is_heard_by.Goals as goal

pub returns-in-Some : goal.returns-in-Some
returns-in-Some c = record {
  exactly = heard-by (ready_view c.args.code.now) (instr_view c.args.instruction.now) (path_view c.in-Call.port) (map argument_view (c.in-Call.field-1).items) (map raise_decl_view (c.in-Call.field-2).items) (number_of (Some c.in-Some.t)) (reply_view c.args.reply.now) c.is_reply_to.result
      (ap instr_view c.in-Call.is)
      (c.in-Some.ensures.of ∙ ap (λ vs. option_and_then message_type (option_and_then (slice_get c.args.code.now.types.now.shapes) (inport_at c.args.code.now.types.now.shapes (numbers_of vs) (path_view c.in-Call.port)))) c.as_slice.ensures.value) c.is_reply_to.ensures.exactly;
}

pub returns-in-None : goal.returns-in-None
returns-in-None c = record {
  exactly = heard-by (ready_view c.args.code.now) (instr_view c.args.instruction.now) (path_view c.in-Call.port) (map argument_view (c.in-Call.field-1).items) (map raise_decl_view (c.in-Call.field-2).items) None (reply_view c.args.reply.now) c.is_empty.result
      (ap instr_view c.in-Call.is)
      (c.in-None.ensures.of ∙ ap (λ vs. option_and_then message_type (option_and_then (slice_get c.args.code.now.types.now.shapes) (inport_at c.args.code.now.types.now.shapes (numbers_of vs) (path_view c.in-Call.port)))) c.as_slice.ensures.value) (c.is_empty.ensures.exactly c.args.code.now.types.now.shapes);
}
