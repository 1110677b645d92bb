use Rattle.std.proofs.Common.{◌≡◌, false, map, refl, subst}
use Rattle.std.specs.Prelude.{IfNone}
use Rattle.herm_code.specs.View.{argument_view, instr_view}
use Rattle.herm_pieces.specs.View.{met_view, piece_view, position_view, ready_view}
use Rattle.herm_steps.specs.HeldStates.{HeldState}
use Rattle.herm_types.specs.View.{path_view, raise_decl_view}
use Rattle.herm_answers.specs.Calling.{is_call, is_send}
use Rattle.herm_answers.proofs.Messages.{none_sent, takes_call}
use Rattle.herm_answers.proofs.Out.{taken_out, taken_wanted}
use Rattle.herm_answers.proofs.Wants.{no_put}
use Rattle.herm_answers.proofs.sending.take_message.Goals as goal

pub returns-in-Some-clause-wanted : goal.returns-in-Some-clause-wanted
returns-in-Some-clause-wanted c =
    let p : HeldState = record { position = position_view c.process.inside.position; stack = c.process.inside.stack; frame = c.process.inside.frame } in
    let k = c.in-Some.ensures.sent in
    taken_wanted (ready_view c.args.code.now) (piece_view c.args.piece) (met_view c.args.met) p c.args.process.now (path_view c.in-Some.source.now) k.0 (map path_view c.in-Some.trim.now) c.in_ok-message.message c.process.view_is k.1 c.in_ok-message.ensures.wanted

pub returns-in-Some-clause-out : goal.returns-in-Some-clause-out
returns-in-Some-clause-out c =
    let p : HeldState = record { position = position_view c.process.inside.position; stack = c.process.inside.stack; frame = c.process.inside.frame } in
    let q : HeldState = record { position = position_view c.process.inside.position; stack = c.take_sent.new.stack; frame = c.take_sent.new.frame } in
    let k = c.in-Some.ensures.sent in
    taken_out (ready_view c.args.code.now) (piece_view c.args.piece) (met_view c.args.met) p q c.args.process.now (path_view c.in-Some.source.now) k.0 (map path_view c.in-Some.trim.now) c.in_ok-message.message c.process.view_is refl k.1 c.in_ok-message.ensures.placed

pub returns-in-Some-clause-absent : goal.returns-in-Some-clause-absent
returns-in-Some-clause-absent c =
    let p : HeldState = record { position = position_view c.process.inside.position; stack = c.process.inside.stack; frame = c.process.inside.frame } in
    let k = c.in-Some.ensures.sent in
    none_sent (ready_view c.args.code.now) (piece_view c.args.piece) (met_view c.args.met) p c.args.process.now (path_view c.in-Some.source.now) k.0 (map path_view c.in-Some.trim.now) c.in_ok-message.message c.process.view_is k.1 c.in_ok-message.ensures.absent

pub returns-in_default-call_of-clause-absent : goal.returns-in_default-call_of-clause-absent
returns-in_default-call_of-clause-absent c = λ s m stands e wanted.
    let i = instr_view c.args.met.instruction.now in
    let no_send : is_send i ≡ false = subst (λ o. IfNone o (is_send i ≡ false)) c.in_default.is c.sent_by.ensures.other in
    let no_call : is_call i ≡ false = subst (λ o. IfNone o (is_call i ≡ false)) c.in_default-call_of.is c.call_of.ensures.other in
    no_put (ready_view c.args.code.now) s (piece_view c.args.piece) (met_view c.args.met) e m no_send no_call wanted

pub returns-clause-wanted : goal.returns-clause-wanted
returns-clause-wanted c =
    let p : HeldState = record { position = position_view c.process.inside.position; stack = c.process.inside.stack; frame = c.process.inside.frame } in
    let q : HeldState = record { position = position_view c.process.inside.position; stack = c.take_called.new.stack; frame = c.take_called.new.frame } in
    let k = c.in-Some-call_of.ensures.call in
    (takes_call (ready_view c.args.code.now) k.0 (map argument_view c.in-Some-call_of.arguments.now) (map raise_decl_view c.in-Some-call_of.field-0-1.now) (piece_view c.args.piece) (met_view c.args.met) p q c.args.process.now c.process.view_is refl k.1 c.in_ok-message-2.message c.in_ok-message-2.ensures.out).wanted

pub returns-clause-out : goal.returns-clause-out
returns-clause-out c =
    let p : HeldState = record { position = position_view c.process.inside.position; stack = c.process.inside.stack; frame = c.process.inside.frame } in
    let q : HeldState = record { position = position_view c.process.inside.position; stack = c.take_called.new.stack; frame = c.take_called.new.frame } in
    let k = c.in-Some-call_of.ensures.call in
    (takes_call (ready_view c.args.code.now) k.0 (map argument_view c.in-Some-call_of.arguments.now) (map raise_decl_view c.in-Some-call_of.field-0-1.now) (piece_view c.args.piece) (met_view c.args.met) p q c.args.process.now c.process.view_is refl k.1 c.in_ok-message-2.message c.in_ok-message-2.ensures.out).out

pub returns-clause-absent : goal.returns-clause-absent
returns-clause-absent c =
    let p : HeldState = record { position = position_view c.process.inside.position; stack = c.process.inside.stack; frame = c.process.inside.frame } in
    let q : HeldState = record { position = position_view c.process.inside.position; stack = c.take_called.new.stack; frame = c.take_called.new.frame } in
    let k = c.in-Some-call_of.ensures.call in
    (takes_call (ready_view c.args.code.now) k.0 (map argument_view c.in-Some-call_of.arguments.now) (map raise_decl_view c.in-Some-call_of.field-0-1.now) (piece_view c.args.piece) (met_view c.args.met) p q c.args.process.now c.process.view_is refl k.1 c.in_ok-message-2.message c.in_ok-message-2.ensures.out).absent
