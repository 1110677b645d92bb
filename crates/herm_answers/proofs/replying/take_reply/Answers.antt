use Rattle.std.proofs.Common.{◌≡◌, refl, subst}
use Rattle.herm_model.specs.Calls.{parameters_of, returned_places, shape_at}
use Rattle.herm_model.specs.Lists.{list_of}
use Rattle.herm_journal.specs.Actions.{raised, values}
use Rattle.herm_instructions.specs.Instructions.{Return, ReturnBy}
use Rattle.herm_pieces.specs.View.{met_view, piece_view, position_view, ready_view}
use Rattle.herm_steps.specs.HeldStates.{HeldState}
use Rattle.herm_types.specs.View.{path_view}
use Rattle.herm_answers.specs.Returning.{IsReturning}
use Rattle.herm_answers.proofs.Replied.{raised_return, takes_reply, values_return}
use Rattle.herm_answers.proofs.Wants.{no_answer}
use Rattle.herm_answers.proofs.replying.take_reply.Goals as goal

pub returns-in_ok-reply-in-Values-clause-wanted : goal.returns-in_ok-reply-in-Values-clause-wanted
returns-in_ok-reply-in-Values-clause-wanted c =
    let code = ready_view c.args.code.now in
    let met = met_view c.args.met in
    let m = path_view c.in-Values.source.now in
    let p : HeldState = record { position = position_view c.process.inside.position; stack = c.process.inside.stack; frame = c.process.inside.frame } in
    let q : HeldState = record { position = position_view c.process.inside.position; stack = c.take_values.new.stack; frame = c.take_values.new.frame } in
    let at : met.instruction ≡ Return m = subst (λ x. IsReturning x met.instruction) c.in-Values.is c.returning_of.ensures.returning in
    (takes_reply code (Return m) m (returned_places 0 (list_of parameters_of (shape_at code.scope.types code.scope.variables m))) values (values_return code m) (piece_view c.args.piece) met p q c.args.process.now c.process.view_is refl at c.in_ok-reply-in-Values.reply c.in_ok-reply-in-Values.ensures.out).wanted

pub returns-in_ok-reply-in-Values-clause-out : goal.returns-in_ok-reply-in-Values-clause-out
returns-in_ok-reply-in-Values-clause-out c =
    let code = ready_view c.args.code.now in
    let met = met_view c.args.met in
    let m = path_view c.in-Values.source.now in
    let p : HeldState = record { position = position_view c.process.inside.position; stack = c.process.inside.stack; frame = c.process.inside.frame } in
    let q : HeldState = record { position = position_view c.process.inside.position; stack = c.take_values.new.stack; frame = c.take_values.new.frame } in
    let at : met.instruction ≡ Return m = subst (λ x. IsReturning x met.instruction) c.in-Values.is c.returning_of.ensures.returning in
    (takes_reply code (Return m) m (returned_places 0 (list_of parameters_of (shape_at code.scope.types code.scope.variables m))) values (values_return code m) (piece_view c.args.piece) met p q c.args.process.now c.process.view_is refl at c.in_ok-reply-in-Values.reply c.in_ok-reply-in-Values.ensures.out).out

pub returns-in_ok-reply-in-Values-clause-absent : goal.returns-in_ok-reply-in-Values-clause-absent
returns-in_ok-reply-in-Values-clause-absent c =
    let code = ready_view c.args.code.now in
    let met = met_view c.args.met in
    let m = path_view c.in-Values.source.now in
    let p : HeldState = record { position = position_view c.process.inside.position; stack = c.process.inside.stack; frame = c.process.inside.frame } in
    let q : HeldState = record { position = position_view c.process.inside.position; stack = c.take_values.new.stack; frame = c.take_values.new.frame } in
    let at : met.instruction ≡ Return m = subst (λ x. IsReturning x met.instruction) c.in-Values.is c.returning_of.ensures.returning in
    (takes_reply code (Return m) m (returned_places 0 (list_of parameters_of (shape_at code.scope.types code.scope.variables m))) values (values_return code m) (piece_view c.args.piece) met p q c.args.process.now c.process.view_is refl at c.in_ok-reply-in-Values.reply c.in_ok-reply-in-Values.ensures.out).absent

pub returns-in_ok-reply-in-Raised-clause-wanted : goal.returns-in_ok-reply-in-Raised-clause-wanted
returns-in_ok-reply-in-Raised-clause-wanted c =
    let code = ready_view c.args.code.now in
    let met = met_view c.args.met in
    let m = path_view c.in-Raised.source.now in
    let p : HeldState = record { position = position_view c.process.inside.position; stack = c.process.inside.stack; frame = c.process.inside.frame } in
    let q : HeldState = record { position = position_view c.process.inside.position; stack = c.take_raised.new.stack; frame = c.take_raised.new.frame } in
    let at : met.instruction ≡ ReturnBy m c.in-Raised.exception.0 c.in-Raised.kept.now = subst (λ x. IsReturning x met.instruction) c.in-Raised.is c.returning_of.ensures.returning in
    (takes_reply code (ReturnBy m c.in-Raised.exception.0 c.in-Raised.kept.now) m c.in-Raised.kept.now (raised c.in-Raised.exception.0) (raised_return code m c.in-Raised.exception.0 c.in-Raised.kept.now) (piece_view c.args.piece) met p q c.args.process.now c.process.view_is refl at c.in_ok-reply-in-Raised.reply c.in_ok-reply-in-Raised.ensures.out).wanted

pub returns-in_ok-reply-in-Raised-clause-out : goal.returns-in_ok-reply-in-Raised-clause-out
returns-in_ok-reply-in-Raised-clause-out c =
    let code = ready_view c.args.code.now in
    let met = met_view c.args.met in
    let m = path_view c.in-Raised.source.now in
    let p : HeldState = record { position = position_view c.process.inside.position; stack = c.process.inside.stack; frame = c.process.inside.frame } in
    let q : HeldState = record { position = position_view c.process.inside.position; stack = c.take_raised.new.stack; frame = c.take_raised.new.frame } in
    let at : met.instruction ≡ ReturnBy m c.in-Raised.exception.0 c.in-Raised.kept.now = subst (λ x. IsReturning x met.instruction) c.in-Raised.is c.returning_of.ensures.returning in
    (takes_reply code (ReturnBy m c.in-Raised.exception.0 c.in-Raised.kept.now) m c.in-Raised.kept.now (raised c.in-Raised.exception.0) (raised_return code m c.in-Raised.exception.0 c.in-Raised.kept.now) (piece_view c.args.piece) met p q c.args.process.now c.process.view_is refl at c.in_ok-reply-in-Raised.reply c.in_ok-reply-in-Raised.ensures.out).out

pub returns-in_ok-reply-in-Raised-clause-absent : goal.returns-in_ok-reply-in-Raised-clause-absent
returns-in_ok-reply-in-Raised-clause-absent c =
    let code = ready_view c.args.code.now in
    let met = met_view c.args.met in
    let m = path_view c.in-Raised.source.now in
    let p : HeldState = record { position = position_view c.process.inside.position; stack = c.process.inside.stack; frame = c.process.inside.frame } in
    let q : HeldState = record { position = position_view c.process.inside.position; stack = c.take_raised.new.stack; frame = c.take_raised.new.frame } in
    let at : met.instruction ≡ ReturnBy m c.in-Raised.exception.0 c.in-Raised.kept.now = subst (λ x. IsReturning x met.instruction) c.in-Raised.is c.returning_of.ensures.returning in
    (takes_reply code (ReturnBy m c.in-Raised.exception.0 c.in-Raised.kept.now) m c.in-Raised.kept.now (raised c.in-Raised.exception.0) (raised_return code m c.in-Raised.exception.0 c.in-Raised.kept.now) (piece_view c.args.piece) met p q c.args.process.now c.process.view_is refl at c.in_ok-reply-in-Raised.reply c.in_ok-reply-in-Raised.ensures.out).absent

pub returns-in-Other-clause-absent : goal.returns-in-Other-clause-absent
returns-in-Other-clause-absent c = λ s reply stands e wanted.
    let met = met_view c.args.met in
    no_answer (ready_view c.args.code.now) s (piece_view c.args.piece) met e reply (subst (λ x. IsReturning x met.instruction) c.in-Other.is c.returning_of.ensures.returning) wanted
