use Rattle.std.proofs.Common.{sym, ap, ◌∙◌}
use Rattle.herm_machine.specs.Machines.{nameless}
use Rattle.herm_machine_tests.proofs.Going.{alive-by, answer-out, answer-wanted, answered-suits, fits-answered, telling}
use Rattle.herm_machine_tests.proofs.driving.answer.Goals as goal

pub reply-requires-clause-answer : goal.reply-requires-clause-answer
reply-requires-clause-answer c image main s at = answer-wanted ((nameless image main).wanted s) _ _ (ap telling (sym c.in-Some-Answer.field-0-is) ∙ c.in-Some-Answer.ensures.wanted image main s at)

pub go_on-requires-clause-fits : goal.go_on-requires-clause-fits
go_on-requires-clause-fits c = fits-answered c.args.machine.now c.reply.new.self c.requires.going (alive-by c.args.machine.now.is_dead c.in_ok-reply.ensures.dead) c.in_ok-reply.reply c.in_ok-reply.ensures.reply c.in_ok-reply.ensures.out

pub go_on-requires-clause-suits : goal.go_on-requires-clause-suits
go_on-requires-clause-suits c = answered-suits c.reply.new.self

pub go_on-requires-clause-ordered : goal.go_on-requires-clause-ordered
go_on-requires-clause-ordered c = answer-out c.args.machine.now c.reply.new.self c.requires.going (alive-by c.args.machine.now.is_dead c.in_ok-reply.ensures.dead) c.in_ok-reply.ensures.out
