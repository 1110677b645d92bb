use Rattle.std.proofs.Common.{sym, ap, ◌∙◌}
use Rattle.herm_machine.specs.Machines.{nameless}
use Rattle.herm_machine_tests.proofs.Going.{alive-by, put-wanted, sent, telling}
use Rattle.herm_machine_tests.proofs.driving.letter_of.Goals as goal

pub letter-requires-clause-put : goal.letter-requires-clause-put
letter-requires-clause-put c image main s at = put-wanted ((nameless image main).wanted s) _ (ap telling (sym c.in-Some-Put.field-0-is) ∙ c.in-Some-Put.ensures.wanted image main s at)

pub returns-clause-sent : goal.returns-clause-sent
returns-clause-sent c = sent c.args.machine.now c.letter.new.self c.requires.going (alive-by c.args.machine.now.is_dead c.in_ok-letter.ensures.dead) c.in_ok-letter.letter c.in_ok-letter.ensures.letter c.in_ok-letter.ensures.out
