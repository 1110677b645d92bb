use Rattle.std.proofs.Common.{Some}
use Rattle.herm_commands.specs.Words.{seen}
use Rattle.herm_driver.specs.Words.{work_of}
use Rattle.herm_driver.specs.Texts.{text_view}
use Rattle.herm_driver.proofs.Chosen.{due-usage, some-work}
use Rattle.herm_driver.proofs.answer.answer_to.Goals as goal

pub returns-in_ok-answer-in-Ok-clause-usage : goal.returns-in_ok-answer-in-Ok-clause-usage
returns-in_ok-answer-in-Ok-clause-usage g c = λ two. absurd (some-work (seen c.in-Ok.command)
    (due-usage g.F.Shelf.loads g.F.Shelf.faults (g.F.Shelf.contents c.args.shelf.now) c.args.shelf.now c.answer_for.new.shelf (work_of (Some (seen c.in-Ok.command)))
    c.in_ok-answer-in-Ok.answer.status (text_view c.in_ok-answer-in-Ok.answer.text) c.in_ok-answer-in-Ok.answer.report c.in_ok-answer-in-Ok.ensures.due two))
