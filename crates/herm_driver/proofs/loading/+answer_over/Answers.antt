use Rattle.std.proofs.Common.{ℕ, List, subst}
use Rattle.std.specs.declared.vec.Vec.{Vec}
use Rattle.std.specs.declared.alloc.Global.{Global}
use Rattle.herm_claim.specs.Claim.{Claim}
use Rattle.herm_driver.specs.Due.{told_of}
use Rattle.herm_driver.specs.Purposes.{purpose_view, files_view}
use Rattle.herm_driver.specs.Texts.{text_view}
use Rattle.herm_driver.proofs.Chosen.{texts_of, match-none, on-err, first-none, due-at-the-end, due-behind, first-behind}
use Rattle.herm_driver.proofs.loading.+answer_over.Goals as goal

pub returns-in_default-clause-due : goal.returns-in_default-clause-due
returns-in_default-clause-due g t c =
    due-at-the-end g.F.Shelf.loads g.F.Shelf.faults (g.F.Shelf.contents c.args.shelf.now) c.args.shelf.now (purpose_view c.args.purpose.now) (files_view c.args.files.items) c.args.names.now
    c.in_ok-answer.answer.status (text_view c.in_ok-answer.answer.text) c.in_ok-answer.answer.report (match-none _ c.split_first.result c.in_default.is c.split_first.ensures.cases)
    (subst (λ (items : List (List ℕ × Vec ℕ Global)). Claim (purpose_view c.args.purpose.now) (files_view items) c.in_ok-answer.answer.status (text_view c.in_ok-answer.answer.text) (told_of c.in_ok-answer.answer.report c.in_ok-answer.answer.status (text_view c.in_ok-answer.answer.text))) c.deref.ensures.value c.in_ok-answer.ensures.claim)

pub returns-in_err-push_file-in-Here-clause-memory : goal.returns-in_err-push_file-in-Here-clause-memory
returns-in_err-push_file-in-Here-clause-memory g t c =
    on-err c.from_residual-in_err-push_file-in-Here.result
    (first-behind g.F.Shelf.loads c.args.names.now c.in-Some.name.now c.in-Some.rest.now c.in-Here.bytes.items c.args.shelf.now c.load_named.new.shelf c.load_named.new.shelf
    c.in-Some.ensures.cases.0 c.in-Here.ensures.loaded c.in-Here.ensures.within (first-none g.F.Shelf.loads (texts_of c.in-Some.rest.now) c.load_named.new.shelf))

pub returns-in_err-answer-in-Here-clause-memory : goal.returns-in_err-answer-in-Here-clause-memory
returns-in_err-answer-in-Here-clause-memory g t c =
    on-err c.from_residual-in_err-answer-in-Here.result
    (first-behind g.F.Shelf.loads c.args.names.now c.in-Some.name.now c.in-Some.rest.now c.in-Here.bytes.items c.args.shelf.now c.load_named.new.shelf c.answer_over.new.shelf
    c.in-Some.ensures.cases.0 c.in-Here.ensures.loaded c.in-Here.ensures.within c.in_err-answer-in-Here.ensures.memory)

pub returns-in_ok-answer-in-Here-clause-due : goal.returns-in_ok-answer-in-Here-clause-due
returns-in_ok-answer-in-Here-clause-due g t c =
    due-behind g.F.Shelf.loads g.F.Shelf.faults (g.F.Shelf.contents c.args.shelf.now) (g.F.Shelf.contents c.load_named.new.shelf) c.args.shelf.now c.load_named.new.shelf c.answer_over.new.shelf
    (purpose_view c.args.purpose.now) (files_view c.args.files.items) (files_view c.push_file.new.files.items) c.args.names.now c.in-Some.name.now c.in-Some.rest.now c.in-Here.bytes.items
    c.in_ok-answer-in-Here.answer.status (text_view c.in_ok-answer-in-Here.answer.text) c.in_ok-answer-in-Here.answer.report
    c.in-Some.ensures.cases.0 c.in_ok-push_file-in-Here.ensures.pushed c.in-Here.ensures.loaded c.in-Here.ensures.kept c.in-Here.ensures.same c.in-Here.ensures.within c.in-Here.ensures.here
    c.in_ok-answer-in-Here.ensures.due
