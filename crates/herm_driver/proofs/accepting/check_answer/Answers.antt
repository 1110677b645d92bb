use Rattle.std.proofs.Common.{List, ℕ, map}
use Rattle.std.specs.declared.vec.Vec.{Vec}
use Rattle.std.specs.declared.alloc.Global.{Global}
use Rattle.herm_claim.specs.Purposes.{check}
use Rattle.herm_driver.specs.Texts.{text_view}
use Rattle.herm_driver.proofs.Claimed.{accepted-answer}
use Rattle.herm_driver.proofs.accepting.check_answer.Goals as goal

pub returns-in_ok-answer-in-Ok : goal.returns-in_ok-answer-in-Ok
returns-in_ok-answer-in-Ok c = record {
  claim = accepted-answer check c.args.files.now c.in_ok-answer-in-Ok.answer.status (text_view c.in_ok-answer-in-Ok.answer.text) c.in_ok-answer-in-Ok.answer.report
      (c.in_ok-answer-in-Ok.ensures.checks (map (λ (f : List ℕ × Vec ℕ Global). f.1.items) c.args.files.now) c.in-Ok.ensures.program);
}
