use Rattle.herm_driver.specs.Texts.{text_view}
use Rattle.herm_driver.proofs.Claimed.{refused-answer}
use Rattle.herm_driver.proofs.accepting.refusal_answer.Goals as goal

pub returns-in_ok-text-in-Refused : goal.returns-in_ok-text-in-Refused
returns-in_ok-text-in-Refused c = record {
  claim = λ purpose. refused-answer purpose c.args.files.now c.args.fault c.in-Refused.faults (text_view c.in_ok-text-in-Refused.text) c.in_ok-text-in-Refused.ensures c.in-Refused.is c.requires.refused;
}
