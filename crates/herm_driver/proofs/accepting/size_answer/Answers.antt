use Rattle.std.proofs.Common.{List, map, ◌∙◌, ap}
use Rattle.herm_typed.specs.View.{typed_process_view}
use Rattle.herm_typed.specs.declared.statements.TypedProcess.{TypedProcess}
use Rattle.herm_sizes.specs.AcceptedLines.{accepted_text}
use Rattle.herm_driver.proofs.Claimed.{checks-of-line}
use Rattle.herm_driver.proofs.accepting.size_answer.Goals as goal

pub returns : goal.returns
returns c = record {
  checks = λ files means. checks-of-line c.args.checked.now.types c.args.checked.now.program c.requires.accepted c.plain.result c.in_ok-text.text c.plain.ensures
      (c.in_ok-text.ensures.text ∙ ap (λ (ps : List TypedProcess). accepted_text (map typed_process_view ps)) c.as_slice.ensures.value) files means;
}
