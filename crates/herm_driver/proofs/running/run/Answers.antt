use Rattle.std.proofs.Common.{◌∙◌, ap, List, ℕ}
use Rattle.herm_meaning.specs.Names.{NamedTable}
use Rattle.herm_system.specs.RunTexts.{Asked}
use Rattle.herm_text.specs.ReportTexts.{report_text}
use Rattle.herm_text.specs.AskedView.{asked_view}
use Rattle.herm_commands.specs.Words.{options_seen}
use Rattle.herm_driver.specs.Words.{options_of}
use Rattle.herm_driver.proofs.Claimed.{runs-of-end}
use Rattle.herm_driver.proofs.running.run.Goals as goal

pub returns : goal.returns
returns c = record {
  runs = λ files means. runs-of-end c.args.compiled.now.image.types c.args.compiled.now.program c.args.compiled.now.image c.requires.stands (options_of (options_seen c.args.options.now)) c.in_ok-report.report c.requires.text
      c.in_ok-report.ensures.reports c.status.result c.status.ensures.status c.in_ok-text.text.items
      (c.in_ok-text.ensures.text
      ∙ ap (λ (names : List (List ℕ)). report_text names (asked_view c.asked_for.result) c.in_ok-report.report) (c.exceptions-names.ensures ∙ ap (λ (t : NamedTable). t.exceptions) c.types.ensures.types)
      ∙ ap (λ (asked : Asked). report_text c.args.compiled.now.image.types.exceptions asked c.in_ok-report.report) c.asked_for.ensures.asked)
      files means;
}
