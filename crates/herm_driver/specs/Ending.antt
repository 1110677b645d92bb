-- The report of a run that was led to its end.
use Rattle.std.specs.Prelude.{◌≡◌, ℕ, List, [], Some, ⊤}
use Rattle.herm_model.specs.Values.{Name}
use Rattle.herm_journal.specs.Entries.{Text}
use Rattle.herm_journal.specs.NextNumbers.{Limits}
use Rattle.herm_system.specs.Rounds.{rounds}
use Rattle.herm_system.specs.Systems.{Event, start}
use Rattle.herm_instructions.specs.Images.{Image}
use Rattle.herm_code_machine.specs.CodeStates.{CodeState}
use Rattle.herm_waking.specs.KeptRounds.{Worked}
use Rattle.herm_waking.specs.UnnamedRounds.{BareWorked}
use Rattle.herm_code_worlds.specs.CodeWorlds.{named, nameless, Shows}
use Rattle.herm_report.specs.declared.report.Report.{Report}
use Rattle.herm_report_laws.specs.ReportLaws.{TellsOf}

-- The run by rounds of the image, which begins with this main under these limits and with this argument, comes to a state in which nobody can step, and the report is that of this run and this state.
-- Language reference, "Reports".
pub record IsReportOfEnd (image : Image) (main : ℕ) (limits : Limits) (argument : Text) (report : Report) : Type 0 where
  pub events : List Event
  pub run : Worked (CodeState Name)
  pub bare : BareWorked (CodeState ⊤)
  pub shows : Shows image main limits argument events run bare
  pub most : ℕ
  pub by_rounds : rounds most (named image main) (start (named image main) limits argument) ≡ Some run.run
  pub nobody : bare.kept.ready ≡ []
  pub tells : TellsOf image main bare.system run.run.journal report
