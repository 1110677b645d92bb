-- What is claimed of runs of an image that stands for a program.
use Rattle.std.specs.Prelude.{List, length, IsTrue}
use Rattle.herm_model.specs.Typed.{is_text}
use Rattle.herm_journal.specs.Entries.{Text}
use Rattle.herm_journal.specs.NextNumbers.{Limits}
use Rattle.herm_system.specs.Reports.{Report, IsReportOf}
use Rattle.herm_system.specs.RunTexts.{plainly}
use Rattle.herm_meaning.specs.Names.{NamedTable}
use Rattle.herm_source.specs.AcceptedRuns.{Describes}
use Rattle.herm_source.specs.Checked.{IsChecked}
use Rattle.herm_source.specs.Modules.{Program, Modules}
use Rattle.herm_code_machine.specs.CodeInstance.{code_machine}
use Rattle.herm_code_machine.specs.ReadyCode.{labelled_image}
use Rattle.herm_code.specs.View.{CodeImage, image_view}
use Rattle.herm_images.specs.CheckedPrograms.{StandsForProgram}

-- Whatever a run of the image that begins with the main of the program comes to, with a text as argument, its report describes a run of the program, made ready
-- with its exact labels: every state along that run is sound, and every statement finds what it needs. Language reference, "Reports".
abbrev pub ReportsDescribePrograms : Type 0
ReportsDescribePrograms = (types : NamedTable) (program : Program) (image : CodeImage) → StandsForProgram types program image
    → (limits : Limits) (argument : Text) (names : List Text) (report : Report) → IsTrue (is_text argument) → IsReportOf (code_machine (labelled_image (image_view image) program.main)) limits argument report
    → (made : Modules) × IsChecked (length types.exceptions) program made × Describes made limits argument names plainly report
