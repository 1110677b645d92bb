-- The reports of runs of an image that stands for a program.
use Rattle.std.proofs.Common.{length, subst}
use Rattle.herm_system.specs.Reports.{IsReportOf}
use Rattle.herm_instructions.specs.Images.{Image}
use Rattle.herm_code_machine.specs.CodeInstance.{code_machine}
use Rattle.herm_code_machine.specs.ReadyCode.{labelled_image}
use Rattle.herm_simulation.specs.laws.CheckedCode.{modules_of}
use Rattle.herm_simulation.proofs.CodeReported.{code-reports_describe}
use Rattle.herm_simulation.proofs.TranslatedModules.{checked-modules_translated}
use Rattle.herm_images.specs.laws.RunningImages.{ReportsDescribePrograms}

pub reports-describe : ReportsDescribePrograms
reports-describe types program image stands limits argument names report texts of = (
  modules_of program stands.modules,
  stands.checked.checked,
  code-reports_describe (length types.exceptions) program (modules_of program stands.modules) stands.modules (checked-modules_translated (length types.exceptions) program stands.modules stands.checked) limits argument names report texts
      (subst (λ (x : Image). IsReportOf (code_machine (labelled_image x program.main)) limits argument report) stands.image of),
)
