-- What is generated of a program, and what it is generated of.
use Rattle.std.specs.Prelude.{List, map}
use Rattle.herm_model.specs.Lists.{IsIn}
use Rattle.herm_model.specs.Types.{TypeTable}
use Rattle.herm_instructions.specs.Images.{Image}
use Rattle.herm_code.specs.View.{module_view, const_view}
use Rattle.herm_blocks.specs.declared.checked.CheckedProcess.{CheckedProcess}
use Rattle.herm_blocks.specs.CheckedProcesses.{HasFlow}
use Rattle.herm_codegen.specs.declared.program.Generated.{Generated}

-- each process stands with its flow
abbrev pub AllHaveFlows : TypeTable → List CheckedProcess → Type 0
AllHaveFlows types cs = (c : CheckedProcess) → IsIn c cs → HasFlow types c

-- the image of these modules and constants, over types
abbrev pub generated_view : TypeTable → Generated → Image
generated_view types g = record { modules = map module_view g.modules.items; constants = map const_view g.constants.items; types = types }
