use Rattle.herm_codegen.proofs.ProgramCode.{image_same}
use Rattle.herm_codegen.proofs.program.generate.Goals as goal

pub returns-clause-image : goal.returns-clause-image
returns-clause-image c = image_same c.args.types.now.shapes c.args.processes.now _ _ _ c.in_ok-keys.ensures c.in_ok-constants.ensures c.in_ok-modules.ensures.code
