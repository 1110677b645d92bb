use Rattle.std.proofs.Common.{ap, ◌∙◌}
use Rattle.herm_code.specs.View.{CodeImage, image_view}
use Rattle.herm_images.specs.CheckedPrograms.{module_names}
use Rattle.herm_images.proofs.GivenProcesses.{program-good, program-stands}
use Rattle.herm_images.proofs.images.image.Goals as goal

pub new-requires : goal.new-requires
new-requires c = record { good = program-good c.args.types c.args.program.now c.args.accepted.now c.requires.typed c.requires.accepted _ c.in_ok-code.ensures.image }

pub returns-clause-image : goal.returns-clause-image
returns-clause-image c = ap image_view c.new.ensures.parts ∙ c.in_ok-code.ensures.image

pub returns-clause-names : goal.returns-clause-names
returns-clause-names c = ap module_names c.new.ensures.parts ∙ c.in_ok-code.ensures.names

pub returns-clause-stands : goal.returns-clause-stands
returns-clause-stands c = program-stands c.args.types c.args.program.now c.args.accepted.now c.requires.typed c.requires.accepted c.new.result (ap (λ (i : CodeImage). i.types) c.new.ensures.parts) (returns-clause-image c)
