use Rattle.herm_code_machine.proofs.sound.Processes.{outcomes-lead}
use Rattle.herm_code_machine.proofs.good_images.outcomes_lead_along_ways.Goals as goal

pub returns : goal.returns
returns c = record { leads = outcomes-lead }
