use Rattle.herm_instructions.proofs.LabelsOfCode.{begins-at_label, ways-lead, labels-closed, exceptions-land}
use Rattle.herm_instructions.proofs.good_code.good_code_is_labelled.Goals as goal

pub returns : goal.returns
returns c = record { begins = begins-at_label; ways = ways-lead; closed = labels-closed; landings = exceptions-land }
