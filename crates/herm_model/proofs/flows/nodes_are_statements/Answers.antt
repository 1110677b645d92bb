use Rattle.herm_model.proofs.NodeNumbers.{process_forms, process_numbers-Rise, process_numbers-range}
use Rattle.herm_model.proofs.flows.nodes_are_statements.Goals as goal

pub returns : goal.returns
returns c = record {
  forms = process_forms;
  rise = process_numbers-Rise;
  range = process_numbers-range;
}
