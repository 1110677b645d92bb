use Rattle.herm_code_machine.proofs.EndedRuns.{ends-told, exceptions-told, runs-go_on}
use Rattle.herm_code_machine.proofs.pieces.ends_are_told.Goals as goal

pub returns : goal.returns
returns c = record { runs = runs-go_on; ends = ends-told; exceptions = exceptions-told }
