use Rattle.herm_machine.proofs.Ports.{first-told}
use Rattle.herm_machine.proofs.looking.first_of.Goals as goal

pub returns-in-Take-clause-port : goal.returns-in-Take-clause-port
returns-in-Take-clause-port c = λ ports e. first-told c.args.want c.in-Take.ports c.in-Take.is ports e
