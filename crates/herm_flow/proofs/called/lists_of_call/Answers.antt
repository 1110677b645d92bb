use Rattle.herm_flow.proofs.CalledEdges.{called_as_tabled}
use Rattle.herm_flow.proofs.called.lists_of_call.Goals as goal

pub returns-clause-edges : goal.returns-clause-edges
returns-clause-edges c = called_as_tabled c.args.frame.now c.args.form.now c.args.o.now c.args.arguments.now c.requires.call (record { made = c.in_ok-made.made; gone = c.in_ok-gone.gone; edges = c.in_ok-edges.edges }) c.as_slice.result.now c.as_slice.ensures.value c.in_ok-edges.ensures.called c.in_ok-made.ensures.made c.in_ok-gone.ensures.gone
