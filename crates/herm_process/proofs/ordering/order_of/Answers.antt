use Rattle.std.proofs.Common.{refl, sym, ap, ◌∙◌}
use Rattle.herm_machine.specs.Machines.{code_of}
use Rattle.herm_process.proofs.SomePort.{never-untold}
use Rattle.herm_process.proofs.Standings.{at-sound}
use Rattle.herm_process.proofs.OrdersServed.{port-ordered, process-ordered, take-ordered, close-ordered, hear-ordered, telling}
use Rattle.herm_process.specs.declared.ordered.Ordered.TheVariants as ordered
use Rattle.herm_process.proofs.ordering.order_of.Goals as goal

pub put_order-requires-clause-put : goal.put_order-requires-clause-put
put_order-requires-clause-put c image main s at = ap telling (sym c.in-Some-Put.field-0-is) ∙ c.in-Some-Put.ensures.wanted image main s at

pub answer_order-requires-clause-answer : goal.answer_order-requires-clause-answer
answer_order-requires-clause-answer c image main s at = ap telling (sym c.in-Some-Answer.field-0-is) ∙ c.in-Some-Answer.ensures.wanted image main s at

pub unreachable-requires : goal.unreachable-requires
unreachable-requires c = let r = c.requires.wanting in let m = c.args.machine.now in never-untold r.0 r.1 (code_of m) r.2 r.3 (at-sound r.0 r.1 m r.2 r.4) (c.in-None.ensures.wanted r.0 r.1 r.2 r.4) r.5

pub returns-in-Some-MakePort-clause-orders : goal.returns-in-Some-MakePort-clause-orders
returns-in-Some-MakePort-clause-orders c = (ordered.MakePort, refl, λ image main s at. port-ordered c.args.machine.now c.requires.inside image main s at (ap telling (sym c.in-Some-MakePort.field-0-is) ∙ c.in-Some-MakePort.ensures.wanted image main s at))

pub returns-in-Some-MakeProcess-clause-orders : goal.returns-in-Some-MakeProcess-clause-orders
returns-in-Some-MakeProcess-clause-orders c = (ordered.MakeProcess c.in-Some-MakeProcess.code, refl, λ image main s at. process-ordered c.args.machine.now c.requires.inside image main s at c.in-Some-MakeProcess.code (ap telling (sym c.in-Some-MakeProcess.field-0-is) ∙ c.in-Some-MakeProcess.ensures.wanted image main s at))

pub returns-in-Some-Take-clause-orders : goal.returns-in-Some-Take-clause-orders
returns-in-Some-Take-clause-orders c = (ordered.Take, refl, λ image main s at. take-ordered c.args.machine.now c.requires.inside image main s at c.in-Some-Take.ports (ap telling (sym c.in-Some-Take.field-0-is) ∙ c.in-Some-Take.ensures.wanted image main s at))

pub returns-in-Some-Close-clause-orders : goal.returns-in-Some-Close-clause-orders
returns-in-Some-Close-clause-orders c = (ordered.Close c.in-Some-Close.port, refl, λ image main s at. close-ordered c.args.machine.now c.requires.inside image main s at c.in-Some-Close.port (ap telling (sym c.in-Some-Close.field-0-is) ∙ c.in-Some-Close.ensures.wanted image main s at))

pub returns-in-Some-Hear-clause-orders : goal.returns-in-Some-Hear-clause-orders
returns-in-Some-Hear-clause-orders c = (ordered.Hear, refl, λ image main s at. hear-ordered c.args.machine.now c.requires.inside image main s at (ap telling (sym c.in-Some-Hear.field-0-is) ∙ c.in-Some-Hear.ensures.wanted image main s at))
