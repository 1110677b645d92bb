use Rattle.std.proofs.Common.{sym, ap, ◌∙◌}
use Rattle.herm_machine.specs.Machines.{nameless}
use Rattle.herm_machine_tests.proofs.Going.{take-wanted, telling}
use Rattle.herm_machine_tests.proofs.driving.look.Goals as goal

pub look-requires-clause-take : goal.look-requires-clause-take
look-requires-clause-take c image main s at = take-wanted ((nameless image main).wanted s) c.args.place _ _ c.if-place-ports.false (ap telling (sym c.in-Some-Take.field-0-is) ∙ c.in-Some-Take.ensures.wanted image main s at)
