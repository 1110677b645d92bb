use Rattle.std.proofs.Common.{arith}
use Rattle.herm_code.specs.View.{image_view}
use Rattle.herm_process.proofs.KeptOn.{begun-comes, begun-kept}
use Rattle.herm_process.proofs.process.Process.begin.Goals as goal

pub invariant_of-result : goal.invariant_of-result
invariant_of-result c =
    begun-kept (image_view c.args.image.now) c.in_ok-machine.machine c.args.number c.args.module_number c.args.first c.args.birth c.steps.result c.new.result c.new.ensures.entries c.new.ensures.process
    (omega (arith, c.steps.ensures, c.args.limits.now.few_steps)) (λ main. c.in_ok-machine.ensures.begins main)

pub returns-clause-begins : goal.returns-clause-begins
returns-clause-begins c main =
    begun-comes (image_view c.args.image.now) main c.in_ok-machine.machine c.args.number c.args.module_number c.args.first c.args.birth c.steps.result c.new.result.entries c.new.ensures.entries (c.in_ok-machine.ensures.begins main)
