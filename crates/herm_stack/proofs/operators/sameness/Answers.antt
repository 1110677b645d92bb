use Rattle.std.proofs.Common.{ap}
use Rattle.herm_values.specs.View.{value_view}
use Rattle.herm_stack.specs.Operands.{scalar_in}
use Rattle.herm_stack.proofs.Operated.{text_sameness}
use Rattle.herm_stack.proofs.operators.sameness.Goals as goal

pub returns-in-Some-as_text : goal.returns-in-Some-as_text
returns-in-Some-as_text c =
    text_sameness (value_view c.args.left.now) (value_view c.args.right.now) _ _ c.bytes.result.now c.bytes-in-Some-as_text.result.now c.eq.result
    (ap (λ v. scalar_in (value_view v)) c.in-Text.is) c.in-Some-as_text.ensures c.bytes.ensures.bytes c.bytes-in-Some-as_text.ensures.bytes c.eq.ensures
