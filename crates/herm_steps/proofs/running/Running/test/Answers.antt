use Rattle.std.proofs.Common.{refl}
use Rattle.herm_instructions.specs.Instructions.{JumpFalse}
use Rattle.herm_steps.proofs.Done.{by_top, top_gone}
use Rattle.herm_steps.proofs.running.Running.test.Goals as goal

pub returns : goal.returns
returns c = record {
  performed = λ code index b h.
      by_top code (JumpFalse index) b _ _ c.in-Some.v.now c.let_go-gone.new.self c.self.inside.frame c.tested-outcome.result c.self.view_is h (top_gone c.let_go-gone.result _ _ _ c.in-Some.ensures.top c.let_go-gone.ensures.gone)
      (λ at. (refl, c.tested-outcome.ensures.tested c.self.inside.frame b at));
}
