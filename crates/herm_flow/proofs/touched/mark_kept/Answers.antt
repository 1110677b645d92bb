use Rattle.std.proofs.Common.{sym, ap, ◌∙◌, subst}
use Rattle.herm_model.specs.Lists.{IsIn}
use Rattle.herm_model.proofs.Lists.{or-right}
use Rattle.herm_flow.proofs.Marked.{told-there}
use Rattle.herm_flow.proofs.touched.mark_kept.Goals as goal

pub returns-then-leads-clause-marked : goal.returns-then-leads-clause-marked
returns-then-leads-clause-marked c = λ t k m. c.mark_all.ensures.marked k ∙ or-right _ _ (told-there k _ (subst (IsIn k) (sym c.as_slice.ensures.value) m))
