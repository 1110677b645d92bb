use Rattle.std.proofs.Common.{ap, ◌∙◌}
use Rattle.herm_typestate.specs.declared.tree.Tree.{out-roll-Tree}
use Rattle.herm_typestate.proofs.Marks.{no_marks}
use Rattle.herm_typestate.proofs.tree.forget.Goals as goal

pub returns : goal.returns
returns c m p = no_marks _ (ap (λ y. y.here) (out-roll-Tree _) ∙ ap (λ y. y.here) (out-roll-Tree _)) (ap (λ y. y.known.items) (out-roll-Tree _) ∙ c.clear.ensures.items) c.clear-2.ensures.items m p
