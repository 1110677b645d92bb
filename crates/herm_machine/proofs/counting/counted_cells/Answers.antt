use Rattle.std.proofs.Common.{sym, subst, ◌∙◌}
use Rattle.herm_frames.specs.Standing.{Stands}
use Rattle.herm_machine.proofs.counting.counted_cells.Goals as goal

pub returns-clause-held : goal.returns-clause-held
returns-clause-held c = λ s h. c.cells-held.ensures.held s.frame (subst (λ p. Stands p.frame s.frame) (sym c.process.view_is) h.frame)

pub returns-clause-left : goal.returns-clause-left
returns-clause-left c = λ b h.
    let h' = subst (λ p. Stands p.frame b) (sym c.process.view_is) h in
    (c.made-made.ensures.made ∙ h'.made, c.cells-held.ensures.held b h', c.finalised-finalised.ensures.finalised ∙ h'.finalised)
