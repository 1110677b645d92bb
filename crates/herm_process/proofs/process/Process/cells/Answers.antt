use Rattle.std.proofs.Common.{sym, ap, subst, ◌∙◌}
use Rattle.herm_process.specs.Kept.{process_state}
use Rattle.herm_process.specs.Processes.{ProcessState, IsProcess}
use Rattle.herm_process.specs.Sums.{sums_in}
use Rattle.herm_process.proofs.KeptOn.{inside-standing}
use Rattle.herm_process.proofs.process.Process.cells.Goals as goal

pub returns-clause-made : goal.returns-clause-made
returns-clause-made c image main x h =
    let g = subst (λ p. IsProcess image main p x) (sym c.self.view_is) h in
    c.cells-cells.ensures.made image main x (inside-standing image main (process_state c.self.inside.machine c.self.inside.number c.self.inside.module_number c.self.inside.first c.self.inside.birth c.self.inside.limit c.self.inside.clock c.self.inside.diary c.self.inside.ordered c.self.inside.is_dead) x (ap (λ (p : ProcessState). sums_in p.ordered) c.self.view_is ∙ c.requires.whole) g)

pub returns-clause-held : goal.returns-clause-held
returns-clause-held c image main x h =
    let g = subst (λ p. IsProcess image main p x) (sym c.self.view_is) h in
    c.cells-cells.ensures.held image main x (inside-standing image main (process_state c.self.inside.machine c.self.inside.number c.self.inside.module_number c.self.inside.first c.self.inside.birth c.self.inside.limit c.self.inside.clock c.self.inside.diary c.self.inside.ordered c.self.inside.is_dead) x (ap (λ (p : ProcessState). sums_in p.ordered) c.self.view_is ∙ c.requires.whole) g)

pub returns-clause-finalised : goal.returns-clause-finalised
returns-clause-finalised c image main x h =
    let g = subst (λ p. IsProcess image main p x) (sym c.self.view_is) h in
    c.cells-cells.ensures.finalised image main x (inside-standing image main (process_state c.self.inside.machine c.self.inside.number c.self.inside.module_number c.self.inside.first c.self.inside.birth c.self.inside.limit c.self.inside.clock c.self.inside.diary c.self.inside.ordered c.self.inside.is_dead) x (ap (λ (p : ProcessState). sums_in p.ordered) c.self.view_is ∙ c.requires.whole) g)
