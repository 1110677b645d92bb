use Rattle.std.proofs.Common.{◌≡◌, ℕ, sym, subst}
use Rattle.std.specs.Prelude.{⊤}
use Rattle.herm_system.specs.Machines.{local}
use Rattle.herm_instructions.specs.Images.{Image}
use Rattle.herm_code_machine.specs.CodeStates.{CodeState}
use Rattle.herm_machine.specs.Machines.{nameless}
use Rattle.herm_process.specs.Kept.{process_state}
use Rattle.herm_process.specs.Processes.{ProcessState, IsProcess}
use Rattle.herm_process.proofs.KeptOn.{stepping, stepped-kept}
use Rattle.herm_process.proofs.Went.{stepped}
use Rattle.herm_process.proofs.process.Process.local.Goals as goal

pub make_step-requires-clause-next : goal.make_step-requires-clause-next
make_step-requires-clause-next c = stepping c.self.inside.machine c.self.inside.number c.self.inside.module_number c.self.inside.first c.self.inside.birth c.self.inside.limit c.self.inside.clock c.self.inside.diary c.self.inside.ordered c.self.inside.is_dead c.self.invariant c.if-self.false (subst (λ (p : ProcessState). (image : Image) (main : ℕ) (x : CodeState ⊤) → IsProcess image main p x → (nameless image main).ready p.limit x ≡ local) (sym c.self.view_is) c.requires.next)

pub invariant_of-self-2 : goal.invariant_of-self-2
invariant_of-self-2 c = stepped-kept c.self.inside.machine c.self.inside.number c.self.inside.module_number c.self.inside.first c.self.inside.birth c.self.inside.limit c.self.inside.clock c.self.inside.diary c.self.inside.ordered c.self.inside.is_dead c.self.invariant c.if-self.false (subst (λ (p : ProcessState). (image : Image) (main : ℕ) (x : CodeState ⊤) → IsProcess image main p x → (nameless image main).ready p.limit x ≡ local) (sym c.self.view_is) c.requires.next) c.make_step.new.machine c.in_ok-make_step.ensures.step

pub returns-clause-step : goal.returns-clause-step
returns-clause-step c image main x h =
    let g = subst (λ p. IsProcess image main p x) (sym c.self.view_is) h in
    let each = subst (λ (p : ProcessState). (image : Image) (main : ℕ) (x : CodeState ⊤) → IsProcess image main p x → (nameless image main).ready p.limit x ≡ local) (sym c.self.view_is) c.requires.next in
    stepped image main (process_state c.self.inside.machine c.self.inside.number c.self.inside.module_number c.self.inside.first c.self.inside.birth c.self.inside.limit c.self.inside.clock c.self.inside.diary c.self.inside.ordered c.self.inside.is_dead) c.make_step.new.machine x g (each image main x g) (c.in_ok-make_step.ensures.step image main x g.at)
