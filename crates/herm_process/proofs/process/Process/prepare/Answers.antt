use Rattle.std.proofs.Common.{◌≡◌, ℕ, false, Option, refl, sym, subst}
use Rattle.std.specs.Prelude.{IsSome, ⊤}
use Rattle.herm_system.specs.Machines.{acting}
use Rattle.herm_instructions.specs.Images.{Image}
use Rattle.herm_code_machine.specs.CodeStates.{CodeState}
use Rattle.herm_machine.specs.Machines.{nameless}
use Rattle.herm_process.specs.Kept.{AreKept, process_state}
use Rattle.herm_process.specs.Processes.{ProcessState, IsProcess}
use Rattle.herm_process.specs.declared.ordered.Ordered.{Ordered}
use Rattle.herm_process.proofs.KeptOn.{given-kept, given-process, wanting}
use Rattle.herm_process.proofs.process.Process.prepare.Goals as goal

pub order_of-requires-clause-wanting : goal.order_of-requires-clause-wanting
order_of-requires-clause-wanting c = wanting c.self.inside.machine c.self.inside.number c.self.inside.module_number c.self.inside.first c.self.inside.birth c.self.inside.limit c.self.inside.clock c.self.inside.diary c.self.inside.ordered c.self.inside.is_dead c.self.invariant c.if-self.false (subst (λ (p : ProcessState). (image : Image) (main : ℕ) (x : CodeState ⊤) → IsProcess image main p x → (nameless image main).ready p.limit x ≡ acting) (sym c.self.view_is) c.requires.next)

pub invariant_of-self-2 : goal.invariant_of-self-2
invariant_of-self-2 c =
    let s = c.self.inside in
    let o = c.in_ok-order.ensures.orders in
    let each = subst (λ (p : ProcessState). (image : Image) (main : ℕ) (x : CodeState ⊤) → IsProcess image main p x → (nameless image main).ready p.limit x ≡ acting) (sym c.self.view_is) c.requires.next in
    subst (λ q. AreKept c.order_of.new.machine s.number s.module_number s.first s.birth s.limit s.clock c.reserve.new.self q false) (sym o.1)
    (given-kept s.machine s.number s.module_number s.first s.birth s.limit s.clock s.diary s.ordered s.is_dead c.self.invariant c.if-self.false each c.order_of.new.machine c.in_ok-order.order o.0 c.reserve.new.self
    c.in_ok-reserve.ensures.entries c.in_ok-reserve.ensures.process c.in_ok-reserve.ensures.ok o.2)

pub returns-clause-order : goal.returns-clause-order
returns-clause-order c image main x h =
    let g = subst (λ p. IsProcess image main p x) (sym c.self.view_is) h in let r = c.in_ok-order.ensures.orders.2 image main x g.at in (r.want, r.wanted, r.order)

pub returns-clause-out : goal.returns-clause-out
returns-clause-out c image main x h =
    let s = c.self.inside in
    let o = c.in_ok-order.ensures.orders in
    let g = subst (λ p. IsProcess image main p x) (sym c.self.view_is) h in
    let each = subst (λ (p : ProcessState). (image : Image) (main : ℕ) (x : CodeState ⊤) → IsProcess image main p x → (nameless image main).ready p.limit x ≡ acting) (sym c.self.view_is) c.requires.next in
    subst (λ q. IsProcess image main (process_state c.order_of.new.machine s.number s.module_number s.first s.birth s.limit s.clock c.reserve.new.self q false) x) (sym o.1)
    (given-process s.machine s.number s.module_number s.first s.birth s.limit s.clock s.diary s.ordered s.is_dead c.self.invariant c.if-self.false c.order_of.new.machine c.in_ok-order.order o.0 c.reserve.new.self
    c.in_ok-reserve.ensures.entries image main x g (each image main x g) (o.2 image main x g.at))

pub returns-clause-is_out : goal.returns-clause-is_out
returns-clause-is_out c = subst (λ (q : Option Ordered). IsSome q) (sym c.in_ok-order.ensures.orders.1) refl
