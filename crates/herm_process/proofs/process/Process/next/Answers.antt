use Rattle.std.proofs.Common.{sym, subst}
use Rattle.herm_machine.specs.Machines.{nameless}
use Rattle.herm_process.specs.Kept.{process_state}
use Rattle.herm_process.specs.Nexts.{IsNext}
use Rattle.herm_process.specs.Processes.{ProcessState, IsPrepared, IsProcess}
use Rattle.herm_process.proofs.KeptOn.{standing}
use Rattle.herm_process.proofs.process.Process.next.Goals as goal

pub returns-in-Some-clause-next : goal.returns-in-Some-clause-next
returns-in-Some-clause-next c image main x h =
    let g = subst (λ p. IsProcess image main p x) (sym c.self.view_is) h in
    let r = subst (λ o. IsPrepared image main o c.self.inside.limit x) c.in-Some.is g.prepared in
    subst (λ (p : ProcessState). IsNext (nameless image main) p.limit x c.next_action.result) c.self.view_is (c.next_action.ensures.next image main c.self.inside.limit x r.1 g.at r.0 r.2)

pub returns-in-None-clause-next : goal.returns-in-None-clause-next
returns-in-None-clause-next c image main x h =
    let g = subst (λ p. IsProcess image main p x) (sym c.self.view_is) h in
    subst (λ (p : ProcessState). IsNext (nameless image main) p.limit x c.next_of.result) c.self.view_is
    (c.next_of.ensures.next image main x (standing image main (process_state c.self.inside.machine c.self.inside.number c.self.inside.module_number c.self.inside.first c.self.inside.birth c.self.inside.limit c.self.inside.clock c.self.inside.diary c.self.inside.ordered c.self.inside.is_dead) x c.in-None.is g))
