use Rattle.std.proofs.Common.{sym, subst}
use Rattle.herm_process.specs.Kept.{process_state}
use Rattle.herm_process.specs.Processes.{IsProcess}
use Rattle.herm_process.proofs.KeptOn.{inside-standing, remembered-sums}
use Rattle.herm_process.proofs.process.Process.sums.Goals as goal

pub returns-in-Some-clause-sums : goal.returns-in-Some-clause-sums
returns-in-Some-clause-sums c image main x h =
    let g = subst (λ p. IsProcess image main p x) (sym c.self.view_is) h in remembered-sums image main c.self.inside.limit x c.self.inside.ordered c.in-Some.sums c.in-Some.ensures.sums g.prepared

pub returns-in-None-clause-sums : goal.returns-in-None-clause-sums
returns-in-None-clause-sums c image main x h =
    let g = subst (λ p. IsProcess image main p x) (sym c.self.view_is) h in
    c.sums_of.ensures.sums image main x (inside-standing image main (process_state c.self.inside.machine c.self.inside.number c.self.inside.module_number c.self.inside.first c.self.inside.birth c.self.inside.limit c.self.inside.clock c.self.inside.diary c.self.inside.ordered c.self.inside.is_dead) x (sym c.in-None.ensures.sums) g)
