use Rattle.std.proofs.Common.{◌≡◌, ℕ, false, sym, subst}
use Rattle.std.specs.Prelude.{⊤}
use Rattle.herm_instructions.specs.Images.{Image}
use Rattle.herm_code_machine.specs.CodeStates.{CodeState}
use Rattle.herm_exchanges.specs.Told.{want_view}
use Rattle.std.proofs.Common.{option_map}
use Rattle.herm_machine.specs.Machines.{IsTakeWanted, nameless}
use Rattle.herm_process.specs.Processes.{ProcessState, IsProcess}
use Rattle.herm_process.proofs.KeptOn.{take-same}
use Rattle.herm_process.proofs.process.Process.look.Goals as goal

pub look-requires-clause-take : goal.look-requires-clause-take
look-requires-clause-take c image main s at =
    let alive = subst (λ (p : ProcessState). p.is_dead ≡ false) (sym c.self.view_is) c.requires.alive in
    let each = subst (λ p. (image : Image) (main : ℕ) (x : CodeState ⊤) → IsProcess image main p x → IsTakeWanted c.args.place ((nameless image main).wanted x)) (sym c.self.view_is) c.requires.take in
    let r = c.self.invariant.kept.stands alive in
    take-same ((nameless r.0 r.1).wanted r.2) ((nameless image main).wanted s) c.args.place (option_map want_view c.wants-want.result) (c.wants-want.ensures.wanted r.0 r.1 r.2 (r.3).at) (c.wants-want.ensures.wanted image main s at)
    (each r.0 r.1 r.2 r.3)

pub returns : goal.returns
returns c = record { port = λ image main x ports h wanted. c.look.ensures.port image main x ports (subst (λ p. IsProcess image main p x) (sym c.self.view_is) h).at wanted }
