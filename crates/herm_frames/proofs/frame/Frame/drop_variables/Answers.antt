use Rattle.std.proofs.Common.{◌∷◌, [], sym, ap, subst, ◌∙◌}
use Rattle.herm_forms.specs.Frames.{drop, drop_at}
use Rattle.herm_frames.specs.Standing.{Stands}
use Rattle.herm_frames.proofs.Ended.{next_variable}
use Rattle.herm_frames.proofs.frame.Frame.drop_variables.Goals as goal

pub variables-preserved : goal.variables-preserved
variables-preserved c s h =
    let inv = c.variables.invariant s h in
    let p = c.variables.i ∷ [] in
    (drop_at p inv.0, subst (λ p. Stands c.drop_at.new.self (drop_at p inv.0)) c.variable-path.ensures (c.in_ok-drop_at.ensures.stands inv.0 inv.1), sym (ap (λ ps. drop ps inv.0) (next_variable c.variables.i c.args.n c.variables-test.true)) ∙ inv.2)
