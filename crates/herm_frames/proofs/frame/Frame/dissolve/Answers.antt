use Rattle.std.proofs.Common.{refl, sym, ap, subst, ◌∙◌}
use Rattle.std.specs.Prelude.{⊤}
use Rattle.herm_forms.specs.Forms.{Opened, component_in, moving_content}
use Rattle.herm_forms.specs.Frames.{Completion, if_there, cleared}
use Rattle.herm_types.specs.View.{path_view}
use Rattle.herm_frames.specs.Completed.{Completes, outcome_view}
use Rattle.herm_frames.proofs.frame.Frame.dissolve.Goals as goal

pub returns-clause-effect : goal.returns-clause-effect
returns-clause-effect c code stack s h =
    let b = cleared (path_view c.args.source.now) s in
    let move : Opened ⊤ → Completion ⊤ = λ o. moving_content (path_view c.args.target.now) o b in (
      refl,
      subst (λ e. Completes (outcome_view c.in_ok-r.r) c.move_content.new.self e)
          (sym (ap (if_there (λ cell. if_there move (component_in c.args.component cell))) (sym (c.in-Some.ensures.taken s h)) ∙ ap (if_there move) (sym c.in-Some-component_in.ensures.content)))
          (c.in_ok-r.ensures.moving b (c.take_out.ensures.stands s h)),
    )
