use Rattle.std.proofs.Common.{◌≡◌, Option, Some, None, refl, sym, ap, subst, ◌∙◌}
use Rattle.std.specs.Prelude.{⊤}
use Rattle.herm_forms.specs.Forms.{Opened, content_of, moving_content}
use Rattle.herm_forms.specs.Frames.{Completion, goes, if_there, cleared}
use Rattle.herm_model.specs.Outcomes.{raised, polymorph_mismatch}
use Rattle.herm_types.specs.View.{path_view}
use Rattle.herm_frames.specs.Completed.{Completes, outcome_view}
use Rattle.herm_frames.proofs.frame.Frame.unwrap.Goals as goal

pub returns-clause-effect : goal.returns-clause-effect
returns-clause-effect c code stack s h =
    let b = cleared (path_view c.args.source.now) s in
    let on : Option (Opened ⊤) → Completion ⊤ = λ o. elim o [ None ↦ goes (raised polymorph_mismatch) s | Some o ↦ moving_content (path_view c.args.target.now) o b ] in (
      refl,
      subst (λ e. Completes (outcome_view c.in_ok-r.r) c.move_content.new.self e)
          (sym (ap (if_there (λ cell. on (content_of c.args.t.0 cell))) (sym (c.in-Some-take_out.ensures.taken s h)) ∙ ap on (sym c.in-Some-content_of.ensures.content)))
          (c.in_ok-r.ensures.moving b (c.take_out.ensures.stands s h)),
    )
