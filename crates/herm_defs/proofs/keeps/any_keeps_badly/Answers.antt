use Rattle.std.proofs.Common.{◌∙◌, sym, subst, map}
use Rattle.herm_model.specs.Lists.{IsIn}
use Rattle.herm_syntax.specs.Trees.{Raising}
use Rattle.herm_syntax.specs.View.{param_form_view, raise_form_view}
use Rattle.herm_meaning.specs.DefinitionFaults.{KeepsBadly}
use Rattle.herm_graph.specs.Tells.{Tells}
use Rattle.herm_defs.specs.Plain.{keeps_badly}
use Rattle.herm_defs.proofs.KeepLaws.{any-of-map, keeps-told}
use Rattle.herm_defs.proofs.keeps.any_keeps_badly.Goals as goal

pub returns : goal.returns
returns c =
    let params = map param_form_view c.args.params.now in
    let raises = map raise_form_view c.args.raises.now in
    subst (λ b. Tells b ((r : Raising) × IsIn r raises × KeepsBadly c.args.context.now params r))
    (sym (c.in_ok-any.ensures ∙ any-of-map (keeps_badly c.args.context.now.exceptions params) raise_form_view c.args.raises.now))
    (keeps-told c.args.context.now params raises)
