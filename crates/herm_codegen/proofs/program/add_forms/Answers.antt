use Rattle.std.proofs.Common.{map, flat_map, drop, sym, ap, ◌+◌, ◌∙◌}
use Rattle.herm_translated.specs.Constants.{literals_in}
use Rattle.herm_fronts.specs.Forms.{form_seen}
use Rattle.herm_fronts.specs.Shared.{shared}
use Rattle.herm_fronts.specs.View.{key_view}
use Rattle.herm_codegen.proofs.Literals.{form_more}
use Rattle.herm_codegen.proofs.Steps.{left_more}
use Rattle.herm_codegen.proofs.program.add_forms.Goals as goal

pub forms-preserved : goal.forms-preserved
forms-preserved c =
    let left = ap (map form_seen) (left_more c.args.forms.now (λ f. f.now) c.forms.form-index c.form-item.result c.forms-test.true c.form-item.is) in
    form_more (map key_view c.forms.keys.keys) (map key_view c.add_form.new.keys.keys) (form_seen c.form-item.result.now) (map form_seen (map (λ f. f.now) (drop (c.forms.form-index + 1) c.args.forms.now))) c.in_ok-add_form.ensures
    ∙ (ap (λ fs. shared (map key_view c.forms.keys.keys) (flat_map literals_in fs)) (sym left) ∙ c.forms.invariant)
