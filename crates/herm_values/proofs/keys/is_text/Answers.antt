use Rattle.std.proofs.Common.{◌∙◌, sym, ap}
use Rattle.std.specs.Ordering.{is_eq}
use Rattle.herm_model.specs.Values as model
use Rattle.herm_model.specs.Tables.{same_scalar}
use Rattle.herm_values.specs.View.{scalar_view}
use Rattle.herm_values.proofs.SameKeys.{texts_same}
use Rattle.herm_values.proofs.keys.is_text.Goals as goal

pub returns-in-Text : goal.returns-in-Text
returns-in-Text c =
    c.is_eq.ensures ∙ ap is_eq c.cmp.ensures
    ∙ texts_same c.in-Text.word c.args.text.now
    ∙ ap (λ s. same_scalar (scalar_view s) (model.a_text c.args.text.now)) (sym c.in-Text.is)
