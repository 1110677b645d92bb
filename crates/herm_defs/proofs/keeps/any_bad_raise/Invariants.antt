use Rattle.std.proofs.Common.{◌≡◌, map, take}
use Rattle.std.specs.List.{list_any}
use Rattle.herm_syntax.specs.View.{param_form_view, raise_form_view}
use Rattle.herm_defs.specs.Plain.{keeps_badly}
use Rattle.herm_defs.proofs.keeps.any_bad_raise.Given as goal

abbrev pub invariant-loop-raise : goal.invariant-loop-raise
invariant-loop-raise l = l.any ≡ list_any (λ r. keeps_badly l.context.exceptions (map param_form_view l.params) (raise_form_view r)) (take l.raise-index l.raises)
