use Rattle.std.proofs.Common.{◌≡◌, map, take}
use Rattle.std.specs.List.{list_any}
use Rattle.herm_syntax.specs.View.{param_form_view}
use Rattle.herm_defs.specs.Plain.{not_returned}
use Rattle.herm_defs.proofs.keeps.any_not_returned.Given as goal

abbrev pub invariant-loop-keep : goal.invariant-loop-keep
invariant-loop-keep l = l.any ≡ list_any (λ k. not_returned (map param_form_view l.params) k.text) (take l.keep-index l.keeps)
