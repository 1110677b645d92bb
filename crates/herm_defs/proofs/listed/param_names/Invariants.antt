use Rattle.std.proofs.Common.{◌≡◌, map, take}
use Rattle.herm_syntax.specs.View.{param_form_view}
use Rattle.herm_defs.proofs.listed.param_names.Given as goal

abbrev pub invariant-loop-param : goal.invariant-loop-param
invariant-loop-param l = l.words.items ≡ map (λ p. p.1.0) (map param_form_view (take l.param-index l.params))
