use Rattle.std.proofs.Common.{◌≡◌, map, take}
use Rattle.herm_syntax.specs.View.{param_form_view}
use Rattle.herm_meaning.specs.Meaning.{parameter_meant}
use Rattle.herm_types.specs.View.{param_view}
use Rattle.herm_defs.proofs.outline.params_of.Given as goal

abbrev pub invariant-loop-param : goal.invariant-loop-param
invariant-loop-param l = record {
  types : map param_view l.numbered.items ≡ map (parameter_meant l.types) (map param_form_view (take l.param-index l.params));
  names : map (λ p. p.name) l.numbered.items ≡ map (λ p. p.1.0) (map param_form_view (take l.param-index l.params));
}
