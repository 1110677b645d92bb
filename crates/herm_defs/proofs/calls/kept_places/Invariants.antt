use Rattle.std.proofs.Common.{◌≡◌, ◌++◌, map, drop}
use Rattle.herm_syntax.specs.View.{name_view, param_form_view}
use Rattle.herm_meaning.specs.Meaning.{kept_places}
use Rattle.herm_defs.proofs.calls.kept_places.Given as goal

abbrev pub invariant-loop-place : goal.invariant-loop-place
invariant-loop-place l = l.kept.items ++ kept_places l.place (map (λ p. p.1.0) (map param_form_view (drop l.place l.params))) (map name_view l.keeps) ≡ kept_places 0 (map (λ p. p.1.0) (map param_form_view l.params)) (map name_view l.keeps)
