use Rattle.std.proofs.Common.{◌≡◌, map, drop}
use Rattle.herm_model.specs.Lists.{any_pass}
use Rattle.herm_model.specs.Paths.{is_at_or_below, path_of}
use Rattle.herm_types.specs.View.{path_view, fact_view}
use Rattle.herm_codegen.proofs.labels.is_gone.Given as goal

abbrev pub invariant-gone : goal.invariant-gone
invariant-gone l = any_pass (λ p. is_at_or_below p (path_of (fact_view l.fact))) (map path_view (drop l.path-index l.gone)) ≡ any_pass (λ p. is_at_or_below p (path_of (fact_view l.fact))) (map path_view l.gone)
