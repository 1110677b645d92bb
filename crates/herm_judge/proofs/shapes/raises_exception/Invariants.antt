use Rattle.std.proofs.Common.{◌≡◌, map, drop, nat_eq}
use Rattle.herm_model.specs.Lists.{any_pass}
use Rattle.herm_model.specs.Types.{Raised}
use Rattle.herm_types.specs.View.{raise_decl_view}
use Rattle.herm_judge.proofs.shapes.raises_exception.Given as goal

-- Some is raised exactly where one of those that are left is.
abbrev pub invariant-raises : goal.invariant-raises
invariant-raises l = any_pass (λ (r : Raised). nat_eq l.e.0 r.exception) (map raise_decl_view (drop l.r-index l.raises)) ≡ any_pass (λ (r : Raised). nat_eq l.e.0 r.exception) (map raise_decl_view l.raises)
