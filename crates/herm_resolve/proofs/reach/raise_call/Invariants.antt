use Rattle.std.proofs.Common.{◌≡◌, map, drop}
use Rattle.herm_types.specs.View.{raise_decl_view}
use Rattle.herm_resolve.specs.ControlInOnePass.{raise_all}
use Rattle.herm_resolve.proofs.reach.raise_call.Given as goal

abbrev pub invariant-raises : goal.invariant-raises
invariant-raises l = raise_all l.raised.items (map (λ r. r.exception) (map raise_decl_view (drop l.r-index l.raises))) ≡ raise_all l.initial.raised.items (map (λ r. r.exception) (map raise_decl_view l.raises))
