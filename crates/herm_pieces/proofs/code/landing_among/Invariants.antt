use Rattle.std.proofs.Common.{◌≡◌, map, drop, nat_eq}
use Rattle.std.specs.Prelude.{find}
use Rattle.herm_instructions.specs.Images.{Landing}
use Rattle.herm_pieces.specs.View.{landing_view}
use Rattle.herm_pieces.proofs.code.landing_among.Given as goal

abbrev pub invariant-landings : goal.invariant-landings
invariant-landings l = find (λ (m : Landing). nat_eq m.exception l.e.0) (map landing_view (drop l.raised-index l.landings)) ≡ find (λ (m : Landing). nat_eq m.exception l.e.0) (map landing_view l.landings)
