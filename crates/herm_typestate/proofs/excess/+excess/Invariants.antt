use Rattle.std.proofs.Common.{◌≡◌, map}
use Rattle.herm_types.specs.View.{path_view}
use Rattle.herm_typestate.specs.Small.{AreSmall}
use Rattle.herm_typestate.specs.Topmost.{AddTopmost, is_left}
use Rattle.herm_typestate.proofs.Topmost.{up_to}
use Rattle.herm_typestate.proofs.excess.+excess.Given as goal

abbrev pub invariant-excess-loop-i : goal.invariant-excess-loop-i
invariant-excess-loop-i l = record {
  at : l.at.items ≡ l.initial.at.items;
  out : AreSmall l.trees → AddTopmost (up_to l.i (is_left l.trees l.low)) l.initial.at.items (map path_view l.initial.out.items) (map path_view l.out.items);
}
