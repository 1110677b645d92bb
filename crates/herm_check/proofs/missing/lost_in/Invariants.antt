use Rattle.std.proofs.Common.{◌≡◌, ◌<◌, ℕ, Some, false, slice_get}
use Rattle.herm_model.specs.Lists.{IsIn}
use Rattle.herm_model.specs.Paths.{Fact}
use Rattle.herm_model.specs.ControlPaths.{Point}
use Rattle.herm_typestate.specs.declared.state.State.{State}
use Rattle.herm_typestate.specs.Facts.{has_fact}
use Rattle.herm_flow.specs.OnwardView.{onward_flow_view}
use Rattle.herm_facts.specs.FactNumbers.{number_of}
use Rattle.herm_check.specs.Missing.{IsNoted}
use Rattle.herm_check.proofs.missing.lost_in.Given as goal

abbrev pub invariant-loop-i : goal.invariant-loop-i
invariant-loop-i l = record {
  noted : (i : ℕ) (p : Point) (s : State) (f : Fact) → i < l.i → slice_get (onward_flow_view l.flow).points i ≡ Some p → slice_get l.labels.at.items i ≡ Some s → IsIn f p.needs → has_fact s f ≡ false → IsNoted l.lost f;
  some : (f : Fact) (n : ℕ) → number_of l.lost f ≡ Some n → 0 < l.i;
}
