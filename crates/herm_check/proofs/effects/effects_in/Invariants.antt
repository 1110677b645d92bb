use Rattle.std.proofs.Common.{◌≡◌, ℕ, length, Some, slice_get}
use Rattle.std.specs.declared.vec.Vec.{Vec}
use Rattle.std.specs.declared.alloc.Global.{Global}
use Rattle.herm_flow.specs.declared.onward.OnwardPoint.{OnwardPoint}
use Rattle.herm_check.specs.declared.effects.Effect.{Effect}
use Rattle.herm_check.specs.declared.lists.ListsOf.{ListsOf}
use Rattle.herm_check.specs.Effects.{AreEffectsBy}
use Rattle.herm_check.proofs.effects.effects_in.Given as goal

abbrev pub invariant-loop-i : goal.invariant-loop-i
invariant-loop-i l = record {
  many : length l.effects.items ≡ l.i;
  each : (i : ℕ) (p : OnwardPoint) (k : ListsOf) (row : Vec Effect Global) → slice_get l.flow.points.items i ≡ Some p → slice_get l.lists i ≡ Some k → slice_get l.effects.items i ≡ Some row → AreEffectsBy k l.search p.edges.items row.items;
}
