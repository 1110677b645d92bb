use Rattle.std.proofs.Common.{◌≡◌, ◌≤◌, ◌<◌, ◌+◌, ℕ, cond, false}
use Rattle.herm_types.specs.Chosen.{lists}
use Rattle.herm_graph.specs.Graph.{AreReached, IsDoneAt, missing}
use Rattle.herm_graph.proofs.graph.pass.Given as goal

abbrev pub invariant-loop-place : goal.invariant-loop-place
invariant-loop-place l = record {
  reached : AreReached l.rule l.goal (lists l.next) l.fn.found → AreReached l.rule l.goal (lists l.next) l.found;
  count : missing l.found + cond l.changed 1 0 ≤ missing l.fn.found;
  done : l.changed ≡ false → (t : ℕ) → t < l.place → IsDoneAt l.rule l.goal (lists l.next) l.found t;
}
