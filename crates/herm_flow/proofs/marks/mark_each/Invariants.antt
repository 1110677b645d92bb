use Rattle.std.proofs.Common.{◌≡◌, ◌||◌, ℕ, length, drop}
use Rattle.herm_flow.specs.Listed.{is_marked, is_named}
use Rattle.herm_flow.proofs.marks.mark_each.Given as goal

abbrev pub invariant-edges : goal.invariant-edges
invariant-edges l = (length l.marks.items ≡ length l.fn.marks.items) × ((i : ℕ) → (is_marked l.marks.items i || is_named (drop l.edge-index l.edges) i) ≡ (is_marked l.fn.marks.items i || is_named l.edges i))
