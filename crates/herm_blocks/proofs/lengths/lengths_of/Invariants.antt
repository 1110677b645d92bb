use Rattle.std.proofs.Common.{◌≡◌, ◌&&◌, ◌||◌, ℕ, map, nat_eq, drop}
use Rattle.herm_model.specs.Lists.{any_pass}
use Rattle.herm_forms.specs.LeavingLoops.{is_in_loop}
use Rattle.herm_fronts.specs.Walked.{span_view}
use Rattle.herm_blocks.specs.Scopes.{is_within}
use Rattle.herm_blocks.proofs.lengths.lengths_of.Given as goal

abbrev pub invariant-loops : goal.invariant-loops
invariant-loops l = (k n : ℕ) → (is_within l.found.items k n || any_pass (λ s. nat_eq s.first n && is_in_loop k s) (map span_view (drop l.of-index l.loops))) ≡ any_pass (λ s. nat_eq s.first n && is_in_loop k s) (map span_view l.loops)
