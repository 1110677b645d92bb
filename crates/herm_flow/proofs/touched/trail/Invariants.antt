use Rattle.std.proofs.Common.{◌≡◌, ℕ, ◌∷◌, take}
use Rattle.herm_flow.specs.Touched.{AreOwn, Stay, IsTrail, number_by}
use Rattle.herm_flow.proofs.Trails.{end_of}
use Rattle.herm_flow.proofs.touched.trail.Given as goal

-- The numbers so far are those of the steps so far, and the last leads on.
abbrev pub invariant-parts : goal.invariant-parts
invariant-parts l = record {
  own : AreOwn l.paths.numbers l.paths.last;
  stay : Stay l.fn.paths.numbers l.paths.numbers;
  trail : IsTrail (l.path.var.0 ∷ take l.step-index l.parts) (number_by l.paths.numbers) 0 l.found.items;
  end : end_of l.found.items 0 ≡ l.before;
}
