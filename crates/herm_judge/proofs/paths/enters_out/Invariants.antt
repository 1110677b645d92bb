use Rattle.std.proofs.Common.{◌≡◌, drop, false}
use Rattle.herm_model.specs.TypedExpressions.{enters_out}
use Rattle.herm_judge.specs.View.{kind}
use Rattle.herm_judge.proofs.paths.enters_out.Given as goal

-- The steps that are left enter an `out` parameter behind a component exactly where all do.
abbrev pub invariant-parts : goal.invariant-parts
invariant-parts l = enters_out l.types.shapes l.behind (kind l.at) (drop l.part-index l.parts) ≡ enters_out l.types.shapes false (kind l.initial.at) l.parts
