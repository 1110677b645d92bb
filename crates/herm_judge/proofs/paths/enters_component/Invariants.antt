use Rattle.std.proofs.Common.{◌≡◌, drop}
use Rattle.herm_model.specs.Types.{enters_component}
use Rattle.herm_judge.specs.View.{kind}
use Rattle.herm_judge.proofs.paths.enters_component.Given as goal

-- The steps that are left enter a component exactly where all do.
abbrev pub invariant-parts : goal.invariant-parts
invariant-parts l = enters_component l.types.shapes (kind l.at) (drop l.part-index l.parts) ≡ enters_component l.types.shapes (kind l.initial.at) l.parts
