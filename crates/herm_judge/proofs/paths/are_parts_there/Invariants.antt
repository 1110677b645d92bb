use Rattle.std.proofs.Common.{◌≡◌, drop}
use Rattle.herm_naming.specs.UnknownNames.{are_parts_there}
use Rattle.herm_judge.specs.View.{kind}
use Rattle.herm_judge.proofs.paths.are_parts_there.Given as goal

-- The parts that are left are there exactly where all are.
abbrev pub invariant-parts : goal.invariant-parts
invariant-parts l = are_parts_there l.types.shapes (kind l.at) (drop l.part-index l.parts) ≡ are_parts_there l.types.shapes (kind l.initial.at) l.parts
