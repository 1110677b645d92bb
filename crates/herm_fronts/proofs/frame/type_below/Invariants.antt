use Rattle.std.proofs.Common.{◌≡◌, drop}
use Rattle.herm_model.specs.Types.{type_below}
use Rattle.herm_fronts.specs.Frames.{kind}
use Rattle.herm_fronts.proofs.frame.type_below.Given as goal

-- The steps that are left lead where all lead.
abbrev pub invariant-parts : goal.invariant-parts
invariant-parts l = type_below l.types.shapes (kind l.at) (drop l.part-index l.parts) ≡ type_below l.types.shapes (kind l.initial.at) l.parts
