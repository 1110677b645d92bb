use Rattle.std.proofs.Common.{◌≡◌, drop}
use Rattle.herm_model.specs.Types.{type_below}
use Rattle.herm_frames.specs.Scopes.{number_of}
use Rattle.herm_machine.proofs.types.type_below.Given as goal

-- The steps that are left lead where all lead.
abbrev pub invariant-parts : goal.invariant-parts
invariant-parts l = type_below l.types.shapes (number_of l.at) (drop l.part-index l.parts) ≡ type_below l.types.shapes (number_of l.initial.at) l.parts
