-- How many places there are.
use Rattle.std.proofs.Common.{◌≡◌, suc, List, [], ◌∷◌, length, Option, Some, None, refl, ap}
use Rattle.herm_model.specs.Values.{Cell, size}
use Rattle.herm_values.specs.Parts.{parts_from}

pub size-is : {N : Type 0} (os : List (Option (Cell N))) → size (parts_from os) ≡ length os
size-is [] = refl
size-is (None ∷ os) = ap suc (size-is os)
size-is (Some c ∷ os) = ap suc (size-is os)

pub ruleset sizes = (size-is)
