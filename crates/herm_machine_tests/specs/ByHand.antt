-- An image by hand: b := x; if b and y { b := x; }
use Rattle.std.specs.Prelude.{Bool, [], ◌∷◌}
use Rattle.herm_model.specs.Paths.{init}
use Rattle.herm_model.specs.Types.{predefined}
use Rattle.herm_model.specs.Expressions.{Literal, logical_and}
use Rattle.herm_instructions.specs.Instructions.{Step, Const, Load, Combine, Store, JumpFalse, End}
use Rattle.herm_instructions.specs.Labels.{Label}
use Rattle.herm_instructions.specs.Images.{CodeModule, Image}

-- what is there behind the `if`
abbrev pub behind_label : Label
behind_label = record { stack = []; facts = init (0 ∷ []) ∷ init (1 ∷ []) ∷ []; slots = [] }

abbrev pub hand_module : CodeModule
hand_module = record {
  variables = 7 ∷ 0 ∷ [];
  code = Step ∷ Const 0 ∷ Store (1 ∷ []) ∷ Step ∷ Load (1 ∷ []) ∷ Const 1 ∷ Combine logical_and ∷ JumpFalse 11 ∷ Step ∷ Const 0 ∷ Store (1 ∷ []) ∷ End ∷ [];
  landings = [] ∷ [] ∷ [] ∷ [] ∷ [] ∷ [] ∷ [] ∷ [] ∷ [] ∷ [] ∷ [] ∷ [] ∷ [];
  labels = record { index = 11; label = behind_label } ∷ [];
}

abbrev pub hand_image : (x y : Bool) → Image
hand_image x y = record { modules = hand_module ∷ []; constants = Literal.boolean x ∷ Literal.boolean y ∷ []; types = predefined }
