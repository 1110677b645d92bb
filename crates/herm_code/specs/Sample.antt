-- An image by hand: receive m from start; s := "hi"; send s to m.out;
use Rattle.std.specs.Prelude.{[], ◌∷◌}
use Rattle.herm_model.specs.Paths.{init}
use Rattle.herm_model.specs.Types.{predefined}
use Rattle.herm_model.specs.Expressions.{Literal}
use Rattle.herm_model.specs.Outcomes.{disconnected}
use Rattle.herm_instructions.specs.Instructions.{Step, Const, Store, Receive, Send, End, EndBy}
use Rattle.herm_instructions.specs.Labels.{Label}
use Rattle.herm_instructions.specs.Images.{CodeModule, Image}

-- what is there where the send finds its port closed
abbrev pub sample_label : Label
sample_label = record {
  stack = [];
  facts = init (0 ∷ []) ∷ init (1 ∷ []) ∷ init (1 ∷ 0 ∷ []) ∷ init (1 ∷ 1 ∷ []) ∷ init (2 ∷ []) ∷ [];
  slots = [];
}

abbrev pub sample_module : CodeModule
sample_module = record {
  variables = 7 ∷ 6 ∷ 2 ∷ [];
  code = Step ∷ Receive (1 ∷ []) (0 ∷ []) ∷ Step ∷ Const 0 ∷ Store (2 ∷ []) ∷ Step ∷ Send (2 ∷ []) (1 ∷ 1 ∷ []) [] ∷ End ∷ EndBy disconnected ∷ [];
  landings = [] ∷ [] ∷ [] ∷ [] ∷ [] ∷ [] ∷ (record { exception = disconnected; index = 8 } ∷ []) ∷ [] ∷ [] ∷ [];
  labels = record { index = 8; label = sample_label } ∷ [];
}

abbrev pub sample_image : Image
sample_image = record { modules = sample_module ∷ []; constants = Literal.text (104 ∷ 105 ∷ []) ∷ []; types = predefined }
