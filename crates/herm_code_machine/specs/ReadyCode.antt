-- An image made ready to run.
use Rattle.std.specs.Prelude.{ℕ, List, [], map, false, Option}
use Rattle.herm_model.specs.Types.{TypeTable}
use Rattle.herm_model.specs.Expressions.{Literal}
use Rattle.herm_model.specs.Targets.{end}
use Rattle.herm_forms.specs.Modules.{Module}
use Rattle.herm_instructions.specs.Labels.{Label}
use Rattle.herm_instructions.specs.Images.{CodeModule, Image}
use Rattle.herm_instructions.specs.Places.{label_at}

-- types and variables alone, for the functions of forms that look at no text
abbrev pub scope_of : TypeTable → List ℕ → Module
scope_of types variables = record { types = types; variables = variables; entry = end; nodes = []; loops = []; label = λ i f. false }

-- A code module made ready: its types and variables, the constants, its code, and the label of each index.
-- Code reference, "Processes".
pub record ReadyCode : Type 0 where
  pub scope : Module
  pub constants : List Literal
  pub code : CodeModule
  pub label : (index : ℕ) → Option Label

-- an image made ready, with the number of main
pub record ReadyImage : Type 0 where
  pub types : TypeTable
  pub codes : List ReadyCode
  pub main : ℕ

abbrev pub ready_code : Image → (CodeModule → ℕ → Option Label) → CodeModule → ReadyCode
ready_code image labels m = record { scope = scope_of image.types m.variables; constants = image.constants; code = m; label = labels m }

abbrev pub ready_image : Image → (main : ℕ) → (labels : CodeModule → ℕ → Option Label) → ReadyImage
ready_image image main labels = record { types = image.types; codes = map (ready_code image labels) image.modules; main = main }

-- an image made ready with the labels of good code; Code reference, "Labels going forward"
abbrev pub labelled_image : Image → (main : ℕ) → ReadyImage
labelled_image image main = ready_image image main (label_at image.types image.constants)
