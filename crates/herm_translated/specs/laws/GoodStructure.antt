-- What is claimed of laid out code by the rules of good code that look at no facts.
use Rattle.std.specs.Prelude.{ℕ, suc, ◌<◌, List, [], ◌∷◌, map, length, true, false, Some, slice_get, ◌≡◌, ◌↔◌}
use Rattle.herm_model.specs.Lists.{IsIn}
use Rattle.herm_model.specs.Paths.{Path}
use Rattle.herm_model.specs.Types.{TypeTable}
use Rattle.herm_model.specs.Statements.{For, Differ}
use Rattle.herm_model.specs.Outcomes.{ok, outcomes}
use Rattle.herm_model.specs.laws.FlowLaws.{Rise}
use Rattle.herm_instructions.specs.Images.{Landing, CodeModule, Image}
use Rattle.herm_instructions.specs.Effects.{exceptions_of}
use Rattle.herm_instructions.specs.Places.{targets}
use Rattle.herm_instructions.specs.GoodCode.{HasLandings, KeepsAsDeclared, listed_indices, module_places, OfEachInstruction, GoesBackToStep}
use Rattle.herm_translated.specs.laws.NamedComponents.{NamesAll}
use Rattle.herm_translated.specs.Departures.{Departure, to_block, to_second_step}
use Rattle.herm_translated.specs.CodeBlocks.{CodeBlock}
use Rattle.herm_translated.specs.laws.LayoutLaws.{module_of}
use Rattle.herm_translated.specs.laws.LabelsAtEdges.{AreReached}

-- Edges lead to blocks that are there: those of blocks also to the second steps of a `for`, and the edge to where the process
-- begins to none of these; where control goes on to the next block there is one; and a `case` names its components.
pub record AreLinked (types : TypeTable) (variables : List ℕ) (entry : Departure) (blocks : List CodeBlock) : Type 0 where
  pub begins : (n : ℕ) → entry.arrival ≡ to_block n → (c : CodeBlock) × (slice_get blocks n ≡ Some c)
  pub begins_first : (n : ℕ) → entry.arrival ≡ to_second_step n → ⊥
  pub there : (b : CodeBlock) (d : Departure) (n : ℕ) → IsIn b blocks → IsIn d b.departures → d.arrival ≡ to_block n → (c : CodeBlock) × (slice_get blocks n ≡ Some c)
  pub again : (b : CodeBlock) (d : Departure) (n : ℕ) → IsIn b blocks → IsIn d b.departures → d.arrival ≡ to_second_step n → (c : CodeBlock) × (r t : Path) × (slice_get blocks n ≡ Some c) × (c.form ≡ For r t)
  pub onward : (i : ℕ) (b : CodeBlock) → slice_get blocks i ≡ Some b → b.onward ≡ true → (c : CodeBlock) × (slice_get blocks (suc i) ≡ Some c)
  pub names : (b : CodeBlock) → IsIn b blocks → NamesAll types variables b.form

-- Each block has an edge for each outcome of its form, or goes on by its only one, and is led to from a block or from the beginning.
pub record AreComplete (types : TypeTable) (variables : List ℕ) (entry : Departure) (blocks : List CodeBlock) : Type 0 where
  pub linked : AreLinked types variables entry blocks
  pub outcomes_in_order : (b : CodeBlock) → IsIn b blocks → b.onward ≡ false → map (λ (d : Departure). d.outcome) b.departures ≡ outcomes types variables b.form
  pub goes_on : (b : CodeBlock) → IsIn b blocks → b.onward ≡ true → (b.departures ≡ []) × (outcomes types variables b.form ≡ ok ∷ [])
  pub outcomes_differ : (b : CodeBlock) → IsIn b blocks → Differ (map (λ (d : Departure). d.outcome) b.departures)
  pub reached : AreReached types variables entry blocks

module _ (exceptions : ℕ) (image : Image) (variables : List ℕ) (entry : Departure) (blocks : List CodeBlock) where
  abbrev pub code_module : CodeModule
  code_module = module_of image.types variables image.constants entry blocks

  -- There is an instruction, and landings for each; labels rise; control goes back only to steps; calls and returns keep what is declared; and each exception has one
  -- landing. Code reference, "Good code".
  pub record HasGoodStructure : Type 0 where
    pub code : 0 < length code_module.code
    pub landings_listed : length code_module.landings ≡ length code_module.code
    pub labels_rise : Rise (listed_indices code_module)
    pub goes_back : OfEachInstruction exceptions image code_module (GoesBackToStep exceptions image code_module)
    pub keeps : OfEachInstruction exceptions image code_module (λ p. KeepsAsDeclared image.types variables p.instruction)
    pub landings : OfEachInstruction exceptions image code_module (λ p. HasLandings (exceptions_of image.types variables p.instruction) (map (λ (l : Landing). l.exception) p.landings))

abbrev pub LinkedBlocksAreStructured : Type 0
LinkedBlocksAreStructured = (exceptions : ℕ) (image : Image) (variables : List ℕ) (entry : Departure) (blocks : List CodeBlock) → AreLinked image.types variables entry blocks → HasGoodStructure exceptions image variables entry blocks

-- Labels are listed for exactly the indices that jumps and landings name. Code reference, "Good code".
abbrev pub CompleteBlocksAreListed : Type 0
CompleteBlocksAreListed = (exceptions : ℕ) (image : Image) (variables : List ℕ) (entry : Departure) (blocks : List CodeBlock) → AreComplete image.types variables entry blocks
    → (n : ℕ) → IsIn n (listed_indices (code_module exceptions image variables entry blocks)) ↔ IsIn n (targets (module_places exceptions image (code_module exceptions image variables entry blocks)))
