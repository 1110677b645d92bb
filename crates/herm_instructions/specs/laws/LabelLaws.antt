-- What is proved of the labels of code: what stands at each index, and that every way of good code leads to a label.
use Rattle.std.specs.Prelude.{ℕ, List, Some, slice_get, ◌≡◌}
use Rattle.herm_model.specs.Lists.{IsIn, any_pass, list_of}
use Rattle.herm_model.specs.Paths.{Fact, same_fact}
use Rattle.herm_model.specs.Types.{TypeTable}
use Rattle.herm_model.specs.Facts.{IsClosed}
use Rattle.herm_model.specs.Outcomes.{Outcome, raised}
use Rattle.herm_model.specs.FactsOfStatements.{closed}
use Rattle.herm_model.specs.Targets.{end}
use Rattle.herm_model.specs.ControlPaths.{held_after_edge}
use Rattle.herm_model.specs.Values.{Name, Parts}
use Rattle.herm_model.specs.FactsOfValues.{HasExactly}
use Rattle.herm_instructions.specs.Instructions.{Instruction}
use Rattle.herm_instructions.specs.Labels.{Label}
use Rattle.herm_instructions.specs.Images.{CodeModule, Image, landing_of}
use Rattle.herm_instructions.specs.Effects.{row_of, facts_behind, exceptions_of}
use Rattle.herm_instructions.specs.Places.{Way, Place, ways, label_at_start, label_at}
use Rattle.herm_instructions.specs.GoodCode.{Arrives, module_places, OfEachInstruction, OfEachLabelled, behind, IsGoodModule}

-- the place of an instruction by its index: its landings there, and the label there
pub record IsPlaceAt (image : Image) (m : CodeModule) (n : ℕ) (i : Instruction) (p : Place) : Type 0 where
  pub index : p.index ≡ n
  pub instruction : p.instruction ≡ i
  pub landings : p.landings ≡ list_of (λ ls. ls) (slice_get m.landings n)
  pub label : p.label ≡ label_at image.types image.constants m n

-- Each instruction of a module is at one of its places, and a place is that of the instruction at its index.
abbrev pub InstructionsHavePlaces : Type 0
InstructionsHavePlaces = (exceptions : ℕ) (image : Image) (m : CodeModule) (n : ℕ) (i : Instruction) → slice_get m.code n ≡ Some i → (p : Place) × IsIn p (module_places exceptions image m) × IsPlaceAt image m n i p

abbrev pub PlacesAreInstructions : Type 0
PlacesAreInstructions = (exceptions : ℕ) (image : Image) (m : CodeModule) (p : Place) → IsIn p (module_places exceptions image m) → (slice_get m.code p.index ≡ Some p.instruction) × IsPlaceAt image m p.index p.instruction p

-- In good code there is a label at the beginning, at which a process that begins arrives; and each way of an instruction with a
-- label leads to a label, at which what is behind it arrives.
abbrev pub BeginsAtLabel : Type 0
BeginsAtLabel = (exceptions : ℕ) (image : Image) (m : CodeModule) → IsGoodModule exceptions image m → (l : Label) × (label_at image.types image.constants m 0 ≡ Some l) × Arrives label_at_start l

abbrev pub WaysLeadToLabels : Type 0
WaysLeadToLabels = (exceptions : ℕ) (image : Image) (m : CodeModule) → IsGoodModule exceptions image m
    → OfEachLabelled exceptions image m (λ p l. (w : Way) → IsIn w (ways p) → (next : Label) × (label_at image.types image.constants m w.index ≡ Some next) × Arrives (behind exceptions image m p w l) next)

-- Each label of good code has a closed set of facts.
abbrev pub LabelsAreClosed : Type 0
LabelsAreClosed = (exceptions : ℕ) (image : Image) (m : CodeModule) → IsGoodModule exceptions image m → (n : ℕ) (l : Label) → label_at image.types image.constants m n ≡ Some l → IsClosed image.types m.variables (λ f. IsIn f l.facts)

-- Each exception that an instruction of good code can raise has a landing, which is one of its ways.
abbrev pub ExceptionsLand : Type 0
ExceptionsLand = (exceptions : ℕ) (image : Image) (m : CodeModule) → IsGoodModule exceptions image m
    → OfEachInstruction exceptions image m (λ p. (e : ℕ) → IsIn e (exceptions_of image.types m.variables p.instruction) → (w : Way) × IsIn w (ways p) × (w.outcome ≡ raised e) × (landing_of m p.index e ≡ Some w.index))

-- What is held behind an outcome of an instruction, by the lists of facts of labels, is what its row of the statement table says.
abbrev pub FactsAreHeldBehind : Type 0
FactsAreHeldBehind = (table : TypeTable) (variables : List ℕ) (i : Instruction) (o : Outcome) (facts : List Fact) (f : Fact)
    → any_pass (same_fact f) (facts_behind table variables i o facts)
    ≡ held_after_edge (record { outcome = o; makes = closed table variables ((row_of table variables i).made o); kills = (row_of table variables i).gone o; target = end }) f (any_pass (same_fact f) facts)

-- Values that have exactly the facts of a label have exactly those of a label at which it arrives.
abbrev pub ValuesFitWhereTheyArrive : Type 0
ValuesFitWhereTheyArrive = (ps : Parts Name) (arriving listed : Label) → Arrives arriving listed → HasExactly ps (λ f. IsIn f arriving.facts) → HasExactly ps (λ f. IsIn f listed.facts)
