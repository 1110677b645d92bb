-- What is claimed of the labels that are handed on within a front, and along an edge.
use Rattle.std.specs.Prelude.{ℕ, List, [], ◌∷◌, ◌++◌, filter, false, not, Option, Some, option_and_then, option_map, ◌≡◌}
use Rattle.herm_model.specs.Lists.{IsIn, any_pass}
use Rattle.herm_model.specs.Paths.{Path, Fact, path_of, is_at_or_below}
use Rattle.herm_model.specs.Types.{TypeTable}
use Rattle.herm_model.specs.Expressions.{Literal, Expression}
use Rattle.herm_model.specs.Statements.{Form, For, Process}
use Rattle.herm_model.specs.Outcomes.{Outcome, outcomes}
use Rattle.herm_model.specs.TypedExpressions.{IsTyped}
use Rattle.herm_model.specs.TypedStatements.{IsTypedForm}
use Rattle.herm_model.specs.WellFormedTables.{IsWellFormedTable}
use Rattle.herm_instructions.specs.Instructions.{Instruction}
use Rattle.herm_instructions.specs.Labels.{Slot, Label}
use Rattle.herm_instructions.specs.Effects.{label_behind, without_slot}
use Rattle.herm_instructions.specs.Places.{goes_on}
use Rattle.herm_translated.specs.Constants.{literals_of, literals_in}
use Rattle.herm_translated.specs.Fronts.{expression_code, front}
use Rattle.herm_translated.specs.Departures.{Departure, edge_code}
use Rattle.herm_translated.specs.BlockLabels.{label_with, is_named, facts_after}

-- the facts without those at and below these paths
abbrev pub without_paths : List Path → List Fact → List Fact
without_paths [] facts = facts
without_paths (p ∷ ps) facts = without_paths ps (filter (λ f. not (any_pass (λ q. is_at_or_below q (path_of f)) (p ∷ []))) facts)

abbrev pub without_slots : List ℕ → List Slot → List Slot
without_slots [] slots = slots
without_slots (s ∷ ss) slots = without_slots ss (without_slot s slots)

-- the label behind what an edge drops
abbrev pub label_where_left : Departure → List Fact → List Slot → Label
label_where_left d facts slots = label_with (without_paths d.drops facts) (without_slots d.slots slots)

module _ (types : TypeTable) (variables : List ℕ) (constants : List Literal) where
  -- what an instruction hands on to the next one, and what instructions in a row do; Code reference, "Labels going forward"
  abbrev pub handed_by : Instruction → Option Label → Option Label
  handed_by i here = option_and_then (λ o. option_map (λ l. label_behind types variables constants i o l) here) (goes_on i)

  abbrev pub handed_on : List Instruction → Option Label → Option Label
  handed_on [] here = here
  handed_on (i ∷ code) here = handed_on code (handed_by i here)

  -- The code of a typed expression leaves its type on the stack, and nothing else changes. Code reference, "Operands".
  abbrev pub ExpressionsPushTheirType : Type 0
  ExpressionsPushTheirType = (exceptions : ℕ) → IsWellFormedTable exceptions types → (e : Expression) (t : ℕ) → IsTyped types variables e t → ((l : Literal) → IsIn l (literals_of e) → IsIn l constants)
      → (l : Label) → handed_on (expression_code constants e) (Some l) ≡ Some (record l { stack = t ∷ l.stack })

  -- A typed form hands on, to the edge behind its front, what is held behind its outcome. Code reference, "Blocks".
  abbrev pub FrontsHandOn : Type 0
  FrontsHandOn = (exceptions : ℕ) (processes : List Process) → IsWellFormedTable exceptions types → (facts : List Fact) (number here : ℕ) (exit_at : Outcome → ℕ) (slots : List Slot) (form : Form) (o : Outcome)
      → IsTypedForm types variables exceptions processes form → ((l : Literal) → IsIn l (literals_in form) → IsIn l constants) → IsIn o (outcomes types variables form) → is_named o ≡ false → ((r t : Path) → form ≡ For r t → ⊥)
      → handed_on (front types variables constants facts number here exit_at form) (Some (label_with facts slots)) ≡ Some (label_with (facts_after types variables form o facts) slots)

  -- Along an edge facts and slots go, until what is left at its last instruction. Code reference, "Blocks".
  abbrev pub EdgesHandOn : Type 0
  EdgesHandOn = (start : ℕ → ℕ) (d : Departure) (facts : List Fact) (slots : List Slot)
      → (before : List Instruction) × (last : Instruction) × (edge_code start d ≡ before ++ last ∷ []) × (handed_on before (Some (label_with facts slots)) ≡ Some (label_where_left d facts slots))
