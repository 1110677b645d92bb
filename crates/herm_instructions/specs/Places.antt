-- Where control goes from an instruction, and the label at each index.
use Rattle.std.specs.Prelude.{ℕ, suc, List, [], ◌∷◌, ◌++◌, map, flat_map, Option, Some, None, option_and_then, option_map, slice_get}
use Rattle.herm_model.specs.Lists.{list_of, numbered}
use Rattle.herm_model.specs.Paths.{init}
use Rattle.herm_model.specs.Types.{TypeTable}
use Rattle.herm_model.specs.Expressions.{Literal}
use Rattle.herm_model.specs.Outcomes.{Outcome, ok, is_true, is_false, turn, done, component, arm, raised}
use Rattle.herm_instructions.specs.Instructions.{Choice, Instruction, Jump, JumpFalse, CaseOf, LoopNext, Select, Raise, End, EndBy}
use Rattle.herm_instructions.specs.Labels.{Label, ListedLabel, listed_at}
use Rattle.herm_instructions.specs.Images.{Landing, CodeModule}
use Rattle.herm_instructions.specs.Effects.{label_behind}

-- an outcome of an instruction, and the index that it leads to
pub record Way : Type 0 where
  pub outcome : Outcome
  pub index : ℕ

-- The outcome at which control goes on to the next index. None where it never does. Code reference, "Ways".
abbrev pub goes_on : Instruction → Option Outcome
goes_on (Jump index) = None
goes_on (JumpFalse index) = Some is_true
goes_on (CaseOf v indices) = None
goes_on (LoopNext r s index) = Some turn
goes_on (Select choices) = None
goes_on (Raise e) = None
goes_on End = None
goes_on (EndBy e) = None
goes_on i = Some ok

abbrev pub way_of_arm : ℕ × Choice → Way
way_of_arm c = record { outcome = arm c.0; index = (c.1).index }

-- The outcomes that lead to an index that the instruction names. Code reference, "Ways".
abbrev pub jumps : Instruction → List Way
jumps (Jump index) = record { outcome = ok; index = index } ∷ []
jumps (JumpFalse index) = record { outcome = is_false; index = index } ∷ []
jumps (CaseOf v indices) = map (λ (c : ℕ × ℕ). record { outcome = component c.0; index = c.1 }) (numbered 0 indices)
jumps (LoopNext r s index) = record { outcome = done; index = index } ∷ []
jumps (Select choices) = map way_of_arm (numbered 0 choices)
jumps i = []

abbrev pub landing_ways : List Landing → List Way
landing_ways landings = map (λ (l : Landing). record { outcome = raised l.exception; index = l.index }) landings

-- An instruction by its index, with its landings, and the label there. There is none where control does not come.
pub record Place : Type 0 where
  pub index : ℕ
  pub instruction : Instruction
  pub landings : List Landing
  pub label : Option Label

-- jumps and landings, and all ways
abbrev pub named_ways : Place → List Way
named_ways p = jumps p.instruction ++ landing_ways p.landings

abbrev pub ways : Place → List Way
ways p = map (λ o. record { outcome = o; index = suc p.index }) (list_of (λ o. o ∷ []) (goes_on p.instruction)) ++ named_ways p

abbrev pub first_landings : List (List Landing) → List Landing
first_landings [] = []
first_landings (ls ∷ rest) = ls

abbrev pub further_landings : List (List Landing) → List (List Landing)
further_landings [] = []
further_landings (ls ∷ rest) = rest

-- a listed label holds in place of the one that arrives
abbrev pub listed_or : Option Label → Option Label → Option Label
listed_or (Some l) arriving = Some l
listed_or None arriving = arriving

-- A process begins with a value at its port, which is variable 0. Code reference, "Labels going forward".
abbrev pub label_at_start : Label
label_at_start = record { stack = []; facts = init (0 ∷ []) ∷ []; slots = [] }

module _ (table : TypeTable) (constants : List Literal) (variables : List ℕ) (labels : List ListedLabel) where
  abbrev pub goes_on_with : Instruction → Option Label → Option Label
  goes_on_with i here = option_and_then (λ o. option_map (λ l. label_behind table variables constants i o l) here) (goes_on i)

  -- Instructions from an index on, to the first of which control goes on with a label or not: the listed label holds there,
  -- where one is, and else the one that arrives. Code reference, "Labels going forward".
  abbrev pub places_from : Option Label → ℕ → List Instruction → List (List Landing) → List Place
  places_from arriving n [] landings = []
  places_from arriving n (i ∷ code) landings =
      record { index = n; instruction = i; landings = first_landings landings; label = listed_or (listed_at labels n) arriving }
      ∷ places_from (goes_on_with i (listed_or (listed_at labels n) arriving)) (suc n) code (further_landings landings)

abbrev pub places : TypeTable → List Literal → CodeModule → List Place
places table constants m = places_from table constants m.variables m.labels (Some label_at_start) 0 m.code m.landings

-- The label at an index. Code reference, "Labels going forward".
abbrev pub label_at : TypeTable → List Literal → CodeModule → ℕ → Option Label
label_at table constants m n = option_and_then (λ (p : Place). p.label) (slice_get (places table constants m) n)

-- the indices that jumps and landings name
abbrev pub targets : List Place → List ℕ
targets ps = flat_map (λ p. map (λ (w : Way). w.index) (named_ways p)) ps
