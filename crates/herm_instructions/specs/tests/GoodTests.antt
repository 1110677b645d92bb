-- Tests of code modules and images, rule by rule. A law says that they decide which are good.
use Rattle.std.specs.Prelude.{ℕ, suc, List, [], ◌∷◌, ◌++◌, map, filter, length, Bool, true, false, not, cond, ◌&&◌, ◌||◌, nat_eq, nat_lt, nat_le, is_some, slice_get}
use Rattle.herm_model.specs.Lists.{map_or, all_pass, any_pass, same_numbers}
use Rattle.herm_model.specs.Paths.{Fact, init, case, same_fact}
use Rattle.herm_model.specs.Types.{TypeTable}
use Rattle.herm_model.specs.Facts.{prefixes}
use Rattle.herm_model.specs.tests.TableTests.{do_rise, on_inport}
use Rattle.herm_model.specs.tests.BodyTests.{is_empty}
use Rattle.herm_instructions.specs.Instructions.{Instruction}
use Rattle.herm_instructions.specs.Actions.{is_step, is_action}
use Rattle.herm_instructions.specs.Labels.{Label, ListedLabel, listed_at}
use Rattle.herm_instructions.specs.Images.{Landing, CodeModule, Image}
use Rattle.herm_instructions.specs.Effects.{facts_needed, exceptions_of}
use Rattle.herm_instructions.specs.Places.{Way, Place, named_ways, ways, label_at_start, targets}
use Rattle.herm_instructions.specs.Pieces.{is_operand}
use Rattle.herm_instructions.specs.GoodCode.{processes_of, listed_indices, module_places, behind}
use Rattle.herm_instructions.specs.tests.InstructionTests.{same_list, same_slot, are_among, has_landings, is_constant, finds_on_stack, finds_slots, trims_excess, keeps_as_declared, is_typed_instruction}

abbrev pub is_case : Fact → Bool
is_case (init p) = false
is_case (case p c) = true

-- whether a label may arrive where another one is listed
abbrev pub fits : (arriving listed : Label) → Bool
fits arriving listed =
    same_numbers listed.stack arriving.stack
    && (same_list same_slot listed.slots arriving.slots
    && (are_among same_fact listed.facts arriving.facts && all_pass (λ f. is_case f || any_pass (same_fact f) listed.facts) arriving.facts))

abbrev pub is_closed : TypeTable → (variables : List ℕ) → List Fact → Bool
is_closed table variables facts = all_pass (λ f. are_among same_fact (prefixes table variables f) facts) facts

-- the step at an index is listed with the empty stack
abbrev pub is_listed_step : CodeModule → ℕ → Bool
is_listed_step m n = map_or false is_step (slice_get m.code n) && map_or false (λ (l : Label). is_empty l.stack) (listed_at m.labels n)

-- what stands at a place, for the rule on actions
pub data Role : Type 0 where
  a_step an_operand an_action another : Role

abbrev pub role_of : TypeTable → Instruction → Role
role_of table i = cond (is_step i) a_step (cond (is_action table i) an_action (cond (is_operand i) an_operand another))

-- One pass over the places in order: whether control comes to the next one from a step past operands alone, and a list of the indices
-- that it comes to past another instruction too.
abbrev pub acts_at_once_from : TypeTable → (alone : Bool) → (mixed : List ℕ) → List Place → Bool
acts_at_once_from table alone mixed [] = true
acts_at_once_from table alone mixed (p ∷ ps) =
    elim (role_of table p.instruction) [
      | a_step ↦ acts_at_once_from table true mixed ps
      | an_operand ↦ acts_at_once_from table alone (cond (any_pass (nat_eq p.index) mixed) (suc p.index ∷ mixed) mixed) ps
      | an_action ↦ not (any_pass (nat_eq p.index) mixed) && acts_at_once_from table false mixed ps
      | another ↦ acts_at_once_from table false (cond (alone || any_pass (nat_eq p.index) mixed) (map (λ (w : Way). w.index) (ways p) ++ mixed) mixed) ps
    ]

-- The rules of code modules, by the names of the parts of a good one.
pub data CodeRule : Type 0 where
  port variables_known code landings_listed labels_rise labels_listed labels_closed : CodeRule
  typed stack facts slots trims in_range begins arrives goes_back acts_at_once keeps landings : CodeRule

abbrev pub code_rules : List CodeRule
code_rules =
    port ∷ variables_known ∷ code ∷ landings_listed ∷ labels_rise ∷ labels_listed ∷ labels_closed
    ∷ typed ∷ stack ∷ facts ∷ slots ∷ trims ∷ in_range ∷ begins ∷ arrives ∷ goes_back ∷ acts_at_once ∷ keeps ∷ landings ∷ []

module _ (exceptions : ℕ) (image : Image) (m : CodeModule) where
  abbrev pub of_each_instruction : (Place → Bool) → Bool
  of_each_instruction test = all_pass test (module_places exceptions image m)

  abbrev pub of_each_labelled : (Place → Label → Bool) → Bool
  of_each_labelled test = all_pass (λ (p : Place). map_or true (test p) p.label) (module_places exceptions image m)

  abbrev pub arrives_fitting : Place → Label → Way → Bool
  arrives_fitting p l w = map_or true (fits (behind exceptions image m p w l)) (listed_at m.labels w.index)

  -- whether a module keeps a rule
  abbrev pub keeps_code_rule : CodeRule → Bool
  keeps_code_rule port = map_or false (λ t. on_inport (λ message declared. true) (slice_get image.types t)) (slice_get m.variables 0)
  keeps_code_rule variables_known = all_pass (λ t. is_some (slice_get image.types t)) m.variables
  keeps_code_rule code = nat_lt 0 (length m.code)
  keeps_code_rule landings_listed = nat_eq (length m.landings) (length m.code)
  keeps_code_rule labels_rise = do_rise (listed_indices m)
  keeps_code_rule labels_listed = are_among nat_eq (listed_indices m) (targets (module_places exceptions image m)) && are_among nat_eq (targets (module_places exceptions image m)) (listed_indices m)
  keeps_code_rule labels_closed = all_pass (λ (l : ListedLabel). is_closed image.types m.variables (l.label).facts) m.labels
  keeps_code_rule typed = of_each_labelled (λ p l. is_typed_instruction image.types m.variables exceptions image.constants (processes_of image.modules) p.instruction)
  keeps_code_rule stack = of_each_labelled (λ p l. finds_on_stack image.types m.variables image.constants p.instruction l.stack)
  keeps_code_rule facts = of_each_labelled (λ p l. are_among same_fact (facts_needed image.types m.variables p.instruction) l.facts)
  keeps_code_rule slots = of_each_labelled (λ p l. finds_slots image.types m.variables p.instruction l.slots)
  keeps_code_rule trims = of_each_labelled (λ p l. trims_excess image.types m.variables p.instruction l.facts)
  keeps_code_rule in_range = of_each_labelled (λ p l. all_pass (λ (w : Way). nat_lt w.index (length m.code)) (ways p))
  keeps_code_rule begins = map_or true (fits label_at_start) (listed_at m.labels 0)
  keeps_code_rule arrives = of_each_labelled (λ p l. all_pass (arrives_fitting p l) (ways p))
  keeps_code_rule goes_back = of_each_instruction (λ p. all_pass (λ (w : Way). not (nat_le w.index p.index) || is_listed_step m w.index) (named_ways p))
  keeps_code_rule acts_at_once = acts_at_once_from image.types false [] (module_places exceptions image m)
  keeps_code_rule keeps = of_each_instruction (λ p. keeps_as_declared image.types m.variables p.instruction)
  keeps_code_rule landings = of_each_instruction (λ p. has_landings (exceptions_of image.types m.variables p.instruction) (map (λ (l : Landing). l.exception) p.landings))

  -- the rules that are broken
  abbrev pub broken_code_rules : List CodeRule
  broken_code_rules = filter (λ rule. not (keeps_code_rule rule)) code_rules

-- whether an image is good
abbrev pub is_good : (exceptions : ℕ) → Image → Bool
is_good exceptions image = all_pass (is_constant image.types) image.constants && all_pass (λ m. is_empty (broken_code_rules exceptions image m)) image.modules
