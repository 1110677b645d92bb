-- Tests of single instructions: their types, operands, slots, excess and landings. A law says that they decide.
use Rattle.std.specs.Prelude.{ℕ, List, [], ◌∷◌, map, length, Bool, true, false, not, ◌&&◌, nat_eq, nat_lt, Option, Some, None, is_some, slice_get}
use Rattle.herm_model.specs.Lists.{map_or, all_pass, any_pass, list_of, same_numbers}
use Rattle.herm_model.specs.Paths.{Path, Fact, same_path}
use Rattle.herm_model.specs.Types.{Mode, by_in, by_inout, by_out, Parameter, Raised, TypeTable, greatest_depth, type_at, passes_component}
use Rattle.herm_model.specs.Copyable.{is_copyable_within}
use Rattle.herm_model.specs.Expressions.{Literal}
use Rattle.herm_model.specs.Statements.{Form, Process}
use Rattle.herm_model.specs.Calls.{shape_at, raises_of, call_raises, kept_for}
use Rattle.herm_model.specs.FactsOfStatements.{set_by_call, sent_to}
use Rattle.herm_model.specs.Finalising.{keeps, excess_at}
use Rattle.herm_model.specs.TypedExpressions.{takes, passes_out}
use Rattle.herm_model.specs.tests.TableTests.{are_different, on_rows, on_inport, on_outport, on_callmessage}
use Rattle.herm_model.specs.tests.TypingTests.{is_number, are_all_apart, literal_type, is_typed_form}
use Rattle.herm_instructions.specs.Instructions.{Argument, of_in, of_inout, of_out, Instruction, Const, Load, Size, Combine, Store, New, Wrap, Remove, Get, LoopStart, LoopNext, LoopDrop, Send, Select, Call, ReturnBy, EndBy}
use Rattle.herm_instructions.specs.Labels.{Slot}
use Rattle.herm_instructions.specs.Operands.{type_of_literal, operands}
use Rattle.herm_instructions.specs.Effects.{atom_of, form_of}
use Rattle.herm_instructions.specs.TypedInstructions.{is_some_choice}

-- the two lists are equal, by a test of their elements
abbrev pub same_list : {X : Type 0} → (X → X → Bool) → List X → List X → Bool
same_list same [] [] = true
same_list same [] (y ∷ ys) = false
same_list same (x ∷ xs) [] = false
same_list same (x ∷ xs) (y ∷ ys) = same x y && same_list same xs ys

abbrev pub same_raised : Raised → Raised → Bool
same_raised r s = nat_eq r.exception s.exception && same_numbers r.kept s.kept

abbrev pub same_slot : Slot → Slot → Bool
same_slot s t = nat_eq s.number t.number && nat_eq s.row t.row

-- each element of the first list is in the second one
abbrev pub are_among : {X : Type 0} → (X → X → Bool) → List X → List X → Bool
are_among same xs ys = all_pass (λ x. any_pass (same x) ys) xs

-- the first list begins with the second one
abbrev pub begins_with : (list beginning : List ℕ) → Bool
begins_with list [] = true
begins_with [] (x ∷ xs) = false
begins_with (y ∷ list) (x ∷ xs) = nat_eq y x && begins_with list xs

-- the top two are of one type that passes the test
abbrev pub has_two : (ℕ → Bool) → List ℕ → Bool
has_two test [] = false
has_two test (t ∷ []) = false
has_two test (t ∷ u ∷ stack) = nat_eq t u && test t

abbrev pub has_landings : List ℕ → List ℕ → Bool
has_landings raised landed = are_different nat_eq landed && (are_among nat_eq landed raised && are_among nat_eq raised landed)

abbrev pub slot_numbers : List Slot → List ℕ
slot_numbers slots = map (λ (slot : Slot). slot.number) slots

module _ (table : TypeTable) where
  abbrev pub is_constant : Literal → Bool
  is_constant l = is_number (literal_type table l) (type_of_literal l)

  module _ (variables : List ℕ) where
    -- a test of the type of a path that is looked at, and of one that is set or whose value leaves
    abbrev pub at_seen : Path → (ℕ → Bool) → Bool
    at_seen p test = not (passes_out table variables p) && map_or false test (type_at table variables p)

    abbrev pub at_own : Path → (ℕ → Bool) → Bool
    at_own p test = not (passes_component table variables p) && at_seen p test

    abbrev pub at_table : Path → (ℕ → List ℕ → Bool) → Bool
    at_table t test = at_seen t (λ u. on_rows test (slice_get table u))

    abbrev pub is_argument_of : Mode → Argument → ℕ → Bool
    is_argument_of by_in of_in t = true
    is_argument_of by_inout (of_inout p) t = at_own p (nat_eq t)
    is_argument_of by_out (of_out p) t = at_own p (nat_eq t)
    is_argument_of mode a t = false

    abbrev pub are_arguments_of : List Parameter → List Argument → Bool
    are_arguments_of [] [] = true
    are_arguments_of [] (a ∷ arguments) = false
    are_arguments_of (p ∷ parameters) [] = false
    are_arguments_of (p ∷ parameters) (a ∷ arguments) = is_argument_of p.mode a p.content && are_arguments_of parameters arguments

    abbrev pub at_callmessage : Path → (List Parameter → List Raised → Bool) → Bool
    at_callmessage o test = at_seen o (λ t. on_outport (λ port. on_inport (λ message declared. on_callmessage test (slice_get table message)) (slice_get table port)) (slice_get table t))

    abbrev pub finds_on_stack : List Literal → Instruction → List ℕ → Bool
    finds_on_stack constants (Combine o) stack = has_two (λ t. map_or false (takes o) (slice_get table t)) stack
    finds_on_stack constants i stack = begins_with stack (operands table constants variables i)

    abbrev pub finds_slots : Instruction → List Slot → Bool
    finds_slots (LoopStart t s) slots = not (any_pass (nat_eq s) (slot_numbers slots))
    finds_slots (LoopNext r s index) slots = any_pass (λ (slot : Slot). nat_eq slot.number s && at_own r (nat_eq slot.row)) slots
    finds_slots (LoopDrop s) slots = any_pass (nat_eq s) (slot_numbers slots)
    finds_slots i slots = true

    abbrev pub trims_excess : Instruction → List Fact → Bool
    trims_excess (Send x o trim) facts = same_list same_path trim (list_of (λ t. excess_at table (keeps facts) (keeps (sent_to table variables o x)) x t) (type_at table variables x))
    trims_excess i facts = true

    abbrev pub keeps_as_declared : Instruction → Bool
    keeps_as_declared (Call o arguments listed) = same_list same_raised listed (call_raises table variables o)
    keeps_as_declared (ReturnBy m e kept) = same_numbers kept (kept_for (list_of raises_of (shape_at table variables m)) e)
    keeps_as_declared i = true

    module _ (exceptions : ℕ) (constants : List Literal) (processes : List Process) where
      abbrev pub is_typed_by_form : Option Form → Bool
      is_typed_by_form None = true
      is_typed_by_form (Some form) = is_typed_form table variables exceptions processes form

      abbrev pub is_typed_instruction : Instruction → Bool
      is_typed_instruction (Const k) = is_some (slice_get constants k)
      is_typed_instruction (Load p) = at_seen p (is_copyable_within greatest_depth table)
      is_typed_instruction (Size p) = at_table p (λ row key. true)
      is_typed_instruction (Store x) = at_own x (λ t. true)
      is_typed_instruction (New x t) = is_typed_form table variables exceptions processes (Form.New x) && is_number (type_at table variables x) t
      is_typed_instruction (Wrap y t p) = is_typed_form table variables exceptions processes (Form.Wrap y p) && is_number (type_at table variables y) t
      is_typed_instruction (Remove r t n) = at_table t (λ row key. at_own r (nat_eq row) && nat_eq n (length key))
      is_typed_instruction (Get r t n) = at_table t (λ row key. at_own r (nat_eq row) && (nat_eq n (length key) && is_copyable_within greatest_depth table row))
      is_typed_instruction (LoopStart t s) = at_table t (λ row key. is_copyable_within greatest_depth table row)
      is_typed_instruction (Select choices) = is_typed_by_form (form_of (Select choices)) && is_some_choice choices
      is_typed_instruction (Call o arguments listed) =
          at_callmessage o (λ parameters raises. are_arguments_of parameters arguments) && are_all_apart (set_by_call table variables o (map atom_of arguments))
      is_typed_instruction (EndBy e) = nat_lt e exceptions
      is_typed_instruction i = is_typed_by_form (form_of i)
