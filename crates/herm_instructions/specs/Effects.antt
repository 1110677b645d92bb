-- What instructions need of the facts and the slots, what they leave of them, and the exceptions that they can raise.
use Rattle.std.specs.Prelude.{ℕ, List, [], ◌∷◌, ◌++◌, map, filter, length, Bool, true, false, not, nat_eq, Option, Some, None}
use Rattle.herm_model.specs.Lists.{map_or, any_pass, list_of, range}
use Rattle.herm_model.specs.Paths.{Fact, path_of, is_at_or_below}
use Rattle.herm_model.specs.Types.{Shape, rows, TypeTable}
use Rattle.herm_model.specs.Expressions.{Literal, Expression, Atom, is_arithmetic, is_joining}
use Rattle.herm_model.specs.Statements.{Form, Arm}
use Rattle.herm_model.specs.Calls.{shape_at}
use Rattle.herm_model.specs.Outcomes.{Outcome, raised, overflow, depletion, listed_if, exceptions}
use Rattle.herm_model.specs.FactsOfStatements.{Row, nothing, at_turn, present, full, room_for, row, closed}
use Rattle.herm_instructions.specs.Instructions.{UnaryOperator, negative, Argument, of_in, of_inout, of_out, Choice, Instruction, Load, Size, Apply, Combine, Store, Move, New, Discard, Unite, Dissolve, Reveal, CaseOf, Wrap, Unwrap, Insert, Remove, Get, LoopStart, LoopNext, LoopDrop, Connect, Send, Receive, Select, Call, Return, ReturnBy, Create, Raise, Drop}
use Rattle.herm_instructions.specs.Labels.{Slot, Label}
use Rattle.herm_instructions.specs.Operands.{stack_behind}

-- a literal in place of an operand that is on the stack: it needs no fact
abbrev pub on_stack : Literal
on_stack = Literal.boolean false

abbrev pub atom_of : Argument → Atom
atom_of of_in = Atom.literal on_stack
atom_of (of_inout p) = Atom.path p
atom_of (of_out p) = Atom.path p

abbrev pub arm_of : Choice → Arm
arm_of c = record { target = c.target; port = c.port }

-- The form of the statement that an instruction does. Of what is on the stack it has no keys, and literals in place of values.
-- Code reference, "Facts of instructions".
abbrev pub form_of : Instruction → Option Form
form_of (Store x) = Some (Form.Assign x (Expression.literal on_stack))
form_of (Move y x) = Some (Form.Move y x)
form_of (New x t) = Some (Form.New x)
form_of (Discard x) = Some (Form.Discard x)
form_of (Unite v c y) = Some (Form.Unite v c y)
form_of (Dissolve v c y) = Some (Form.Dissolve v c y)
form_of (Reveal v c) = Some (Form.Reveal v c)
form_of (CaseOf v indices) = Some (Form.Case v (range 0 (length indices)))
form_of (Wrap y t p) = Some (Form.Wrap y p)
form_of (Unwrap p t y) = Some (Form.Unwrap p t y)
form_of (Insert r t) = Some (Form.Insert r t)
form_of (Remove r t n) = Some (Form.Remove r t [])
form_of (Get r t n) = Some (Form.Get r t [])
form_of (Connect o i) = Some (Form.Connect o i)
form_of (Send x o trim) = Some (Form.Send x o)
form_of (Receive x i) = Some (Form.Receive x i)
form_of (Select choices) = Some (Form.Select (map arm_of choices))
form_of (Call o arguments keeps) = Some (Form.Call o (map atom_of arguments))
form_of (Return m) = Some (Form.Return m)
form_of (ReturnBy m e kept) = Some (Form.ReturnBy m e)
form_of (Create o n) = Some (Form.Create o n)
form_of (Raise e) = Some (Form.Raise e)
form_of (Drop p) = Some (Form.Discard p)
form_of i = None

abbrev pub no_row : Row
no_row = record { needed = []; made = nothing; gone = nothing }

abbrev pub is_negative : UnaryOperator → Bool
is_negative negative = true
is_negative u = false

-- the row type of a table's shape
abbrev pub row_type : Shape → List ℕ
row_type (rows row key) = row ∷ []
row_type s = []

-- the slots without one
abbrev pub without_slot : ℕ → List Slot → List Slot
without_slot s slots = filter (λ (slot : Slot). not (nat_eq slot.number s)) slots

module _ (table : TypeTable) (variables : List ℕ) where
  -- What an instruction needs, makes and takes away: the row of its statement's form. A `for` is two instructions: the first one looks
  -- at the table, the other one sets its target. Code reference, "Facts of instructions".
  abbrev pub row_of : Instruction → Row
  row_of (Load p) = record { needed = full table variables p; made = nothing; gone = nothing }
  row_of (Size p) = record { needed = full table variables p; made = nothing; gone = nothing }
  row_of (LoopStart t s) = record { needed = present table variables t; made = nothing; gone = nothing }
  row_of (LoopNext r s index) = record { needed = room_for table variables r; made = at_turn (full table variables r); gone = at_turn (r ∷ []) }
  row_of i = map_or no_row (row table variables) (form_of i)

  abbrev pub facts_needed : Instruction → List Fact
  facts_needed i = closed table variables (row_of i).needed

  -- The facts behind an outcome: those that it makes, and those before it but at and below what it takes away.
  -- Language reference, "Held".
  abbrev pub facts_behind : Instruction → Outcome → List Fact → List Fact
  facts_behind i o facts = closed table variables ((row_of i).made o) ++ filter (λ f. not (any_pass (λ p. is_at_or_below p (path_of f)) ((row_of i).gone o))) facts

  -- The exceptions that an instruction can raise. Code reference, "Landings".
  abbrev pub exceptions_of : Instruction → List ℕ
  exceptions_of (Apply u) = listed_if (is_negative u) overflow
  exceptions_of (Combine o) = listed_if (is_arithmetic o) overflow ++ listed_if (is_joining o) depletion
  exceptions_of i = list_of (exceptions table variables) (form_of i)

  -- The slots behind an instruction, innermost first. Code reference, "Slots".
  abbrev pub slots_behind : Instruction → List Slot → List Slot
  slots_behind (LoopStart t s) slots = map (λ u. record { number = s; row = u }) (list_of row_type (shape_at table variables t)) ++ slots
  slots_behind (LoopDrop s) slots = without_slot s slots
  slots_behind i slots = slots

  module _ (constants : List Literal) where
    -- The label behind an outcome. An exception leaves nothing on the stack, and the slots as they are.
    -- Code reference, "Labels going forward".
    abbrev pub label_behind : Instruction → Outcome → Label → Label
    label_behind i (raised e) l = record { stack = []; facts = facts_behind i (raised e) l.facts; slots = l.slots }
    label_behind i o l = record { stack = stack_behind table constants variables i l.stack; facts = facts_behind i o l.facts; slots = slots_behind i l.slots }
