-- What an instruction does that is no action: an instruction of a statement's name does what the form does.
use Rattle.std.specs.Prelude.{ℕ, List, ◌∷◌, not, nat_eq, pos, neg_ℤ, length, Option, Some, None, slice_get}
use Rattle.herm_model.specs.Paths.{Path}
use Rattle.herm_model.specs.Expressions.{Literal}
use Rattle.herm_model.specs.Outcomes.{ok}
use Rattle.herm_model.specs.ValueTexts.{signed_numeral}
use Rattle.herm_model.specs.Values.{Scalar, an_integer, a_text, parts_of, read_at, Value}
use Rattle.herm_forms.specs.Evaluate.{Evaluated, gives, no_value, scalar_then, two_then, boolean_then, integer_then, text_then, gives_boolean, gives_scalar, within_bits, operate, scalar_of, value_there, rows_there}
use Rattle.herm_forms.specs.Frames.{Name, Frame, Completion, goes, if_there, drop_at, reading, copying_parts}
use Rattle.herm_forms.specs.Forms
use Rattle.herm_forms.specs.InsertForm
use Rattle.herm_forms.specs.RemoveAndGet
use Rattle.herm_forms.specs.LoopForms.{rows_for, next_row}
use Rattle.herm_forms.specs.LeavingLoops.{leave_loops}
use Rattle.herm_forms.specs.Excess.{excess_over_full}
use Rattle.herm_forms.specs.Acts.{key_at, new_value}
use Rattle.herm_instructions.specs.Instructions.{UnaryOperator, negative, complement, as_text, text_length, Instruction, Const, Load, Size, Apply, Combine, Store, Jump, JumpFalse, Move, New, Discard, Unite, Dissolve, Reveal, CaseOf, Wrap, Unwrap, Insert, Remove, Get, LoopStart, LoopNext, LoopDrop, Connect, Raise, Drop}
use Rattle.herm_code_machine.specs.ReadyCode.{ReadyCode}
use Rattle.herm_code_machine.specs.Stacks.{Effect, leaving, no_effect, pushing, with_top, with_two, with_key}

-- the value of a constant
abbrev pub constant_value : Option Literal → Evaluated
constant_value None = no_value
constant_value (Some l) = gives_scalar (scalar_of l)

-- what an operator on one operand gives; Language reference, "Expressions"
abbrev pub applied : UnaryOperator → Scalar → Evaluated
applied negative = integer_then (λ z. within_bits (neg_ℤ z))
applied complement = boolean_then (λ b. gives_boolean (not b))
applied as_text = integer_then (λ z. gives_scalar (a_text (signed_numeral z)))
applied text_length = text_then (λ bytes. gives_scalar (an_integer (pos (length bytes))))

-- The rows of a table are copied into a slot. Code reference, "Instructions".
abbrev pub start_loop : {N : Type 0} → (Name → N) → (slot : ℕ) → (table : Path) → Frame N → Completion N
start_loop name slot t b =
    reading t (λ table. copying_parts name (parts_of table) (λ rows b. goes ok (record b { loops = record { statement = slot; rows = rows } ∷ b.loops })) b) b

-- The next row of a slot moves to the target, or none is left. Code reference, "Instructions".
abbrev pub next_of_loop : {N : Type 0} → (slot : ℕ) → (target : Path) → Frame N → Completion N
next_of_loop slot r b = if_there (λ rows. next_row slot r rows b) (rows_for slot b.loops)

-- What is left in a slot is finalised, and the slot is gone. Code reference, "Instructions".
abbrev pub drop_loop : {N : Type 0} → (slot : ℕ) → Frame N → Frame N
drop_loop slot b = leave_loops (λ l. not (nat_eq l slot)) b

-- What an instruction comes to that is no action and no end. Code reference, "Instructions".
abbrev pub effect : {N : Type 0} → (Name → N) → ReadyCode → Instruction → List Value → Frame N → Effect N
effect name c (Const k) stack b = pushing (constant_value (slice_get c.constants k)) stack b
effect name c (Load p) stack b = pushing (value_there (read_at p b.variables)) stack b
effect name c (Size p) stack b = pushing (rows_there (read_at p b.variables)) stack b
effect name c (Apply o) stack b = with_top (λ v rest. pushing (scalar_then (applied o) v) rest b) stack
effect name c (Combine o) stack b = with_two (λ left right rest. pushing (two_then (operate o) (gives left) (gives right)) rest b) stack
effect name c (Store x) stack b = with_top (λ v rest. leaving rest (Forms.assign name x v b)) stack
effect name c (Jump i) stack b = leaving stack (goes ok b)
effect name c (JumpFalse i) stack b = with_top (λ v rest. leaving rest (Forms.tested v b)) stack
effect name c (Move y x) stack b = leaving stack (Forms.move (excess_over_full c.scope y b) y x b)
effect name c (New x t) stack b = leaving stack (new_value name (slice_get c.scope.types t) x b)
effect name c (Discard x) stack b = leaving stack (Forms.discard x b)
effect name c (Unite v k y) stack b = leaving stack (Forms.unite name k (excess_over_full c.scope y b) y v b)
effect name c (Dissolve v k y) stack b = leaving stack (Forms.dissolve k v y b)
effect name c (Reveal v k) stack b = leaving stack (Forms.reveal k v b)
effect name c (CaseOf v indices) stack b = leaving stack (Forms.choose v b)
effect name c (Wrap y t p) stack b = leaving stack (Forms.wrap name t (excess_over_full c.scope y b) y p b)
effect name c (Unwrap p t y) stack b = leaving stack (Forms.unwrap t p y b)
effect name c (Insert r t) stack b = leaving stack (InsertForm.insert (key_at c.scope t) (excess_over_full c.scope r b) r t b)
effect name c (Remove r t n) stack b = with_key n (λ k. RemoveAndGet.remove (key_at c.scope t) k r t b) stack
effect name c (Get r t n) stack b = with_key n (λ k. RemoveAndGet.get name (key_at c.scope t) k r t b) stack
effect name c (LoopStart t slot) stack b = leaving stack (start_loop name slot t b)
effect name c (LoopNext r slot i) stack b = leaving stack (next_of_loop slot r b)
effect name c (LoopDrop slot) stack b = leaving stack (goes ok (drop_loop slot b))
effect name c (Connect o i) stack b = leaving stack (Forms.connect name o i b)
effect name c (Raise e) stack b = leaving stack (Forms.raise e b)
effect name c (Drop p) stack b = leaving stack (goes ok (drop_at p b))
effect name c _ stack b = no_effect
