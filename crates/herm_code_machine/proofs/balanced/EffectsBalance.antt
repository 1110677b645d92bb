-- Each instruction keeps the equation of names and kinds, and each answer to an action.
use Rattle.std.proofs.Common.{◌≡◌, ℕ, suc, ◌+◌, List, [], ◌∷◌, Bool, true, false, Option, Some, None, option_map, option_and_then, refl, sym, ap, subst, ◌∙◌, arith, not}
use Rattle.std.specs.Prelude.{⊤, nat_eq, flat_map, map, slice_get}
use Rattle.herm_model.specs.Statements.{Form}
use Rattle.herm_model.specs.Values.{Kind, kind_of, Cell, Parts, parts_of, read_at, Value}
use Rattle.herm_model.proofs.Loads.{SparesPlain}
use Rattle.herm_model.proofs.Options.{map-some}
use Rattle.herm_journal.specs.Actions.{to_take}
use Rattle.herm_journal.specs.Actions
use Rattle.herm_journal.specs.Kinds.{HasKinds, HaveKinds, AllKinds}
use Rattle.herm_journal.specs.Messages.{CellWant, CellAction}
use Rattle.herm_forms.specs.Acts
use Rattle.herm_forms.specs.Acts.{key_at, given_back, given_at}
use Rattle.herm_forms.specs.Callmessages as callmessages
use Rattle.herm_forms.specs.Callmessages.{Composed}
use Rattle.herm_forms.specs.Evaluate.{scalar_then, two_then, operate, gives, value_there, rows_there}
use Rattle.herm_forms.specs.Exchanges
use Rattle.herm_forms.specs.Excess.{excess_over_full}
use Rattle.herm_forms.specs.Forms
use Rattle.herm_forms.specs.LoopForms.{next_row, rows_for}
use Rattle.herm_forms.specs.Frames.{Name, Frame, Completion, goes, stays, stuck, copying_parts, counted_action}
use Rattle.herm_forms.proofs.Balance.{Balanced, AllBalanced, balanced-if_there, balanced-drop, balanced-copying_parts}
use Rattle.herm_forms.proofs.Begun.{port_load, call_load, back_load, source_load}
use Rattle.herm_forms.proofs.Copies.{CopiesKinds}
use Rattle.herm_forms.proofs.Counting.{recount, recount_composed, recount-compose}
use Rattle.herm_forms.proofs.KeptActions.{kept-select, kept-hear_call, balanced-compose}
use Rattle.herm_forms.proofs.KeptForms.{kept-act, kept-settle, settle-send, settle-made, settle-return, no-more, recount-load, balanced-leave_loops}
use Rattle.herm_forms.proofs.KeptLocal.{kept-assign, kept-new_value, kept-wrap, kept-remove, kept-get, kept-tested, balanced-next_row}
use Rattle.herm_forms.proofs.Loads.{load_coming, load_going}
use Rattle.herm_forms.proofs.Weights.{Spares}
use Rattle.herm_instructions.specs.Instructions.{Argument, Instruction, Const, Load, Size, Apply, Combine, Store, Jump, JumpFalse, Move, New, Discard, Unite, Dissolve, Reveal, CaseOf, Wrap, Unwrap, Insert, Remove, Get, LoopStart, LoopNext, LoopDrop, Connect, Send, Receive, Select, Call, Return, ReturnBy, Create, Raise, Drop}
use Rattle.herm_code_machine.specs.ReadyCode.{ReadyCode}
use Rattle.herm_code_machine.specs.Stacks.{Effect, leaving, Popped, pop, parts_from, with_top, with_popped}
use Rattle.herm_code_machine.specs.Effects.{constant_value, applied, effect}
use Rattle.herm_instructions.specs.Operands.{count_inputs}
use Rattle.herm_code_machine.specs.CodeActions.{mode_of, inouts, outs, returned, kept_paths, left_paths, composed_of, called, kept_parameters, ports_of_choices, targets_of_choices, code_wants, code_settles, code_hears}
use Rattle.herm_code_machine.specs.CodeSteps.{counted_if}
use Rattle.herm_code_machine.proofs.RunsKeep.{AllOf}
use Rattle.herm_code_machine.proofs.StackSplits.{Comes, comes-pushing, comes-top, comes-two, comes-key}
use Rattle.herm_code_machine.proofs.known.KindsOfEffects.{IfPopped, pop-kinds, from-kinds}

-- Each cell that an instruction copies is of these kinds: of the value that it places, of the table whose rows it finds or
-- copies, of the arguments of a call.
abbrev pub CodeCopies : {N : Type 0} → (Kind → Type 0) → Instruction → List Value → Frame N → Type 0
CodeCopies of (Store x) stack b = AllKinds of stack
CodeCopies {N} of (Get r t n) stack b = (table : Cell N) → read_at t b.variables ≡ Some table → HaveKinds of (parts_of table)
CodeCopies {N} of (LoopStart t slot) stack b = (table : Cell N) → read_at t b.variables ≡ Some table → HaveKinds of (parts_of table)
CodeCopies of (Call o arguments keep) stack b = AllKinds of stack
CodeCopies of i stack b = ⊤

-- what the kinds weigh of the inports and callmessages that an answer makes, and of those that it ends
abbrev pub code_begun : {N : Type 0} → (Kind → ℕ) → (Name → N) → ReadyCode → Instruction → List Value → Frame N → CellAction N → ℕ
code_begun extra name c (New x t) stack b action = port_load extra action
code_begun extra name c (Create o n) stack b action = port_load extra action
code_begun extra name c (Call o arguments keep) stack b action = call_load extra (called name c arguments stack b)
code_begun extra name c i stack b action = 0

abbrev pub code_over : {N : Type 0} → (Kind → ℕ) → ReadyCode → Instruction → Frame N → CellAction N → ℕ
code_over extra c (Call o arguments keep) b action = back_load extra action
code_over extra c (Return x) b action = source_load extra x (given_back c.scope (given_at c.scope x) b)
code_over extra c (ReturnBy x e kept) b action = source_load extra x (given_back c.scope (kept_parameters c x kept) b)
code_over extra c i b action = 0

module _ {N : Type 0} (w : N → ℕ) (extra : Kind → ℕ) (name : Name → N) (spares : SparesPlain extra) (m k : ℕ) where
  as-all : (h : ℕ) (r : Completion N) → AllBalanced w extra name m k h r → AllOf (Balanced w extra name m k h) r
  as-all h (goes o b) e = e
  as-all h (stays b) e = e
  as-all h stuck e = tt

  top-balanced : (next : Value → List Value → Effect N) (stack : List Value) → AllKinds (Spares extra) stack → ((v : Value) (rest : List Value) → HasKinds (Spares extra) v → Comes (Balanced w extra name m k 0) (next v rest))
      → Comes (Balanced w extra name m k 0) (with_top next stack)
  top-balanced next [] kinds on = tt
  top-balanced next (v ∷ rest) kinds on = on v rest kinds.0

  -- an instruction that is a form which copies nothing
  by-form : (c : ReadyCode) (form : Form) (b : Frame N) → CopiesKinds (Spares extra) c.scope form b.variables → Balanced w extra name m k 0 b → AllOf (Balanced w extra name m k 0) (Acts.act name c.scope 0 form b)
  by-form c form b kinds e = as-all 0 (Acts.act name c.scope 0 form b) (kept-act w extra name spares m k c.scope 0 form b kinds e)

  pub kept-effect : (c : ReadyCode) (i : Instruction) (stack : List Value) (b : Frame N) → CodeCopies (Spares extra) i stack b → Balanced w extra name m k 0 b → Comes (Balanced w extra name m k 0) (effect name c i stack b)
  kept-effect c (Const n) stack b kinds e = comes-pushing (Balanced w extra name m k 0) (constant_value (slice_get c.constants n)) stack b e
  kept-effect c (Load p) stack b kinds e = comes-pushing (Balanced w extra name m k 0) (value_there (read_at p b.variables)) stack b e
  kept-effect c (Size p) stack b kinds e = comes-pushing (Balanced w extra name m k 0) (rows_there (read_at p b.variables)) stack b e
  kept-effect c (Apply o) stack b kinds e = comes-top (Balanced w extra name m k 0) _ stack (λ v rest. comes-pushing (Balanced w extra name m k 0) (scalar_then (applied o) v) rest b e)
  kept-effect c (Combine o) stack b kinds e = comes-two (Balanced w extra name m k 0) _ stack (λ left right rest. comes-pushing (Balanced w extra name m k 0) (two_then (operate o) (gives left) (gives right)) rest b e)
  kept-effect c (Store x) stack b kinds e = top-balanced _ stack kinds (λ v rest kind. as-all 0 (Forms.assign name x v b) (kept-assign w extra name spares m k x v b kind e))
  kept-effect c (Jump i) stack b kinds e = e
  kept-effect c (JumpFalse i) stack b kinds e = comes-top (Balanced w extra name m k 0) _ stack (λ v rest. as-all 0 (Forms.tested v b) (kept-tested w extra name spares m k v b e))
  kept-effect c (Move y x) stack b kinds e = by-form c (Form.Move y x) b tt e
  kept-effect c (New x t) stack b kinds e = as-all 0 _ (kept-new_value w extra name spares m k (slice_get c.scope.types t) x b e)
  kept-effect c (Discard x) stack b kinds e = by-form c (Form.Discard x) b tt e
  kept-effect c (Unite v i y) stack b kinds e = by-form c (Form.Unite v i y) b tt e
  kept-effect c (Dissolve v i y) stack b kinds e = by-form c (Form.Dissolve v i y) b tt e
  kept-effect c (Reveal v i) stack b kinds e = by-form c (Form.Reveal v i) b tt e
  kept-effect c (CaseOf v is) stack b kinds e = by-form c (Form.Case v []) b tt e
  kept-effect c (Wrap y t p) stack b kinds e = as-all 0 _ (kept-wrap w extra name spares m k t (excess_over_full c.scope y b) y p b e)
  kept-effect c (Unwrap p t y) stack b kinds e = by-form c (Form.Unwrap p t y) b tt e
  kept-effect c (Insert r t) stack b kinds e = by-form c (Form.Insert r t) b tt e
  kept-effect c (Remove r t n) stack b kinds e = comes-key (Balanced w extra name m k 0) n _ stack (λ v. as-all 0 _ (kept-remove w extra name spares m k (key_at c.scope t) v r t b e))
  kept-effect c (Get r t n) stack b kinds e = comes-key (Balanced w extra name m k 0) n _ stack (λ v. as-all 0 _ (kept-get w extra name spares m k (key_at c.scope t) v r t b kinds e))
  kept-effect c (LoopStart t slot) stack b kinds e =
      let next = λ (rows : Parts N) (b : Frame N). goes Rattle.herm_model.specs.Outcomes.ok (record b { loops = record { statement = slot; rows = rows } ∷ b.loops }) in
      as-all 0 _ (balanced-if_there w extra name spares m k 0 (λ (table : Cell N). copying_parts name (parts_of table) next b) (read_at t b.variables)
      (λ table is. balanced-copying_parts w extra name spares m k 0 0 (parts_of table) next b (kinds table is) e (λ qs b' e'. omega arith)))
  kept-effect c (LoopNext r slot i) stack b kinds e =
      as-all 0 _ (balanced-if_there w extra name spares m k 0 (λ (rows : Parts N). next_row slot r rows b) (rows_for slot b.loops) (λ rows is. balanced-next_row w extra name spares m k slot r rows b is e))
  kept-effect c (LoopDrop slot) stack b kinds e = balanced-leave_loops w extra name spares m k 0 (λ l. not (nat_eq l slot)) b e
  kept-effect c (Connect o i) stack b kinds e = by-form c (Form.Connect o i) b tt e
  kept-effect c (Raise x) stack b kinds e = by-form c (Form.Raise x) b tt e
  kept-effect c (Drop p) stack b kinds e = balanced-drop w extra name spares m k 0 (p ∷ []) b e
  kept-effect c _ stack b kinds e = tt

  pub kept-hears : (i : Instruction) (call : ℕ) (action : CellAction N) (b : Frame N) → Balanced w extra name m k (load_coming w extra action) b → AllOf (Balanced w extra name m k 0) (code_hears i call action b)
  kept-hears (Call o arguments keep) call action b e =
      as-all 0 _ (kept-hear_call w extra name spares m k (returned arguments) (outs arguments) (kept_paths arguments keep) (left_paths arguments keep) call action b e)
  kept-hears _ call action b e = tt

module _ {N : Type 0} (w : N → ℕ) (extra : Kind → ℕ) (name : Name → N) (spares : SparesPlain extra) (m k steps actions : ℕ) where
  -- a callmessage, with what its kind weighs
  same-load : (made counted : Option (Composed N)) (x : Composed N) → counted ≡ option_map (recount_composed steps actions) made → counted ≡ Some x → call_load extra made ≡ extra (kind_of x.message)
  same-load made counted x again is = sym (recount-load w extra name spares m k steps actions made) ∙ ap (call_load extra) (sym again ∙ is)

  settle-popped : (c : ReadyCode) (o : Rattle.herm_model.specs.Paths.Path) (arguments : List Argument) (want : CellWant N) (action : CellAction N) (b : Frame N) (popped : Option Popped) → IfPopped (Spares extra) popped
      → callmessages.call_wants (option_and_then (λ (p : Popped). composed_of name c arguments p.values b) popped) o b ≡ Some want
      → Balanced w extra name m k (load_coming w extra action + call_load extra (option_and_then (λ (p : Popped). composed_of name c arguments p.values b) popped)) b
      → Comes (Balanced w extra name m k (load_going w extra name b want action + back_load extra action))
      (with_popped (λ (p : Popped). leaving p.rest (callmessages.call (composed_of name c arguments p.values (recount steps actions b)) (outs arguments) action)) popped)
  settle-popped c o arguments want action b None kinds is e = tt
  settle-popped c o arguments want action b (Some p) kinds is e =
      let modes = map mode_of arguments in
      let moved = inouts arguments in
      let lost = flat_map (λ (q : Rattle.herm_model.specs.Paths.Path). excess_over_full c.scope q b) moved in
      let made = composed_of name c arguments p.values b in
      let counted = composed_of name c arguments p.values (recount steps actions b) in
      let again = recount-compose steps actions name modes (parts_from p.values) lost moved b in
      as-all w extra name spares m k (load_going w extra name b want action + back_load extra action) (callmessages.call counted (outs arguments) action)
      (settle-made w extra name spares m k steps actions o (outs arguments) want action b made counted again
      (λ x there. balanced-compose w extra name spares m k (load_coming w extra action) modes (parts_from p.values) lost moved (recount steps actions b) x there (from-kinds (Spares extra) p.values kinds.0)
      (subst (λ o. Balanced w extra name m k (load_coming w extra action + o) b) (same-load made counted x again there) e)) is)

  by-answer : (c : ReadyCode) (form : Form) (want : CellWant N) (at : ℕ) (action : CellAction N) (b : Frame N) (h : ℕ) → AllBalanced w extra name m k h (Acts.settle name c.scope form at action (recount steps actions b))
      → AllOf (Balanced w extra name m k h) (Acts.settle name c.scope form at action (recount steps actions b))
  by-answer c form want at action b h e = as-all w extra name spares m k h (Acts.settle name c.scope form at action (recount steps actions b)) e

  pub kept-settles : (c : ReadyCode) (i : Instruction) (stack : List Value) (want : CellWant N) (at : ℕ) (action : CellAction N) (b : Frame N) → code_wants name c i stack b ≡ Some want → CodeCopies (Spares extra) i stack b
      → Balanced w extra name m k (load_coming w extra action + code_begun extra name c i stack b action) b
      → Comes (Balanced w extra name m k (load_going w extra name b want action + code_over extra c i b action)) (code_settles name c i stack at action (recount steps actions b))
  kept-settles c (New x t) stack want at action b is kinds e = by-answer c (Form.New x) want at action b _ (kept-settle w extra name spares m k steps actions c.scope (Form.New x) want at action b is tt e)
  kept-settles c (Send x o trim) stack want at action b is kinds e =
      as-all w extra name spares m k (load_going w extra name b want action + 0) _ (no-more w extra name spares m k steps actions (load_going w extra name b want action) _ (settle-send w extra name spares m k steps actions trim x o want action b is (omega arith)))
  kept-settles c (Receive x i) stack want at action b is kinds e = by-answer c (Form.Receive x i) want at action b _ (kept-settle w extra name spares m k steps actions c.scope (Form.Receive x i) want at action b is tt e)
  kept-settles c (Select choices) stack want at action b is kinds e =
      let ports = ports_of_choices choices in
      let r = map-some to_take (Exchanges.ports_at ports b) want is in
      rw (sym r.2) (as-all w extra name spares m k 0 _ (kept-select w extra name spares m k (targets_of_choices choices) ports at action (recount steps actions b) (omega arith)))
  kept-settles c (Call o arguments keep) stack want at action b is kinds e = settle-popped c o arguments want action b (pop (count_inputs arguments) stack) (pop-kinds (Spares extra) (count_inputs arguments) stack kinds) is e
  kept-settles c (Return x) stack want at action b is kinds e = by-answer c (Form.Return x) want at action b _ (kept-settle w extra name spares m k steps actions c.scope (Form.Return x) want at action b is tt e)
  kept-settles c (ReturnBy x ex kept) stack want at action b is kinds e =
      as-all w extra name spares m k _ _ (settle-return w extra name spares m k steps actions c.scope (kept_parameters c x kept) (Actions.raised ex) (λ cs. refl) x want action b is (omega arith))
  kept-settles c (Create o n) stack want at action b is kinds e = by-answer c (Form.Create o n) want at action b _ (kept-settle w extra name spares m k steps actions c.scope (Form.Create o n) want at action b is tt e)
  kept-settles c _ stack want at action b is kinds e = tt

-- with the counts of a piece
module _ {N : Type 0} (w : N → ℕ) (extra : Kind → ℕ) (name : Name → N) (spares : SparesPlain extra) (m k : ℕ) where
  pub kept-counted : (has_step : Bool) (c : ReadyCode) (i : Instruction) (stack : List Value) (want : CellWant N) (at : ℕ) (action : CellAction N) (b : Frame N) → code_wants name c i stack b ≡ Some want → CodeCopies (Spares extra) i stack b
      → Balanced w extra name m k (load_coming w extra action + code_begun extra name c i stack b action) b
      → Comes (Balanced w extra name m k (load_going w extra name b want action + code_over extra c i b action)) (code_settles name c i stack at action (counted_action (counted_if has_step b)))
  kept-counted true c i stack want at action b is kinds e = kept-settles w extra name spares m k (suc b.steps) (suc b.actions) c i stack want at action b is kinds e
  kept-counted false c i stack want at action b is kinds e = kept-settles w extra name spares m k b.steps (suc b.actions) c i stack want at action b is kinds e
