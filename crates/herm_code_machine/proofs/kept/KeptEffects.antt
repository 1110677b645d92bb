-- What the primitives keep of a frame, each instruction keeps, and each answer to an action.
use Rattle.std.proofs.Common.{◌≡◌, ℕ, List, [], ◌∷◌, Some, None, not}
use Rattle.std.specs.Prelude.{nat_eq, filter, flat_map, map, slice_get}
use Rattle.herm_model.specs.Outcomes.{ok}
use Rattle.herm_model.specs.Statements.{Form}
use Rattle.herm_model.specs.Tables.{without_part}
use Rattle.herm_model.specs.Values.{parts_of, read_at, Value}
use Rattle.herm_journal.specs.Messages.{CellAction}
use Rattle.herm_forms.specs.Evaluate.{scalar_then, two_then, operate, gives, value_there, rows_there}
use Rattle.herm_forms.specs.Frames.{Name, Loop, Frame, Completion, putting}
use Rattle.herm_forms.specs.InsertForm.{change_rows}
use Rattle.herm_forms.specs.LoopForms.{rows_for}
use Rattle.herm_forms.specs.Callmessages.{Composed}
use Rattle.herm_forms.specs.Excess.{excess_over_full}
use Rattle.herm_forms.specs.Acts.{key_at, given_back, given_at}
use Rattle.herm_forms.proofs.KeptBodies.{IsKept, AnyLoops, Opens, went, stayed, never}
use Rattle.herm_forms.proofs.KeptBodies
use Rattle.herm_instructions.specs.Instructions.{Argument, Instruction, Const, Load, Size, Apply, Combine, Store, Jump, JumpFalse, Move, New, Discard, Unite, Dissolve, Reveal, CaseOf, Wrap, Unwrap, Insert, Remove, Get, LoopStart, LoopNext, LoopDrop, Connect, Send, Receive, Select, Call, Return, ReturnBy, Create, Raise, Drop}
use Rattle.herm_code_machine.specs.ReadyCode.{ReadyCode}
use Rattle.herm_code_machine.specs.Stacks.{pop, parts_from}
use Rattle.herm_code_machine.specs.Effects.{constant_value, applied, effect}
use Rattle.herm_instructions.specs.Operands.{count_inputs}
use Rattle.herm_code_machine.specs.CodeActions.{mode_of, inouts, outs, returned, kept_paths, left_paths, composed_of, kept_parameters, ports_of_choices, targets_of_choices, code_settles, code_hears}
use Rattle.herm_code_machine.proofs.RunsKeep.{AllOf}
use Rattle.herm_code_machine.proofs.StackSplits.{comes-pushing, comes-top, comes-two, comes-popped, comes-key}

module _ {N : Type 0} (name : Name → N) (Is : Frame N → Type 0) (keeps-it : IsKept Is) (any : AnyLoops Is) where
  abbrev All : Completion N → Type 0
  All r = KeptBodies.All Is Is r

  pub as-all : (r : Completion N) → All r → AllOf Is r
  as-all r (went o b e) = e
  as-all r (stayed b e) = e
  as-all r never = tt

  fewer : KeptBodies.FewerLoops Is
  fewer stay b e = any (filter (λ (l : Loop N). stay l.statement) b.loops) b e

  -- an instruction that is a form
  by-form : (c : ReadyCode) (form : Form) (b : Frame N) → Is b → AllOf Is (Rattle.herm_forms.specs.Acts.act name c.scope 0 form b)
  by-form c form b e = as-all (Rattle.herm_forms.specs.Acts.act name c.scope 0 form b) (KeptBodies.all-act name Is Is keeps-it c.scope 0 form b e (λ visits. any))

  pub keeps-effect : (c : ReadyCode) (i : Instruction) (stack : List Value) (b : Frame N) → Is b → AllOf Is (effect name c i stack b).completion
  keeps-effect c (Const k) stack b e = comes-pushing Is (constant_value (slice_get c.constants k)) stack b e
  keeps-effect c (Load p) stack b e = comes-pushing Is (value_there (read_at p b.variables)) stack b e
  keeps-effect c (Size p) stack b e = comes-pushing Is (rows_there (read_at p b.variables)) stack b e
  keeps-effect c (Apply o) stack b e = comes-top Is _ stack (λ v rest. comes-pushing Is (scalar_then (applied o) v) rest b e)
  keeps-effect c (Combine o) stack b e = comes-two Is _ stack (λ left right rest. comes-pushing Is (two_then (operate o) (gives left) (gives right)) rest b e)
  keeps-effect c (Store x) stack b e = comes-top Is _ stack (λ v rest. as-all _ (KeptBodies.all-copying name Is Is keeps-it v (putting x ok) b e (λ d b' e'. KeptBodies.all-putting name Is Is keeps-it x ok d b' e')))
  keeps-effect c (Jump i) stack b e = e
  keeps-effect c (JumpFalse i) stack b e = comes-top Is _ stack (λ v rest. as-all _ (KeptBodies.all-tested name Is Is keeps-it v b e))
  keeps-effect c (Move y x) stack b e = by-form c (Form.Move y x) b e
  keeps-effect c (New x t) stack b e = as-all _ (KeptBodies.all-new_value name Is Is keeps-it (slice_get c.scope.types t) x b e)
  keeps-effect c (Discard x) stack b e = by-form c (Form.Discard x) b e
  keeps-effect c (Unite v k y) stack b e = by-form c (Form.Unite v k y) b e
  keeps-effect c (Dissolve v k y) stack b e = by-form c (Form.Dissolve v k y) b e
  keeps-effect c (Reveal v k) stack b e = by-form c (Form.Reveal v k) b e
  keeps-effect c (CaseOf v is) stack b e = by-form c (Form.Case v []) b e
  keeps-effect c (Wrap y t p) stack b e = as-all _ (KeptBodies.all-wrap name Is Is keeps-it t (excess_over_full c.scope y b) y p b e)
  keeps-effect c (Unwrap p t y) stack b e = by-form c (Form.Unwrap p t y) b e
  keeps-effect c (Insert r t) stack b e = by-form c (Form.Insert r t) b e
  keeps-effect c (Remove r t n) stack b e =
      comes-key Is n _ stack (λ k. as-all _ (KeptBodies.all-finding name Is Is keeps-it (key_at c.scope t) k t _ b e (λ i row. KeptBodies.all-putting name Is Is keeps-it r ok row (change_rows t (without_part i) b) (keeps-it.variables _ b e))))
  keeps-effect c (Get r t n) stack b e =
      comes-key Is n _ stack (λ k. as-all _ (KeptBodies.all-finding name Is Is keeps-it (key_at c.scope t) k t _ b e (λ i row. KeptBodies.all-copying name Is Is keeps-it row (putting r ok) b e (λ d b' e'. KeptBodies.all-putting name Is Is keeps-it r ok d b' e'))))
  keeps-effect c (LoopStart t slot) stack b e =
      as-all _ (KeptBodies.all-there name Is Is keeps-it _ (read_at t b.variables) (λ table. KeptBodies.all-copying_parts name Is Is keeps-it (parts_of table) _ b e (λ rows b' e'. went ok _ (any (record { statement = slot; rows = rows } ∷ b'.loops) b' e'))))
  keeps-effect c (LoopNext r slot i) stack b e = as-all _ (KeptBodies.all-there name Is Is keeps-it _ (rows_for slot b.loops) (λ rows. KeptBodies.all-next_row name Is Is keeps-it any slot r rows b e))
  keeps-effect c (LoopDrop slot) stack b e = KeptBodies.is-leave name Is Is keeps-it fewer (λ l. not (nat_eq l slot)) b e
  keeps-effect c (Connect o i) stack b e = by-form c (Form.Connect o i) b e
  keeps-effect c (Raise x) stack b e = by-form c (Form.Raise x) b e
  keeps-effect c (Drop p) stack b e = KeptBodies.is-drop name Is Is keeps-it (p ∷ []) b e
  keeps-effect c _ stack b e = tt

  -- what an answer leaves
  is-made : (c : ReadyCode) (arguments : List Argument) (inputs : List Value) (b : Frame N) (k : Composed N) → Is b → composed_of name c arguments inputs b ≡ Some k → Is k.frame
  is-made c arguments inputs b k e is =
      KeptBodies.is-from name Is Is keeps-it k
      (KeptBodies.from-compose name Is Is keeps-it (map mode_of arguments) (parts_from inputs) (flat_map (λ p. excess_over_full c.scope p b) (inouts arguments)) (inouts arguments) b k e is)

  by-answer : (c : ReadyCode) (form : Form) (at : ℕ) (a : CellAction N) (b : Frame N) → Opens Is Is → Is b → AllOf Is (Rattle.herm_forms.specs.Acts.settle name c.scope form at a b)
  by-answer c form at a b opens e = as-all (Rattle.herm_forms.specs.Acts.settle name c.scope form at a b) (KeptBodies.all-settle name Is Is keeps-it c.scope form at a b e (λ calls. opens))

  pub keeps-settles : Opens Is Is → (c : ReadyCode) (i : Instruction) (stack : List Value) (at : ℕ) (a : CellAction N) (b : Frame N) → Is b → AllOf Is (code_settles name c i stack at a b).completion
  keeps-settles opens c (New x t) stack at a b e = by-answer c (Form.New x) at a b opens e
  keeps-settles opens c (Send x o trim) stack at a b e = as-all _ (KeptBodies.all-send name Is Is keeps-it trim x a b e)
  keeps-settles opens c (Receive x i) stack at a b e = by-answer c (Form.Receive x i) at a b opens e
  keeps-settles opens c (Select choices) stack at a b e = as-all _ (KeptBodies.all-select name Is Is keeps-it (targets_of_choices choices) (ports_of_choices choices) at a b e)
  keeps-settles opens c (Call o arguments keep) stack at a b e =
      comes-popped Is _ (pop (count_inputs arguments) stack) (λ p. as-all _ (KeptBodies.all-call name Is Is keeps-it opens (composed_of name c arguments p.values b) (outs arguments) a (λ k. is-made c arguments p.values b k e)))
  keeps-settles opens c (Return m) stack at a b e = by-answer c (Form.Return m) at a b opens e
  keeps-settles opens c (ReturnBy m x kept) stack at a b e = as-all _ (KeptBodies.all-return name Is Is keeps-it (given_back c.scope (kept_parameters c m kept) b) m a (λ t. KeptBodies.is-given name Is Is keeps-it c.scope (kept_parameters c m kept) b t e))
  keeps-settles opens c (Create o n) stack at a b e = by-answer c (Form.Create o n) at a b opens e
  keeps-settles opens c _ stack at a b e = tt

  pub keeps-hears : (i : Instruction) (call : ℕ) (a : CellAction N) (b : Frame N) → Is (record b { call = None }) → AllOf Is (code_hears i call a b)
  keeps-hears (Call o arguments keep) call a b e = as-all _ (KeptBodies.all-hear_call name Is Is keeps-it (returned arguments) (outs arguments) (kept_paths arguments keep) (left_paths arguments keep) call a b e)
  keeps-hears _ call a b e = tt
