-- An instruction, and the answer to an action, keep of which kinds cells and stacked values are; and what is wanted is of them.
use Rattle.std.proofs.Common.{ℕ, zero, suc, List, [], ◌∷◌, Option, Some, None, option_and_then, not}
use Rattle.std.specs.Prelude.{nat_eq, flat_map, map, slice_get, pos, neg_ℤ, length}
use Rattle.herm_model.specs.Outcomes.{ok}
use Rattle.herm_model.specs.Expressions.{Literal, Expression, Atom}
use Rattle.herm_model.specs.Statements.{Form}
use Rattle.herm_model.specs.Tables.{without_part}
use Rattle.herm_model.specs.ValueTexts.{signed_numeral}
use Rattle.herm_model.specs.Values.{Scalar, an_integer, a_text, a_boolean, Kind, Cell, Parts, parts_of, cell_at, read_at, Value}
use Rattle.herm_journal.specs.Actions.{values}
use Rattle.herm_journal.specs.Actions
use Rattle.herm_journal.specs.Kinds.{HasKinds, HaveKinds, AllKinds, IfWant, ActionKinds}
use Rattle.herm_journal.specs.Messages.{CellAction}
use Rattle.herm_forms.specs.Acts
use Rattle.herm_forms.specs.Acts.{key_at, given_back, given_at}
use Rattle.herm_forms.specs.ReturnForms.{caller_of}
use Rattle.herm_forms.specs.Evaluate.{Evaluated, gives, raises, no_value, scalar_then, two_then, operate, value_there, rows_there}
use Rattle.herm_forms.specs.Exchanges.{outport_at, inport_at, ports_at}
use Rattle.herm_forms.specs.Excess.{excess_over_full}
use Rattle.herm_forms.specs.InsertForm.{change_rows}
use Rattle.herm_forms.specs.LoopForms.{rows_for}
use Rattle.herm_forms.specs.Frames.{Name, Frame, Completion, goes, stays, stuck, drop, putting}
use Rattle.herm_forms.proofs.known.HeldKinds.{cell-kinds, read-kinds, parts-kinds, without-kinds}
use Rattle.herm_forms.proofs.known.KindsKept.{AllowsPlain, IfParts, Gives, GivesKinds, BodyKinds, All, went, stayed, never, scalar-kinds, scalar-then, two-then, boolean-then, integer-then, text-then, within-bits, operated, evaluate-kinds_from, atom-kinds, is-drop, is-leave, is-rows, all-there, all-cell, all-putting, all-copying, all-copying_parts, all-new_value, all-wrap, all-finding, all-next_row, all-tested, rows-for}
use Rattle.herm_forms.proofs.known.KindsKept
use Rattle.herm_forms.proofs.known.KindsExchanged
use Rattle.herm_forms.proofs.known.KindsExchanged.{IfTaken, IfComposed, compose-kinds, given-kinds, outport-path, inport-path, send-wants, call-wants, select-wants, ports-kinds, return-wants, caller-cell, wants-kinds, all-send, all-select, all-call, all-return, all-hear_call}
use Rattle.herm_instructions.specs.Instructions.{UnaryOperator, negative, complement, as_text, text_length, Argument, Instruction, Const, Load, Size, Apply, Combine, Store, Jump, JumpFalse, Move, New, Discard, Unite, Dissolve, Reveal, CaseOf, Wrap, Unwrap, Insert, Remove, Get, LoopStart, LoopNext, LoopDrop, Connect, Send, Receive, Select, Call, Return, ReturnBy, Create, Raise, Drop}
use Rattle.herm_code_machine.specs.ReadyCode.{ReadyCode}
use Rattle.herm_code_machine.specs.Stacks.{Effect, pushing, with_top, with_two, Popped, pop_onto, pop, scalars_of, parts_from, with_popped, with_key_of, with_key}
use Rattle.herm_code_machine.specs.Effects.{constant_value, applied, effect}
use Rattle.herm_instructions.specs.Operands.{count_inputs}
use Rattle.herm_code_machine.specs.CodeActions.{mode_of, inouts, outs, returned, kept_paths, left_paths, composed_of, called, kept_parameters, ports_of_choices, targets_of_choices, code_wants, code_settles, code_hears}
use Rattle.herm_code_machine.proofs.RunsKeep.{AllOf}

-- the stack is of the kinds, and the completion's frame
abbrev pub EffectKinds : {N : Type 0} → (Kind → Type 0) → Effect N → Type 0
EffectKinds of e = AllKinds of e.stack × AllOf (BodyKinds of) e.completion

abbrev pub IfPopped : (Kind → Type 0) → Option Popped → Type 0
IfPopped of None = Unit {0}
IfPopped of (Some p) = AllKinds of p.values × AllKinds of p.rest

module _ (of : Kind → Type 0) where
  onto-kinds : (n : ℕ) (taken stack : List Value) → AllKinds of taken → AllKinds of stack → IfPopped of (pop_onto n taken stack)
  onto-kinds zero taken stack h k = (h, k)
  onto-kinds (suc n) taken [] h k = tt
  onto-kinds (suc n) taken (v ∷ stack) h k = onto-kinds n (v ∷ taken) stack (k.0, h) k.1

  pub pop-kinds : (n : ℕ) (stack : List Value) → AllKinds of stack → IfPopped of (pop n stack)
  pop-kinds n stack h = onto-kinds n [] stack tt h

  pub from-kinds : (vs : List Value) → AllKinds of vs → HaveKinds of (parts_from vs)
  from-kinds [] h = tt
  from-kinds (v ∷ vs) h = (h.0, from-kinds vs h.1)

module _ {N : Type 0} (name : Name → N) (of : Kind → Type 0) (allows : AllowsPlain of) where
  as-all : (r : Completion N) → All name of allows r → AllOf (BodyKinds of) r
  as-all r (went o b e) = e
  as-all r (stayed b e) = e
  as-all r never = tt

  pushing-kinds : (v : Evaluated) (stack : List Value) (b : Frame N) → GivesKinds of v → AllKinds of stack → BodyKinds of b → EffectKinds of (pushing v stack b)
  pushing-kinds (gives v) stack b h k e = ((h, k), e)
  pushing-kinds (raises x) stack b h k e = (tt, e)
  pushing-kinds no_value stack b h k e = (tt, tt)

  pub constant-kinds : (o : Option Literal) → GivesKinds of (constant_value o)
  constant-kinds None = tt
  constant-kinds (Some l) = scalar-kinds of allows _

  applied-kinds : (o : UnaryOperator) (s : Scalar) → Gives (HasKinds of) (applied o s)
  applied-kinds negative s = integer-then (HasKinds of) (scalar-kinds of allows) _ s (λ z. within-bits (HasKinds of) (scalar-kinds of allows) (neg_ℤ z))
  applied-kinds complement s = boolean-then (HasKinds of) (scalar-kinds of allows) _ s (λ b. scalar-kinds of allows (a_boolean (not b)))
  applied-kinds as_text s = integer-then (HasKinds of) (scalar-kinds of allows) _ s (λ z. scalar-kinds of allows (a_text (signed_numeral z)))
  applied-kinds text_length s = text-then (HasKinds of) (scalar-kinds of allows) _ s (λ t. scalar-kinds of allows (an_integer (pos (length t))))

  top-kinds : (next : Value → List Value → Effect N) (stack : List Value) → AllKinds of stack → ((v : Value) (rest : List Value) → HasKinds of v → AllKinds of rest → EffectKinds of (next v rest)) → EffectKinds of (with_top next stack)
  top-kinds next [] h on = (tt, tt)
  top-kinds next (v ∷ rest) h on = on v rest h.0 h.1

  two-kinds : (next : Value → Value → List Value → Effect N) (stack : List Value) → AllKinds of stack → ((left right : Value) (rest : List Value) → AllKinds of rest → EffectKinds of (next left right rest)) → EffectKinds of (with_two next stack)
  two-kinds next stack h on =
      top-kinds (λ right rest. with_top (λ left rest. next left right rest) rest) stack h
      (λ right rest r k. top-kinds (λ left rest. next left right rest) rest k (λ left rest' l k'. on left right rest' k'))

  popped-kinds : (next : Popped → Effect N) (o : Option Popped) → IfPopped of o → ((p : Popped) → AllKinds of p.values → AllKinds of p.rest → EffectKinds of (next p)) → EffectKinds of (with_popped next o)
  popped-kinds next None h on = (tt, tt)
  popped-kinds next (Some p) h on = on p h.0 h.1

  key-of-kinds : (next : List Scalar → Completion N) (rest : List Value) (o : Option (List Scalar)) → AllKinds of rest → ((k : List Scalar) → AllOf (BodyKinds of) (next k)) → EffectKinds of (with_key_of next rest o)
  key-of-kinds next rest None h on = (tt, tt)
  key-of-kinds next rest (Some k) h on = (h, on k)

  key-kinds : (n : ℕ) (next : List Scalar → Completion N) (stack : List Value) → AllKinds of stack → ((k : List Scalar) → AllOf (BodyKinds of) (next k)) → EffectKinds of (with_key n next stack)
  key-kinds n next stack h on = popped-kinds (λ p. with_key_of next p.rest (scalars_of p.values)) (pop n stack) (pop-kinds of n stack h) (λ p v r. key-of-kinds next p.rest (scalars_of p.values) r on)

  by-form : (c : ReadyCode) (form : Form) (b : Frame N) → BodyKinds of b → AllOf (BodyKinds of) (Acts.act name c.scope 0 form b)
  by-form c form b e = as-all (Acts.act name c.scope 0 form b) (KindsKept.all-act name of allows c.scope 0 form b e)

  all-parts : (next : Parts N → Completion N) (o : Option (Parts N)) → IfParts of o → ((ps : Parts N) → HaveKinds of ps → AllOf (BodyKinds of) (next ps)) → AllOf (BodyKinds of) (Rattle.herm_forms.specs.Frames.if_there next o)
  all-parts next None h on = tt
  all-parts next (Some ps) h on = on ps h

  pub effect-kinds : (c : ReadyCode) (i : Instruction) (stack : List Value) (b : Frame N) → AllKinds of stack → BodyKinds of b → EffectKinds of (effect name c i stack b)
  effect-kinds c (Const k) stack b h e = pushing-kinds (constant_value (slice_get c.constants k)) stack b (constant-kinds (slice_get c.constants k)) h e
  effect-kinds c (Load p) stack b h e = pushing-kinds (value_there (read_at p b.variables)) stack b (atom-kinds of allows b.variables (Atom.path p) e.0) h e
  effect-kinds c (Size p) stack b h e = pushing-kinds (rows_there (read_at p b.variables)) stack b (evaluate-kinds_from of allows b.variables (Expression.size_of p) (λ q is. read-kinds of q b.variables e.0)) h e
  effect-kinds c (Apply o) stack b h e = top-kinds _ stack h (λ v rest k r. pushing-kinds (scalar_then (applied o) v) rest b (scalar-then (HasKinds of) (scalar-kinds of allows) (applied o) v (applied-kinds o)) r e)
  effect-kinds c (Combine o) stack b h e =
      two-kinds _ stack h (λ left right rest r. pushing-kinds (two_then (operate o) (gives left) (gives right)) rest b (two-then (HasKinds of) (scalar-kinds of allows) (operate o) (gives left) (gives right) (operated (HasKinds of) (scalar-kinds of allows) o)) r e)
  effect-kinds c (Store x) stack b h e = top-kinds _ stack h (λ v rest k r. (r, as-all _ (all-copying name of allows v (putting x ok) b k e (λ d b' h' e'. all-putting name of allows x ok d b' h' e'))))
  effect-kinds c (Jump i) stack b h e = (h, e)
  effect-kinds c (JumpFalse i) stack b h e = top-kinds _ stack h (λ v rest k r. (r, as-all _ (all-tested name of allows v b e)))
  effect-kinds c (Move y x) stack b h e = (h, by-form c (Form.Move y x) b e)
  effect-kinds c (New x t) stack b h e = (h, as-all _ (all-new_value name of allows (slice_get c.scope.types t) x b e))
  effect-kinds c (Discard x) stack b h e = (h, by-form c (Form.Discard x) b e)
  effect-kinds c (Unite v k y) stack b h e = (h, by-form c (Form.Unite v k y) b e)
  effect-kinds c (Dissolve v k y) stack b h e = (h, by-form c (Form.Dissolve v k y) b e)
  effect-kinds c (Reveal v k) stack b h e = (h, by-form c (Form.Reveal v k) b e)
  effect-kinds c (CaseOf v is) stack b h e = (h, by-form c (Form.Case v []) b e)
  effect-kinds c (Wrap y t p) stack b h e = (h, as-all _ (all-wrap name of allows t (excess_over_full c.scope y b) y p b e))
  effect-kinds c (Unwrap p t y) stack b h e = (h, by-form c (Form.Unwrap p t y) b e)
  effect-kinds c (Insert r t) stack b h e = (h, by-form c (Form.Insert r t) b e)
  effect-kinds c (Remove r t n) stack b h e =
      key-kinds n _ stack h (λ k. as-all _ (all-finding name of allows (key_at c.scope t) k t _ b e (λ i row g. all-putting name of allows r ok row (change_rows t (without_part i) b) g (is-rows name of allows t (without_part i) b (λ ps. without-kinds of i ps) e))))
  effect-kinds c (Get r t n) stack b h e =
      key-kinds n _ stack h (λ k. as-all _ (all-finding name of allows (key_at c.scope t) k t _ b e (λ i row g. all-copying name of allows row (putting r ok) b g e (λ d b' h' e'. all-putting name of allows r ok d b' h' e'))))
  effect-kinds c (LoopStart t slot) stack b h e = (
    h,
    as-all _ (all-cell name of allows _ (read_at t b.variables) (read-kinds of t b.variables e.0) (λ table g. all-copying_parts name of allows (parts_of table) _ b (parts-kinds of table g) e
        (λ rows b' h' e'. went ok (record b' { loops = record { statement = slot; rows = rows } ∷ b'.loops }) (e'.0, (h', e'.1), e'.2, e'.3)))),
  )
  effect-kinds c (LoopNext r slot i) stack b h e = (h, all-parts _ (rows_for slot b.loops) (rows-for name of allows slot b.loops e.1) (λ rows g. as-all _ (all-next_row name of allows slot r rows b g e)))
  effect-kinds c (LoopDrop slot) stack b h e = (h, is-leave name of allows (λ l. not (nat_eq l slot)) b e)
  effect-kinds c (Connect o i) stack b h e = (h, by-form c (Form.Connect o i) b e)
  effect-kinds c (Raise x) stack b h e = (h, by-form c (Form.Raise x) b e)
  effect-kinds c (Drop p) stack b h e = (h, is-drop name of allows (p ∷ []) b e)
  effect-kinds c _ stack b h e = (tt, tt)

  -- the callmessage of a call
  made-kinds : (c : ReadyCode) (arguments : List Argument) (inputs : List Value) (b : Frame N) → AllKinds of inputs → BodyKinds of b → IfComposed name of allows (composed_of name c arguments inputs b)
  made-kinds c arguments inputs b h e = compose-kinds name of allows (map mode_of arguments) (parts_from inputs) (flat_map (λ p. excess_over_full c.scope p b) (inouts arguments)) (inouts arguments) b (from-kinds of inputs h) e

  called-kinds : (c : ReadyCode) (arguments : List Argument) (o : Option Popped) (b : Frame N) → IfPopped of o → BodyKinds of b → IfComposed name of allows (option_and_then (λ (p : Popped). composed_of name c arguments p.values b) o)
  called-kinds c arguments None b h e = tt
  called-kinds c arguments (Some p) b h e = made-kinds c arguments p.values b h.0 e

  -- what an action wants
  pub code-wants-kinds : (c : ReadyCode) (i : Instruction) (stack : List Value) (b : Frame N) → AllKinds of stack → BodyKinds of b → IfWant of (code_wants name c i stack b)
  code-wants-kinds c (New x t) stack b h e = tt
  code-wants-kinds c (Send x o trim) stack b h e = send-wants name of allows (outport_at o b) (cell_at x (drop trim b).variables) (outport-path name of allows o b e) (cell-kinds of x (drop trim b).variables (is-drop name of allows trim b e).0)
  code-wants-kinds c (Receive x i) stack b h e = wants-kinds name of allows c.scope (Form.Receive x i) b e
  code-wants-kinds c (Select choices) stack b h e = select-wants name of allows (ports_at (ports_of_choices choices) b) (ports-kinds name of allows (ports_of_choices choices) b e)
  code-wants-kinds c (Call o arguments keep) stack b h e =
      call-wants name of allows (outport_at o b) (called name c arguments stack b) (outport-path name of allows o b e) (called-kinds c arguments (pop (count_inputs arguments) stack) b (pop-kinds of (count_inputs arguments) stack h) e)
  code-wants-kinds c (Return m) stack b h e = wants-kinds name of allows c.scope (Form.Return m) b e
  code-wants-kinds c (ReturnBy m x kept) stack b h e =
      return-wants name of allows (Actions.raised x) (option_and_then caller_of (cell_at m b.variables)) (given_back c.scope (kept_parameters c m kept) b) (λ cs h. h) (caller-cell name of allows (cell_at m b.variables) (cell-kinds of m b.variables e.0)) (given-kinds name of allows c.scope (kept_parameters c m kept) b e)
  code-wants-kinds c (Create o n) stack b h e = tt
  code-wants-kinds c i stack b h e = tt

  -- what its answer leaves
  by-answer : (c : ReadyCode) (form : Form) (at : ℕ) (a : CellAction N) (b : Frame N) → ActionKinds of a → BodyKinds of b → AllOf (BodyKinds of) (Acts.settle name c.scope form at a b)
  by-answer c form at a b g e = as-all (Acts.settle name c.scope form at a b) (KindsExchanged.all-settle name of allows c.scope form at a b g e)

  pub settles-kinds : (c : ReadyCode) (i : Instruction) (stack : List Value) (at : ℕ) (a : CellAction N) (b : Frame N) → AllKinds of stack → ActionKinds of a → BodyKinds of b → EffectKinds of (code_settles name c i stack at a b)
  settles-kinds c (New x t) stack at a b h g e = (h, by-answer c (Form.New x) at a b g e)
  settles-kinds c (Send x o trim) stack at a b h g e = (h, as-all _ (all-send name of allows trim x a b g e))
  settles-kinds c (Receive x i) stack at a b h g e = (h, by-answer c (Form.Receive x i) at a b g e)
  settles-kinds c (Select choices) stack at a b h g e = (h, as-all _ (all-select name of allows (targets_of_choices choices) (ports_of_choices choices) at a b g e))
  settles-kinds c (Call o arguments keep) stack at a b h g e =
      popped-kinds _ (pop (count_inputs arguments) stack) (pop-kinds of (count_inputs arguments) stack h) (λ p v r. (r, as-all _ (all-call name of allows (composed_of name c arguments p.values b) (outs arguments) a (made-kinds c arguments p.values b v e) g)))
  settles-kinds c (Return m) stack at a b h g e = (h, by-answer c (Form.Return m) at a b g e)
  settles-kinds c (ReturnBy m x kept) stack at a b h g e = (h, as-all _ (all-return name of allows (given_back c.scope (kept_parameters c m kept) b) m a (given-kinds name of allows c.scope (kept_parameters c m kept) b e)))
  settles-kinds c (Create o n) stack at a b h g e = (h, by-answer c (Form.Create o n) at a b g e)
  settles-kinds c _ stack at a b h g e = (tt, tt)

  pub hears-kinds : (i : Instruction) (call : ℕ) (a : CellAction N) (b : Frame N) → ActionKinds of a → BodyKinds of b → AllOf (BodyKinds of) (code_hears i call a b)
  hears-kinds (Call o arguments keep) call a b g e = as-all _ (all-hear_call name of allows (returned arguments) (outs arguments) (kept_paths arguments keep) (left_paths arguments keep) call a b g e)
  hears-kinds _ call a b g e = tt

  pub work-kinds : (item : Cell N) (a : CellAction N) (b : Frame N) → HasKinds of item → ActionKinds of a → BodyKinds of b → AllOf (BodyKinds of) (Rattle.herm_forms.specs.ClosesAndAnswers.work_done item a b)
  work-kinds item a b h g e = as-all _ (KindsExchanged.all-work name of allows item a b h g e)
