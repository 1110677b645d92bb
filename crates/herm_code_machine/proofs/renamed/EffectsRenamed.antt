-- Changing the names of cells commutes with what an instruction does, wants and leaves.
use Rattle.std.proofs.Common.{◌≡◌, ℕ, List, [], ◌∷◌, map, flat_map, Option, Some, None, option_map, option_and_then, refl, ap, ◌∙◌, not}
use Rattle.std.specs.Prelude.{slice_get, nat_eq}
use Rattle.herm_model.specs.Paths.{Path}
use Rattle.herm_model.specs.Outcomes.{ok}
use Rattle.herm_model.specs.Expressions.{Atom, Expression}
use Rattle.herm_model.specs.Statements.{Form}
use Rattle.herm_model.specs.Values.{Scalar, Parts, parts_of, read_at, Value}
use Rattle.herm_model.specs.CellNames.{rename_in}
use Rattle.herm_journal.specs.Actions
use Rattle.herm_journal.specs.Messages.{CellAction}
use Rattle.herm_journal.specs.Renaming.{rename_want, rename_action}
use Rattle.herm_forms.specs.Acts
use Rattle.herm_forms.specs.Acts.{key_at, given_back, given_at, new_value}
use Rattle.herm_forms.specs.Callmessages as callmessages
use Rattle.herm_forms.specs.ReturnForms
use Rattle.herm_forms.specs.Callmessages.{Composed, compose}
use Rattle.herm_forms.specs.Evaluate.{Evaluated, gives, raises, no_value, scalar_then, two_then, operate, value_there, rows_there}
use Rattle.herm_forms.specs.Excess.{excess_over_full}
use Rattle.herm_forms.specs.Forms
use Rattle.herm_forms.specs.RemoveAndGet
use Rattle.herm_forms.specs.LoopForms.{next_row, rows_for}
use Rattle.herm_forms.specs.Frames.{Name, Frame, Completion, goes, if_there, copying_parts}
use Rattle.herm_forms.specs.Renaming.{rename_body}
use Rattle.herm_forms.proofs.renamed.RenamedBodies.{rename_result, drop_at-renamed, if_there-renamed, reading-renamed, copying_parts-renamed}
use Rattle.herm_forms.proofs.renamed.RenamedForms.{evaluate-renamed, atom_value-renamed, leave_loops-renamed, next_row-renamed, rows_for-renamed, parts_of-renamed, tested-renamed, assign-renamed, new_value-renamed, wrap-renamed, remove-renamed, get-renamed}
use Rattle.herm_forms.proofs.renamed.RenamedActions.{rename_composed, send_wants-renamed, select_wants-renamed, call_wants-renamed, return_wants-renamed, send-renamed, select-renamed, hear_call-renamed, call-renamed, return-renamed, compose-renamed}
use Rattle.herm_forms.proofs.renamed.RenamedActs.{again, act-renamed, wants-renamed, settle-renamed, beyond_full-renamed, beyond_each-renamed, given_back-renamed}
use Rattle.herm_instructions.specs.Instructions.{Argument, Instruction, Const, Load, Size, Apply, Combine, Store, Jump, JumpFalse, Move, New, Discard, Unite, Dissolve, Reveal, CaseOf, Wrap, Unwrap, Insert, Remove, Get, LoopStart, LoopNext, LoopDrop, Connect, Send, Receive, Select, Call, Return, ReturnBy, Create, Raise, Drop}
use Rattle.herm_code_machine.specs.ReadyCode.{ReadyCode}
use Rattle.herm_code_machine.specs.Stacks.{Effect, leaving, pushing, with_top, with_two, Popped, pop, scalars_of, parts_from, with_popped, with_key_of, with_key}
use Rattle.herm_code_machine.specs.Effects.{constant_value, applied, start_loop, next_of_loop, effect}
use Rattle.herm_instructions.specs.Operands.{count_inputs}
use Rattle.herm_code_machine.specs.CodeActions.{mode_of, inouts, outs, returned, kept_paths, left_paths, composed_of, called, kept_parameters, ports_of_choices, targets_of_choices, code_wants, code_settles, code_hears}

module _ {N M : Type 0} (f : N → M) (name : Name → N) where
  abbrev pub rename_effect : Effect N → Effect M
  rename_effect e = record { stack = e.stack; completion = rename_result f e.completion }

  leaving-renamed : (stack : List Value) (r : Completion N) (r' : Completion M) → r' ≡ rename_result f r → leaving stack r' ≡ rename_effect (leaving stack r)
  leaving-renamed stack r r' e = ap (leaving stack) e

  pushing-renamed : (v : Evaluated) (stack : List Value) (b : Frame N) → pushing v stack (rename_body f b) ≡ rename_effect (pushing v stack b)
  pushing-renamed (gives v) stack b = refl
  pushing-renamed (raises x) stack b = refl
  pushing-renamed no_value stack b = refl

  pushing-same : (v v' : Evaluated) (stack : List Value) (b : Frame N) → v' ≡ v → pushing v' stack (rename_body f b) ≡ rename_effect (pushing v stack b)
  pushing-same v v' stack b e = ap (λ v. pushing v stack (rename_body f b)) e ∙ pushing-renamed v stack b

  top-renamed : (next : Value → List Value → Effect N) (next' : Value → List Value → Effect M) → ((v : Value) (rest : List Value) → next' v rest ≡ rename_effect (next v rest)) → (stack : List Value) → with_top next' stack ≡ rename_effect (with_top next stack)
  top-renamed next next' e [] = refl
  top-renamed next next' e (v ∷ rest) = e v rest

  two-renamed : (next : Value → Value → List Value → Effect N) (next' : Value → Value → List Value → Effect M) → ((left right : Value) (rest : List Value) → next' left right rest ≡ rename_effect (next left right rest)) → (stack : List Value)
      → with_two next' stack ≡ rename_effect (with_two next stack)
  two-renamed next next' e stack =
      top-renamed (λ right rest. with_top (λ left rest. next left right rest) rest) (λ right rest. with_top (λ left rest. next' left right rest) rest)
      (λ right rest. top-renamed (λ left rest. next left right rest) (λ left rest. next' left right rest) (λ left rest'. e left right rest') rest) stack

  popped-renamed : (next : Popped → Effect N) (next' : Popped → Effect M) → ((p : Popped) → next' p ≡ rename_effect (next p)) → (o : Option Popped) → with_popped next' o ≡ rename_effect (with_popped next o)
  popped-renamed next next' e None = refl
  popped-renamed next next' e (Some p) = e p

  key_of-renamed : (next : List Scalar → Completion N) (next' : List Scalar → Completion M) → ((k : List Scalar) → next' k ≡ rename_result f (next k)) → (rest : List Value) (o : Option (List Scalar)) → with_key_of next' rest o ≡ rename_effect (with_key_of next rest o)
  key_of-renamed next next' e rest None = refl
  key_of-renamed next next' e rest (Some k) = ap (leaving rest) (e k)

  key-renamed : (n : ℕ) (next : List Scalar → Completion N) (next' : List Scalar → Completion M) → ((k : List Scalar) → next' k ≡ rename_result f (next k)) → (stack : List Value) → with_key n next' stack ≡ rename_effect (with_key n next stack)
  key-renamed n next next' e stack = popped-renamed (λ p. with_key_of next p.rest (scalars_of p.values)) (λ p. with_key_of next' p.rest (scalars_of p.values)) (λ p. key_of-renamed next next' e p.rest (scalars_of p.values)) (pop n stack)

  by-form : (c : ReadyCode) (form : Form) (stack : List Value) (b : Frame N) → leaving stack (Acts.act (again f name) c.scope 0 form (rename_body f b)) ≡ rename_effect (leaving stack (Acts.act name c.scope 0 form b))
  by-form c form stack b = ap (leaving stack) (act-renamed f name c.scope 0 form b)

  start_loop-renamed : (slot : ℕ) (t : Path) (b : Frame N) → start_loop (again f name) slot t (rename_body f b) ≡ rename_result f (start_loop name slot t b)
  start_loop-renamed slot t b =
      let next = λ (rows : Parts N) (b : Frame N). goes ok (record b { loops = record { statement = slot; rows = rows } ∷ b.loops }) in
      let next' = λ (rows : Parts M) (b : Frame M). goes ok (record b { loops = record { statement = slot; rows = rows } ∷ b.loops }) in
      reading-renamed f t (λ table. copying_parts name (parts_of table) next b) (λ table. copying_parts (again f name) (parts_of table) next' (rename_body f b))
      (λ table. ap (λ ps. copying_parts (again f name) ps next' (rename_body f b)) (parts_of-renamed f table) ∙ copying_parts-renamed f name (parts_of table) next next' (λ rows b. refl) b) b

  next_of_loop-renamed : (slot : ℕ) (r : Path) (b : Frame N) → next_of_loop slot r (rename_body f b) ≡ rename_result f (next_of_loop slot r b)
  next_of_loop-renamed slot r b =
      ap (if_there (λ (rows : Parts M). next_row slot r rows (rename_body f b))) (rows_for-renamed f slot b.loops)
      ∙ if_there-renamed f (rename_in f) (λ (rows : Parts N). next_row slot r rows b) (λ (rows : Parts M). next_row slot r rows (rename_body f b)) (λ rows. next_row-renamed f slot r rows b) (rows_for slot b.loops)

  pub effect-renamed : (c : ReadyCode) (i : Instruction) (stack : List Value) (b : Frame N) → effect (again f name) c i stack (rename_body f b) ≡ rename_effect (effect name c i stack b)
  effect-renamed c (Const k) stack b = pushing-renamed (constant_value (slice_get c.constants k)) stack b
  effect-renamed c (Load p) stack b = pushing-same (value_there (read_at p b.variables)) (value_there (read_at p (rename_in f b.variables))) stack b (atom_value-renamed f b.variables (Atom.path p))
  effect-renamed c (Size p) stack b = pushing-same (rows_there (read_at p b.variables)) (rows_there (read_at p (rename_in f b.variables))) stack b (evaluate-renamed f b.variables (Expression.size_of p))
  effect-renamed c (Apply o) stack b = top-renamed (λ v rest. pushing (scalar_then (applied o) v) rest b) (λ v rest. pushing (scalar_then (applied o) v) rest (rename_body f b)) (λ v rest. pushing-renamed (scalar_then (applied o) v) rest b) stack
  effect-renamed c (Combine o) stack b =
      two-renamed (λ left right rest. pushing (two_then (operate o) (gives left) (gives right)) rest b) (λ left right rest. pushing (two_then (operate o) (gives left) (gives right)) rest (rename_body f b))
      (λ left right rest. pushing-renamed (two_then (operate o) (gives left) (gives right)) rest b) stack
  effect-renamed c (Store x) stack b = top-renamed (λ v rest. leaving rest (Forms.assign name x v b)) (λ v rest. leaving rest (Forms.assign (again f name) x v (rename_body f b))) (λ v rest. ap (leaving rest) (assign-renamed f name x v b)) stack
  effect-renamed c (Jump i) stack b = refl
  effect-renamed c (JumpFalse i) stack b = top-renamed (λ v rest. leaving rest (Forms.tested v b)) (λ v rest. leaving rest (Forms.tested v (rename_body f b))) (λ v rest. ap (leaving rest) (tested-renamed f v b)) stack
  effect-renamed c (Move y x) stack b = by-form c (Form.Move y x) stack b
  effect-renamed c (New x t) stack b = ap (leaving stack) (new_value-renamed f name (slice_get c.scope.types t) x b)
  effect-renamed c (Discard x) stack b = by-form c (Form.Discard x) stack b
  effect-renamed c (Unite v k y) stack b = by-form c (Form.Unite v k y) stack b
  effect-renamed c (Dissolve v k y) stack b = by-form c (Form.Dissolve v k y) stack b
  effect-renamed c (Reveal v k) stack b = by-form c (Form.Reveal v k) stack b
  effect-renamed c (CaseOf v is) stack b = by-form c (Form.Case v []) stack b
  effect-renamed c (Wrap y t p) stack b =
      ap (leaving stack) (ap (λ lost. Forms.wrap (again f name) t lost y p (rename_body f b)) (beyond_full-renamed f name c.scope y b) ∙ wrap-renamed f name t (excess_over_full c.scope y b) y p b)
  effect-renamed c (Unwrap p t y) stack b = by-form c (Form.Unwrap p t y) stack b
  effect-renamed c (Insert r t) stack b = by-form c (Form.Insert r t) stack b
  effect-renamed c (Remove r t n) stack b = key-renamed n (λ k. RemoveAndGet.remove (key_at c.scope t) k r t b) (λ k. RemoveAndGet.remove (key_at c.scope t) k r t (rename_body f b)) (λ k. remove-renamed f (key_at c.scope t) k r t b) stack
  effect-renamed c (Get r t n) stack b = key-renamed n (λ k. RemoveAndGet.get name (key_at c.scope t) k r t b) (λ k. RemoveAndGet.get (again f name) (key_at c.scope t) k r t (rename_body f b)) (λ k. get-renamed f name (key_at c.scope t) k r t b) stack
  effect-renamed c (LoopStart t slot) stack b = ap (leaving stack) (start_loop-renamed slot t b)
  effect-renamed c (LoopNext r slot i) stack b = ap (leaving stack) (next_of_loop-renamed slot r b)
  effect-renamed c (LoopDrop slot) stack b = ap (λ b. leaving stack (goes ok b)) (leave_loops-renamed f (λ l. not (nat_eq l slot)) b)
  effect-renamed c (Connect o i) stack b = by-form c (Form.Connect o i) stack b
  effect-renamed c (Raise x) stack b = by-form c (Form.Raise x) stack b
  effect-renamed c (Drop p) stack b = ap (λ b. leaving stack (goes ok b)) (drop_at-renamed f p b)
  effect-renamed c _ stack b = refl

  -- calls and returns
  composed_of-renamed : (c : ReadyCode) (arguments : List Argument) (inputs : List Value) (b : Frame N) → composed_of (again f name) c arguments inputs (rename_body f b) ≡ option_map (rename_composed f) (composed_of name c arguments inputs b)
  composed_of-renamed c arguments inputs b =
      let moved = inouts arguments in
      ap (λ lost. compose (again f name) (map mode_of arguments) (parts_from inputs) lost moved (rename_body f b)) (beyond_each-renamed f name c.scope moved b)
      ∙ compose-renamed f name (map mode_of arguments) (parts_from inputs) (flat_map (λ p. excess_over_full c.scope p b) moved) moved b

  called_by : (c : ReadyCode) (arguments : List Argument) (b : Frame N) (o : Option Popped)
      → option_and_then (λ (p : Popped). composed_of (again f name) c arguments p.values (rename_body f b)) o ≡ option_map (rename_composed f) (option_and_then (λ (p : Popped). composed_of name c arguments p.values b) o)
  called_by c arguments b None = refl
  called_by c arguments b (Some p) = composed_of-renamed c arguments p.values b

  called-renamed : (c : ReadyCode) (arguments : List Argument) (stack : List Value) (b : Frame N) → called (again f name) c arguments stack (rename_body f b) ≡ option_map (rename_composed f) (called name c arguments stack b)
  called-renamed c arguments stack b = called_by c arguments b (pop (count_inputs arguments) stack)

  pub code_wants-renamed : (c : ReadyCode) (i : Instruction) (stack : List Value) (b : Frame N) → code_wants (again f name) c i stack (rename_body f b) ≡ option_map (rename_want f) (code_wants name c i stack b)
  code_wants-renamed c (New x t) stack b = refl
  code_wants-renamed c (Send x o trim) stack b = send_wants-renamed f trim x o b
  code_wants-renamed c (Receive x i) stack b = wants-renamed f name c.scope (Form.Receive x i) b
  code_wants-renamed c (Select choices) stack b = select_wants-renamed f (ports_of_choices choices) b
  code_wants-renamed c (Call o arguments keep) stack b = ap (λ x. callmessages.call_wants x o (rename_body f b)) (called-renamed c arguments stack b) ∙ call_wants-renamed f (called name c arguments stack b) o b
  code_wants-renamed c (Return m) stack b = wants-renamed f name c.scope (Form.Return m) b
  code_wants-renamed c (ReturnBy m x kept) stack b =
      ap (λ t. ReturnForms.return_wants (Actions.raised x) t m (rename_body f b)) (given_back-renamed f name c.scope (kept_parameters c m kept) b)
      ∙ return_wants-renamed f (Actions.raised x) (Actions.raised x) (λ cs. refl) (given_back c.scope (kept_parameters c m kept) b) m b
  code_wants-renamed c (Create o n) stack b = refl
  code_wants-renamed c _ stack b = refl

  by-answer : (c : ReadyCode) (form : Form) (stack : List Value) (at : ℕ) (action : CellAction N) (b : Frame N)
      → leaving stack (Acts.settle (again f name) c.scope form at (rename_action f action) (rename_body f b)) ≡ rename_effect (leaving stack (Acts.settle name c.scope form at action b))
  by-answer c form stack at action b = ap (leaving stack) (settle-renamed f name c.scope form at action b)

  pub code_settles-renamed : (c : ReadyCode) (i : Instruction) (stack : List Value) (at : ℕ) (action : CellAction N) (b : Frame N)
      → code_settles (again f name) c i stack at (rename_action f action) (rename_body f b) ≡ rename_effect (code_settles name c i stack at action b)
  code_settles-renamed c (New x t) stack at action b = by-answer c (Form.New x) stack at action b
  code_settles-renamed c (Send x o trim) stack at action b = ap (leaving stack) (send-renamed f trim x action b)
  code_settles-renamed c (Receive x i) stack at action b = by-answer c (Form.Receive x i) stack at action b
  code_settles-renamed c (Select choices) stack at action b = ap (leaving stack) (select-renamed f (targets_of_choices choices) (ports_of_choices choices) at action b)
  code_settles-renamed c (Call o arguments keep) stack at action b =
      popped-renamed (λ (p : Popped). leaving p.rest (callmessages.call (composed_of name c arguments p.values b) (outs arguments) action))
      (λ (p : Popped). leaving p.rest (callmessages.call (composed_of (again f name) c arguments p.values (rename_body f b)) (outs arguments) (rename_action f action)))
      (λ p. ap (leaving p.rest) (ap (λ x. callmessages.call x (outs arguments) (rename_action f action)) (composed_of-renamed c arguments p.values b) ∙ call-renamed f (composed_of name c arguments p.values b) (outs arguments) action)) (pop (count_inputs arguments) stack)
  code_settles-renamed c (Return m) stack at action b = by-answer c (Form.Return m) stack at action b
  code_settles-renamed c (ReturnBy m x kept) stack at action b =
      ap (leaving stack) (ap (λ t. ReturnForms.return t m (rename_action f action)) (given_back-renamed f name c.scope (kept_parameters c m kept) b) ∙ return-renamed f (given_back c.scope (kept_parameters c m kept) b) m action)
  code_settles-renamed c (Create o n) stack at action b = by-answer c (Form.Create o n) stack at action b
  code_settles-renamed c _ stack at action b = refl

  pub code_hears-renamed : (i : Instruction) (call : ℕ) (action : CellAction N) (b : Frame N) → code_hears i call (rename_action f action) (rename_body f b) ≡ rename_result f (code_hears i call action b)
  code_hears-renamed (Call o arguments keep) call action b = hear_call-renamed f (returned arguments) (outs arguments) (kept_paths arguments keep) (left_paths arguments keep) call action b
  code_hears-renamed _ call action b = refl
