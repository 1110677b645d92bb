-- Changing the names of cells commutes with what a statement does, wants and leaves.
use Rattle.std.proofs.Common.{◌≡◌, ℕ, List, [], ◌∷◌, map, flat_map, Option, Some, None, option_map, refl, ap, ap₂, ◌∙◌}
use Rattle.std.specs.Prelude.{pred, find, option_and_then, ⊤}
use Rattle.herm_model.specs.Paths.{Path}
use Rattle.herm_model.specs.Types.{Parameter, type_at}
use Rattle.herm_model.specs.Facts.{full_facts, declared_facts}
use Rattle.herm_model.specs.Lists.{list_of}
use Rattle.herm_model.specs.Expressions.{Atom}
use Rattle.herm_model.specs.Statements.{Form, Assign, Move, New, Discard, Unite, Dissolve, Reveal, Case, Wrap, Unwrap, Insert, Remove, Get, For, Connect, Send, Receive, Select, Call, Return, ReturnBy, Create, If, While, Raise, Leave, Arm}
use Rattle.herm_model.specs.Calls
use Rattle.herm_model.specs.Calls.{shape_at, call_parameters}
use Rattle.herm_model.specs.FactsOfStatements.{set_by_call}
use Rattle.herm_model.specs.Values.{Parts}
use Rattle.herm_model.specs.CellNames.{rename_in}
use Rattle.herm_forms.specs.Evaluate.{evaluate, key_values}
use Rattle.herm_journal.specs.Actions.{values, raised}
use Rattle.herm_forms.specs.Frames.{Name, Frame, Completion, if_there}
use Rattle.herm_forms.specs.Forms
use Rattle.herm_forms.specs.InsertForm
use Rattle.herm_forms.specs.RemoveAndGet
use Rattle.herm_forms.specs.Exchanges
use Rattle.herm_forms.specs.Callmessages as callmessages
use Rattle.herm_forms.specs.ReturnForms
use Rattle.herm_journal.specs.Messages.{CellAction}
use Rattle.herm_forms.specs.Callmessages.{Composed, compose}
use Rattle.herm_forms.specs.Excess.{excess_over_full, excess_over_declared}
use Rattle.herm_forms.specs.Modules.{Module}
use Rattle.herm_forms.specs.Acts.{key_at, act, arguments_at, is_inout, is_out, input_of, inputs_of, composed, kept_at, left_at, given_back, given_at, given_by, wants, settle, settle_reply}
use Rattle.herm_forms.specs.Renaming.{rename_body}
use Rattle.herm_journal.specs.Renaming.{rename_action, rename_want}
use Rattle.herm_forms.proofs.renamed.RenamedBodies.{rename_result, rename_taken}
use Rattle.herm_forms.proofs.renamed.RenamedForms
use Rattle.herm_forms.proofs.renamed.RenamedForms.{evaluate-renamed, atom_value-renamed, key_values-renamed, arrive-renamed, beyond-renamed, with_value-renamed, new_value-renamed}
use Rattle.herm_forms.proofs.renamed.RenamedActions.{rename_composed, send_wants-renamed, receive_wants-renamed, select_wants-renamed, call_wants-renamed, return_wants-renamed, send-renamed, receive-renamed, select-renamed, hear_call-renamed, call-renamed, give_back-renamed, return-renamed, new_inport-renamed, create-renamed, compose-renamed}

module _ {N M : Type 0} (f : N → M) (name : Name → N) where
  abbrev pub again : Name → M
  again n = f (name n)

  pub beyond_full-renamed : (c : Module) (x : Path) (b : Frame N) → excess_over_full c x (rename_body f b) ≡ excess_over_full c x b
  beyond_full-renamed c x b = beyond-renamed f c.types (type_at c.types c.variables x) (list_of (λ t. full_facts c.types t (0 ∷ [])) (type_at c.types c.variables x)) x b

  beyond_declared-renamed : (c : Module) (o x : Path) (b : Frame N) → excess_over_declared c o x (rename_body f b) ≡ excess_over_declared c o x b
  beyond_declared-renamed c o x b = beyond-renamed f c.types (type_at c.types c.variables x) (list_of (λ t. declared_facts c.types t (0 ∷ [])) (Calls.inport_at c.types c.variables o)) x b

  pub beyond_each-renamed : (c : Module) (paths : List Path) (b : Frame N) → flat_map (λ p. excess_over_full c p (rename_body f b)) paths ≡ flat_map (λ p. excess_over_full c p b) paths
  beyond_each-renamed c [] b = refl
  beyond_each-renamed c (p ∷ paths) b = ap₂ (Rattle.std.specs.Prelude.◌++◌) (beyond_full-renamed c p b) (beyond_each-renamed c paths b)

  there-renamed : {X : Type 0} (next : X → Completion N) (next' : X → Completion M) → ((x : X) → next' x ≡ rename_result f (next x)) → (o : Option X) → if_there next' o ≡ rename_result f (if_there next o)
  there-renamed next next' e None = refl
  there-renamed next next' e (Some x) = e x

  -- on with something that names make no difference to
  same-renamed : {X : Type 0} (next : X → Completion N) (next' : X → Completion M) → ((x : X) → next' x ≡ rename_result f (next x)) → (o o' : Option X) → o' ≡ o → if_there next' o' ≡ rename_result f (if_there next o)
  same-renamed next next' e o o' is = ap (if_there next') is ∙ there-renamed next next' e o

  tests-renamed : (e : Rattle.herm_model.specs.Expressions.Expression) (b : Frame N)
      → Forms.with_value Forms.tested (evaluate (rename_body f b).variables e) (rename_body f b) ≡ rename_result f (Forms.with_value Forms.tested (evaluate b.variables e) b)
  tests-renamed e b =
      ap (λ v. Forms.with_value Forms.tested v (rename_body f b)) (evaluate-renamed f b.variables e)
      ∙ with_value-renamed f Forms.tested Forms.tested (RenamedForms.tested-renamed f) (evaluate b.variables e) b

  pub act-renamed : (c : Module) (s : ℕ) (form : Form) (b : Frame N) → act again c s form (rename_body f b) ≡ rename_result f (act name c s form b)
  act-renamed c s (Assign x e) b =
      ap (λ v. Forms.with_value (Forms.assign again x) v (rename_body f b)) (evaluate-renamed f b.variables e)
      ∙ with_value-renamed f (Forms.assign name x) (Forms.assign again x) (RenamedForms.assign-renamed f name x) (evaluate b.variables e) b
  act-renamed c s (Move y x) b = ap (λ lost. Forms.move lost y x (rename_body f b)) (beyond_full-renamed c y b) ∙ RenamedForms.move-renamed f (excess_over_full c y b) y x b
  act-renamed c s (New x) b = new_value-renamed f name (shape_at c.types c.variables x) x b
  act-renamed c s (Discard x) b = RenamedForms.discard-renamed f x b
  act-renamed c s (Unite v i y) b = ap (λ lost. Forms.unite again i lost y v (rename_body f b)) (beyond_full-renamed c y b) ∙ RenamedForms.unite-renamed f name i (excess_over_full c y b) y v b
  act-renamed c s (Dissolve v i y) b = RenamedForms.dissolve-renamed f i v y b
  act-renamed c s (Reveal v i) b = RenamedForms.reveal-renamed f i v b
  act-renamed c s (Case v is) b = RenamedForms.choose-renamed f v b
  act-renamed c s (Wrap y p) b =
      same-renamed (λ t. Forms.wrap name t (excess_over_full c y b) y p b) (λ t. Forms.wrap again t (excess_over_full c y (rename_body f b)) y p (rename_body f b))
      (λ t. ap (λ lost. Forms.wrap again t lost y p (rename_body f b)) (beyond_full-renamed c y b) ∙ RenamedForms.wrap-renamed f name t (excess_over_full c y b) y p b)
      (type_at c.types c.variables y) (type_at c.types c.variables y) refl
  act-renamed c s (Unwrap p t y) b = RenamedForms.unwrap-renamed f t p y b
  act-renamed c s (Insert r t) b = ap (λ lost. InsertForm.insert (key_at c t) lost r t (rename_body f b)) (beyond_full-renamed c r b) ∙ RenamedForms.insert-renamed f (key_at c t) (excess_over_full c r b) r t b
  act-renamed c s (Remove r t keys) b =
      same-renamed (λ v. RemoveAndGet.remove (key_at c t) v r t b) (λ v. RemoveAndGet.remove (key_at c t) v r t (rename_body f b)) (λ v. RenamedForms.remove-renamed f (key_at c t) v r t b)
      (key_values b.variables keys) (key_values (rename_in f b.variables) keys) (key_values-renamed f b.variables keys)
  act-renamed c s (Get r t keys) b =
      same-renamed (λ v. RemoveAndGet.get name (key_at c t) v r t b) (λ v. RemoveAndGet.get again (key_at c t) v r t (rename_body f b)) (λ v. RenamedForms.get-renamed f name (key_at c t) v r t b)
      (key_values b.variables keys) (key_values (rename_in f b.variables) keys) (key_values-renamed f b.variables keys)
  act-renamed c s (For r t) b = RenamedForms.visit-renamed f name s r t b
  act-renamed c s (Connect o i) b = RenamedForms.connect-renamed f name o i b
  act-renamed c s (If e) b = tests-renamed e b
  act-renamed c s (While e) b = tests-renamed e b
  act-renamed c s (Raise e) b = refl
  act-renamed c s Leave b = refl
  act-renamed c s _ b = refl

  -- calls and returns
  inputs_of-renamed : (parameters : List Parameter) (atoms : List Atom) (ps : Parts N) → inputs_of parameters atoms (rename_in f ps) ≡ inputs_of parameters atoms ps
  inputs_of-renamed [] atoms ps = refl
  inputs_of-renamed (p ∷ parameters) [] ps = refl
  inputs_of-renamed (p ∷ parameters) (a ∷ atoms) ps = ap₂ (input_of p.mode) (atom_value-renamed f ps a) (inputs_of-renamed parameters atoms ps)

  pub inputs-renamed : (next : Parts ⊤ → Option (Composed N)) (next' : Parts ⊤ → Option (Composed M)) → ((x : Parts ⊤) → next' x ≡ option_map (rename_composed f) (next x)) → (o : Option (Parts ⊤))
      → option_and_then next' o ≡ option_map (rename_composed f) (option_and_then next o)
  inputs-renamed next next' e None = refl
  inputs-renamed next next' e (Some x) = e x

  composed-renamed : (c : Module) (o : Path) (arguments : List Atom) (b : Frame N) → composed again c o arguments (rename_body f b) ≡ option_map (rename_composed f) (composed name c o arguments b)
  composed-renamed c o arguments b =
      let modes = map (λ (p : Parameter). p.mode) (call_parameters c.types c.variables o) in
      let moved = arguments_at c is_inout o arguments in
      let lost = flat_map (λ (p : Path). excess_over_full c p b) moved in
      ap₂ (λ inputs lost. option_and_then (λ inputs. compose again modes inputs lost moved (rename_body f b)) inputs)
      (inputs_of-renamed (call_parameters c.types c.variables o) arguments b.variables) (beyond_each-renamed c moved b)
      ∙ inputs-renamed (λ inputs. compose name modes inputs lost moved b) (λ inputs. compose again modes inputs lost moved (rename_body f b)) (λ inputs. compose-renamed f name modes inputs lost moved b)
      (inputs_of (call_parameters c.types c.variables o) arguments b.variables)

  pub given_back-renamed : (c : Module) (given : List Path) (b : Frame N) → given_back c given (rename_body f b) ≡ option_map (rename_taken f) (given_back c given b)
  given_back-renamed c given b = ap (λ lost. ReturnForms.give_back lost given (rename_body f b)) (beyond_each-renamed c given b) ∙ give_back-renamed f (flat_map (λ p. excess_over_full c p b) given) given b

  pub wants-renamed : (c : Module) (form : Form) (b : Frame N) → wants again c form (rename_body f b) ≡ option_map (rename_want f) (wants name c form b)
  wants-renamed c (New x) b = refl
  wants-renamed c (Send x o) b = ap (λ lost. Exchanges.send_wants lost x o (rename_body f b)) (beyond_declared-renamed c o x b) ∙ send_wants-renamed f (excess_over_declared c o x b) x o b
  wants-renamed c (Receive x i) b = receive_wants-renamed f i b
  wants-renamed c (Select arms) b = select_wants-renamed f (map (λ (a : Arm). a.port) arms) b
  wants-renamed c (Call o arguments) b = ap (λ x. callmessages.call_wants x o (rename_body f b)) (composed-renamed c o arguments b) ∙ call_wants-renamed f (composed name c o arguments b) o b
  wants-renamed c (Return m) b = ap (λ t. ReturnForms.return_wants values t m (rename_body f b)) (given_back-renamed c (given_at c m) b) ∙ return_wants-renamed f values values (λ cs. refl) (given_back c (given_at c m) b) m b
  wants-renamed c (ReturnBy m e) b =
      ap (λ t. ReturnForms.return_wants (raised e) t m (rename_body f b)) (given_back-renamed c (given_by c m e) b) ∙ return_wants-renamed f (raised e) (raised e) (λ cs. refl) (given_back c (given_by c m e) b) m b
  wants-renamed c (Create o process) b = refl
  wants-renamed c _ b = refl

  pub settle-renamed : (c : Module) (form : Form) (at : ℕ) (action : CellAction N) (b : Frame N) → settle again c form at (rename_action f action) (rename_body f b) ≡ rename_result f (settle name c form at action b)
  settle-renamed c (New x) at action b = new_inport-renamed f name x action b
  settle-renamed c (Send x o) at action b = ap (λ lost. Exchanges.send lost x (rename_action f action) (rename_body f b)) (beyond_declared-renamed c o x b) ∙ send-renamed f (excess_over_declared c o x b) x action b
  settle-renamed c (Receive x i) at action b = receive-renamed f x action b
  settle-renamed c (Select arms) at action b = select-renamed f (map (λ (a : Arm). a.target) arms) (map (λ (a : Arm). a.port) arms) at action b
  settle-renamed c (Call o arguments) at action b =
      ap (λ x. callmessages.call x (arguments_at c is_out o arguments) (rename_action f action)) (composed-renamed c o arguments b) ∙ call-renamed f (composed name c o arguments b) (arguments_at c is_out o arguments) action
  settle-renamed c (Return m) at action b = ap (λ t. ReturnForms.return t m (rename_action f action)) (given_back-renamed c (given_at c m) b) ∙ return-renamed f (given_back c (given_at c m) b) m action
  settle-renamed c (ReturnBy m e) at action b = ap (λ t. ReturnForms.return t m (rename_action f action)) (given_back-renamed c (given_by c m e) b) ∙ return-renamed f (given_back c (given_by c m e) b) m action
  settle-renamed c (Create o process) at action b = create-renamed f name o action b
  settle-renamed c _ at action b = refl

  pub settle_reply-renamed : (c : Module) (form : Form) (call : ℕ) (action : CellAction N) (b : Frame N) → settle_reply c form call (rename_action f action) (rename_body f b) ≡ rename_result f (settle_reply c form call action b)
  settle_reply-renamed c (Call o arguments) call action b =
      hear_call-renamed f (set_by_call c.types c.variables o arguments) (arguments_at c is_out o arguments) (kept_at c o arguments) (left_at c o arguments) call action b
  settle_reply-renamed c _ call action b = refl
