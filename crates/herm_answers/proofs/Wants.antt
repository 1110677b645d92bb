-- Which instructions want to put a message, and which to answer a caller.
use Rattle.std.proofs.Common.{◌≡◌, ℕ, List, [], ◌∷◌, Bool, true, false, Option, Some, None, option_map, refl, sym, ap, ◌∙◌, true≢false}
use Rattle.std.specs.Prelude.{option_and_then, ⊤}
use Rattle.herm_model.specs.Values.{Cell, Value, cell_at}
use Rattle.herm_model.proofs.Options.{none-not_some, chain-some}
use Rattle.herm_journal.specs.Actions.{values, raised, new_port, new_process, to_put, to_take, to_close, to_answer, to_hear}
use Rattle.herm_journal.specs.Messages.{CellReply, CellWant}
use Rattle.herm_journal.specs.Renaming.{forget_name}
use Rattle.herm_forms.specs.Acts.{given_at, given_back}
use Rattle.herm_forms.specs.Callmessages.{Composed}
use Rattle.herm_forms.specs.Exchanges.{inport_at, outport_at, ports_at}
use Rattle.herm_forms.specs.Frames.{Frame, Taken, drop}
use Rattle.herm_forms.specs.ReturnForms.{caller_of}
use Rattle.herm_instructions.specs.Instructions.{Instruction, New, Send, Receive, Select, Call, Return, ReturnBy, Create}
use Rattle.herm_code_machine.specs.CodeActions.{called, code_wants, kept_parameters, ports_of_choices}
use Rattle.herm_code_machine.specs.CodeStates.{CodeState}
use Rattle.herm_code_machine.specs.CodeSteps.{code_next}
use Rattle.herm_code_machine.specs.Pieces.{Met, Piece, stack_before_action}
use Rattle.herm_code_machine.specs.ReadyCode.{ReadyCode}
use Rattle.herm_steps.specs.Coming.{coming, coming_action}
use Rattle.herm_answers.specs.Calling.{is_call, is_send}
use Rattle.herm_answers.specs.Orders.{IsAnswerBy, IsPutOf, IsWanted, IsWantedReply}
use Rattle.herm_answers.specs.Returning.{returned_from}
use Rattle.herm_answers.proofs.Comes.{action_comes}
use Rattle.herm_answers.proofs.Out.{action_wants}
use Rattle.herm_answers.proofs.Placed.{put_in}

-- what is wanted is a put, or an answer
abbrev is_put : CellWant ⊤ → Bool
is_put new_port = false
is_put (new_process code) = false
is_put (to_put port m) = true
is_put (to_take ports) = false
is_put (to_close port) = false
is_put (to_answer caller call reply) = false
is_put to_hear = false

abbrev is_answer : CellWant ⊤ → Bool
is_answer new_port = false
is_answer (new_process code) = false
is_answer (to_put port m) = false
is_answer (to_take ports) = false
is_answer (to_close port) = false
is_answer (to_answer caller call reply) = true
is_answer to_hear = false

-- where something is wanted
abbrev where_some : (CellWant ⊤ → Bool) → Option (CellWant ⊤) → Bool
where_some test None = false
where_some test (Some w) = test w

no_put_by : (w : CellWant ⊤) (m : Value) → is_put w ≡ false → IsPutOf m w → ⊥
no_put_by w m e h = true≢false (sym (ap is_put h.1) ∙ e)

no_answer_by : (w : CellWant ⊤) (reply : CellReply ⊤) → is_answer w ≡ false → IsAnswerBy reply w → ⊥
no_answer_by w reply e h = true≢false (sym (ap is_answer h.2) ∙ e)

answer_in : (c : ReadyCode) (reply : CellReply ⊤) (s : CodeState ⊤) (h : IsWantedReply c reply s) → IsAnswerBy reply h.0
answer_in c reply s h = h.2

one_port : (test : CellWant ⊤ → Bool) → ((ports : List ℕ) → test (to_take ports) ≡ false) → (o : Option ℕ) → where_some test (option_map (λ p. to_take (p ∷ [])) o) ≡ false
one_port test e None = refl
one_port test e (Some p) = e (p ∷ [])

some_ports : (test : CellWant ⊤ → Bool) → ((ports : List ℕ) → test (to_take ports) ≡ false) → (o : Option (List ℕ)) → where_some test (option_map to_take o) ≡ false
some_ports test e None = refl
some_ports test e (Some ports) = e ports

a_message : (o : Option ℕ) (m : Option (Cell ⊤)) → where_some is_answer (option_and_then (λ p. option_map (to_put p) m) o) ≡ false
a_message None m = refl
a_message (Some p) None = refl
a_message (Some p) (Some c) = refl

a_callmessage_put : (o : Option ℕ) (x : Option (Composed ⊤)) → where_some is_answer (option_and_then (λ p. option_map (λ (k : Composed ⊤). to_put p k.message) x) o) ≡ false
a_callmessage_put None x = refl
a_callmessage_put (Some p) None = refl
a_callmessage_put (Some p) (Some k) = refl

a_return : (reply : List Value → CellReply ⊤) (o : Option (ℕ × ℕ)) (x : Option (Taken ⊤)) → where_some is_put (option_and_then (λ (to : ℕ × ℕ). option_map (λ (t : Taken ⊤). to_answer to.0 to.1 (reply t.cells)) x) o) ≡ false
a_return reply None x = refl
a_return reply (Some to) None = refl
a_return reply (Some to) (Some t) = refl

-- what neither sends nor calls wants to put nothing
not_put : (c : ReadyCode) (i : Instruction) (stack : List Value) (b : Frame ⊤) → is_send i ≡ false → is_call i ≡ false → where_some is_put (code_wants forget_name c i stack b) ≡ false
not_put c (New x t) stack b e f = refl
not_put c (Send x o trim) stack b e f = absurd (true≢false e)
not_put c (Receive x i) stack b e f = one_port is_put (λ ports. refl) (inport_at i b)
not_put c (Select choices) stack b e f = some_ports is_put (λ ports. refl) (ports_at (ports_of_choices choices) b)
not_put c (Call o arguments keeps) stack b e f = absurd (true≢false f)
not_put c (Return m) stack b e f = a_return values (option_and_then caller_of (cell_at m b.variables)) (given_back c.scope (given_at c.scope m) b)
not_put c (ReturnBy m x kept) stack b e f = a_return (raised x) (option_and_then caller_of (cell_at m b.variables)) (given_back c.scope (kept_parameters c m kept) b)
not_put c (Create o n) stack b e f = refl
not_put c i stack b e f = refl

-- what does not return wants to answer nobody
not_answer : (c : ReadyCode) (i : Instruction) (stack : List Value) (b : Frame ⊤) → returned_from i ≡ None → where_some is_answer (code_wants forget_name c i stack b) ≡ false
not_answer c (New x t) stack b e = refl
not_answer c (Send x o trim) stack b e = a_message (outport_at o b) (cell_at x (drop trim b).variables)
not_answer c (Receive x i) stack b e = one_port is_answer (λ ports. refl) (inport_at i b)
not_answer c (Select choices) stack b e = some_ports is_answer (λ ports. refl) (ports_at (ports_of_choices choices) b)
not_answer c (Call o arguments keeps) stack b e = a_callmessage_put (outport_at o b) (called forget_name c arguments stack b)
not_answer c (Return m) stack b e = none-not_some (sym e)
not_answer c (ReturnBy m x kept) stack b e = none-not_some (sym e)
not_answer c (Create o n) stack b e = refl
not_answer c i stack b e = refl

module _ (c : ReadyCode) (s : CodeState ⊤) (piece : Piece) (met : Met) (e : coming_action piece met ≡ coming (code_next c s)) where
  pub no_put : (m : Value) → is_send met.instruction ≡ false → is_call met.instruction ≡ false → IsWanted c m s → ⊥
  no_put m a b h =
      let before = stack_before_action c piece s.frame.variables s.stack in
      let k = chain-some (λ st. code_wants forget_name c met.instruction st s.frame) before h.0 (action_wants c s piece met s.stack met.instruction h.0 refl refl (action_comes c s piece met e).is h.1) in
      no_put_by h.0 m (sym (ap (where_some is_put) k.2) ∙ not_put c met.instruction k.0 s.frame a b) (put_in c m s h)

  pub no_answer : (reply : CellReply ⊤) → returned_from met.instruction ≡ None → IsWantedReply c reply s → ⊥
  no_answer reply a h =
      let before = stack_before_action c piece s.frame.variables s.stack in
      let k = chain-some (λ st. code_wants forget_name c met.instruction st s.frame) before h.0 (action_wants c s piece met s.stack met.instruction h.0 refl refl (action_comes c s piece met e).is h.1) in
      no_answer_by h.0 reply (sym (ap (where_some is_answer) k.2) ∙ not_answer c met.instruction k.0 s.frame a) (answer_in c reply s h)
