-- What a return gives back is what is wanted to be answered, and its order is out then.
use Rattle.std.proofs.Common.{◌≡◌, ℕ, suc, List, Bool, true, false, Option, Some, None, option_map, refl, sym, ap, subst, ◌∙◌}
use Rattle.std.specs.Prelude.{flat_map, IfNone, IfSome, option_and_then, ⊤}
use Rattle.herm_model.specs.FactsOfStatements.{parameters_at}
use Rattle.herm_model.specs.Calls.{parameters_of, returned_places, shape_at}
use Rattle.herm_model.specs.Lists.{list_of}
use Rattle.herm_model.specs.Paths.{Path}
use Rattle.herm_model.specs.Values.{Value, cell_at}
use Rattle.herm_model.proofs.Options.{none-not_some, some-injective, chain-some, map-some}
use Rattle.herm_journal.specs.Actions.{raised, to_answer, values}
use Rattle.herm_journal.specs.Messages.{CellReply, CellWant}
use Rattle.herm_journal.specs.Renaming.{forget_name}
use Rattle.herm_forms.specs.Acts.{given_back}
use Rattle.herm_forms.specs.Excess.{excess_over_full}
use Rattle.herm_forms.specs.Frames.{Frame, Taken, counted_action, drop, take_all}
use Rattle.herm_forms.specs.ReturnForms.{caller_of, return_wants}
use Rattle.herm_forms.proofs.Counting.{recount_taken, recount-drop, recount-take_all}
use Rattle.herm_instructions.specs.Instructions.{Instruction, Return, ReturnBy}
use Rattle.herm_code_machine.specs.CodeActions.{code_wants}
use Rattle.herm_code_machine.specs.CodeStates.{CodeState}
use Rattle.herm_code_machine.specs.CodeSteps.{code_next, code_wanted, counted_if}
use Rattle.herm_code_machine.specs.Pieces.{Met, Piece, stack_before_action}
use Rattle.herm_code_machine.specs.ReadyCode.{ReadyCode}
use Rattle.herm_frames.specs.HeldFrames.{HeldFrame}
use Rattle.herm_frames.specs.Standing.{Stands}
use Rattle.herm_letters.specs.View.{reply_view}
use Rattle.herm_letters.specs.declared.reply.Reply.{Reply}
use Rattle.herm_stack.specs.Answers.{on_stack}
use Rattle.herm_steps.specs.Coming.{coming, coming_action}
use Rattle.herm_steps.specs.HeldStates.{HeldState}
use Rattle.herm_steps.specs.StandingAt.{StandsAt}
use Rattle.herm_answers.specs.Orders.{HoldsOrder, IsAnswerBy, IsGiven, IsLeft, IsWantedReply}
use Rattle.herm_answers.specs.Takings.{IsReplyOut}
use Rattle.herm_answers.proofs.Comes.{action_comes}
use Rattle.herm_answers.proofs.Out.{action_wants}
use Rattle.herm_answers.proofs.Stays.{caller_stays}

-- the parameters at these places of the callmessage at a path
abbrev pub taken_from : ReadyCode → Path → List ℕ → Frame ⊤ → Option (Taken ⊤)
taken_from c m places b = given_back c.scope (parameters_at c.scope.types c.scope.variables m places) b

abbrev pub counted : Bool → Frame ⊤ → Frame ⊤
counted has_step b = counted_action (counted_if has_step b)

-- the counts of steps and actions make no difference to them
abbrev cells_in : Taken ⊤ → List Value
cells_in t = t.cells

recounted : (n m : ℕ) (x : Option (Taken ⊤)) → option_map cells_in (option_map (recount_taken n m) x) ≡ option_map cells_in x
recounted n m None = refl
recounted n m (Some t) = refl

by_counts : (c : ReadyCode) (x : Path) (places : List ℕ) (n m : ℕ) (s : Frame ⊤) → option_map cells_in (taken_from c x places (record s { steps = n; actions = m })) ≡ option_map cells_in (taken_from c x places s)
by_counts c x places n m s =
    let given = parameters_at c.scope.types c.scope.variables x places in
    let lost = flat_map (λ (p : Path). excess_over_full c.scope p s) given in
    ap (λ b. option_map cells_in (take_all given b)) (recount-drop n m lost s) ∙ ap (option_map cells_in) (recount-take_all n m given (drop lost s)) ∙ recounted n m (take_all given (drop lost s))

same_cells : (c : ReadyCode) (x : Path) (places : List ℕ) (has_step : Bool) (s : Frame ⊤) → option_map cells_in (taken_from c x places (counted has_step s)) ≡ option_map cells_in (taken_from c x places s)
same_cells c x places true s = by_counts c x places (suc s.steps) (suc s.actions) s
same_cells c x places false s = by_counts c x places s.steps (suc s.actions) s

same_variables : (has_step : Bool) (s : Frame ⊤) → (counted has_step s).variables ≡ s.variables
same_variables true s = refl
same_variables false s = refl

-- what a return wants is to answer the caller
record Answering (reply : List Value → CellReply ⊤) (taken : Option (Taken ⊤)) (m : Path) (b : Frame ⊤) (w : CellWant ⊤) : Type 0 where
  who : ℕ × ℕ
  out : Taken ⊤
  caller : option_and_then caller_of (cell_at m b.variables) ≡ Some who
  is : taken ≡ Some out
  want : w ≡ to_answer who.0 who.1 (reply out.cells)

answering : (reply : List Value → CellReply ⊤) (taken : Option (Taken ⊤)) (m : Path) (b : Frame ⊤) (w : CellWant ⊤) → return_wants reply taken m b ≡ Some w → Answering reply taken m b w
answering reply taken m b w e =
    let to = chain-some (λ (to : ℕ × ℕ). option_map (λ (t : Taken ⊤). to_answer to.0 to.1 (reply t.cells)) taken) (option_and_then caller_of (cell_at m b.variables)) w e in
    let t = map-some (λ (t : Taken ⊤). to_answer to.0.0 to.0.1 (reply t.cells)) taken w to.2 in
    record { who = to.0; out = t.0; caller = to.1; is = t.1; want = sym t.2 }

module _ (c : ReadyCode) (m : Path) (places : List ℕ) (reply : List Value → CellReply ⊤) (has_step : Bool) (s : Frame ⊤) (w : CellWant ⊤) (e : return_wants reply (taken_from c m places s) m s ≡ Some w) where
  answer_is : (t : Taken ⊤) (r : CellReply ⊤) → taken_from c m places (counted has_step s) ≡ Some t → reply t.cells ≡ r → IsAnswerBy r w
  answer_is t r out is =
      let a = answering reply (taken_from c m places s) m s w e in
      let cells : t.cells ≡ a.out.cells = some-injective (sym (ap (option_map cells_in) out) ∙ same_cells c m places has_step s ∙ ap (option_map cells_in) a.is) in
      (a.who.0, a.who.1, a.want ∙ ap (λ cells. to_answer a.who.0 a.who.1 (reply cells)) (sym cells) ∙ ap (to_answer a.who.0 a.who.1) is)

  given_is : (t : Taken ⊤) (f : HeldFrame) → taken_from c m places (counted has_step s) ≡ Some t → Stands f t.frame → IsGiven (taken_from c m places (counted has_step s)) m f
  given_is t f out stands =
      let a = answering reply (taken_from c m places s) m s w e in
      (t, a.who, out, caller_stays c.scope m places (counted has_step s) t out ∙ ap (λ ps. option_and_then caller_of (cell_at m ps)) (same_variables has_step s) ∙ a.caller, stands)

  none_wanted : taken_from c m places (counted has_step s) ≡ None → ⊥
  none_wanted none =
      let a = answering reply (taken_from c m places s) m s w e in
      none-not_some (sym (ap (option_map cells_in) none) ∙ same_cells c m places has_step s ∙ ap (option_map cells_in) a.is)

-- an instruction that returns this of the callmessage at a path
pub record IsReturn (c : ReadyCode) (i : Instruction) (m : Path) (places : List ℕ) (reply : List Value → CellReply ⊤) : Type 0 where
  pub wants : (stack : List Value) (s : Frame ⊤) → code_wants forget_name c i stack s ≡ return_wants reply (taken_from c m places s) m s
  pub left : (before stack : List Value) (b : Frame ⊤) (f : HeldFrame) → before ≡ stack → IsGiven (taken_from c m places b) m f → IsLeft c i before b stack f

pub values_return : (c : ReadyCode) (m : Path) → IsReturn c (Return m) m (returned_places 0 (list_of parameters_of (shape_at c.scope.types c.scope.variables m))) values
values_return c m = record { wants = λ stack s. refl; left = λ before stack b f e g. (e, g) }

pub raised_return : (c : ReadyCode) (m : Path) (x : ℕ) (kept : List ℕ) → IsReturn c (ReturnBy m x kept) m kept (raised x)
raised_return c m x kept = record { wants = λ stack s. refl; left = λ before stack b f e g. (e, g) }

-- what is said of a reply that was taken out, or of none
pub record TakesReply (c : ReadyCode) (piece : Piece) (met : Met) (old q : HeldState) (r : Option Reply) : Type 0 where
  pub wanted : IfSome r (λ v. (s : CodeState ⊤) (w : CellWant ⊤) → StandsAt old s → coming_action piece met ≡ coming (code_next c s) → code_wanted forget_name c s ≡ Some w → IsAnswerBy (reply_view v) w)
  pub out : IfSome r (λ v. (s : CodeState ⊤) (w : CellWant ⊤) → StandsAt old s → coming_action piece met ≡ coming (code_next c s) → code_wanted forget_name c s ≡ Some w → HoldsOrder c q s)
  pub absent : IfNone r ((s : CodeState ⊤) (reply : CellReply ⊤) → StandsAt old s → coming_action piece met ≡ coming (code_next c s) → IsWantedReply c reply s → ⊥)

module _ (c : ReadyCode) (i : Instruction) (m : Path) (places : List ℕ) (reply : List Value → CellReply ⊤) (is : IsReturn c i m places reply) (piece : Piece) (met : Met) (p q old : HeldState) (view : p ≡ old) (same : q.position ≡ p.position) (at : met.instruction ≡ i) where
  -- what is wanted on the stack before the action
  module _ (s : CodeState ⊤) (w : CellWant ⊤) (stands : StandsAt old s) (e : coming_action piece met ≡ coming (code_next c s)) (want : code_wanted forget_name c s ≡ Some w) where
    held : StandsAt p s
    held = subst (λ q. StandsAt q s) (sym view) stands

    on_before : option_and_then (λ st. code_wants forget_name c i st s.frame) (stack_before_action c piece s.frame.variables (on_stack p.stack)) ≡ Some w
    on_before = action_wants c s piece met (on_stack p.stack) i w held.stack at (action_comes c s piece met e).is want

    on_this : (before : List Value) → stack_before_action c piece s.frame.variables (on_stack p.stack) ≡ Some before → return_wants reply (taken_from c m places s.frame) m s.frame ≡ Some w
    on_this before there = sym (is.wants before s.frame) ∙ sym (ap (option_and_then (λ st. code_wants forget_name c i st s.frame)) there) ∙ on_before

    not_none : option_and_then (λ (stack : List Value). taken_from c m places (counted piece.has_step s.frame)) (stack_before_action c piece s.frame.variables (on_stack p.stack)) ≡ None → ⊥
    not_none none =
        let b = chain-some (λ st. code_wants forget_name c i st s.frame) (stack_before_action c piece s.frame.variables (on_stack p.stack)) w on_before in
        none_wanted c m places reply piece.has_step s.frame w (on_this b.0 b.1) (sym (ap (option_and_then (λ (stack : List Value). taken_from c m places (counted piece.has_step s.frame))) b.1) ∙ none)

    module _ (r : CellReply ⊤) (o : IsReplyOut (Some r) q.frame (on_stack q.stack) (stack_before_action c piece s.frame.variables (on_stack p.stack)) reply (taken_from c m places (counted piece.has_step s.frame))) where
      is_wanted : IsAnswerBy r w
      is_wanted = answer_is c m places reply piece.has_step s.frame w (on_this (on_stack q.stack) o.0) o.1 r o.2 o.3

      is_out : HoldsOrder c q s
      is_out =
          let b = counted piece.has_step s.frame in
          let given = given_is c m places reply piece.has_step s.frame w (on_this (on_stack q.stack) o.0) o.1 q.frame o.2 o.4 in
          record {
            piece = piece;
            met = met;
            before = on_stack q.stack;
            next = (action_comes c s piece met e).is;
            position = held.position ∙ sym same;
            there = subst (λ k. stack_before_action c piece s.frame.variables k ≡ Some (on_stack q.stack)) (sym held.stack) o.0;
            left = subst (λ i. IsLeft c i (on_stack q.stack) b (on_stack q.stack) q.frame) (sym at) (is.left (on_stack q.stack) (on_stack q.stack) b q.frame refl given);
          }

  pub takes_reply : (r : Option Reply) → ((s : Frame ⊤) → Stands p.frame s → IsReplyOut (option_map reply_view r) q.frame (on_stack q.stack) (stack_before_action c piece s.variables (on_stack p.stack)) reply (taken_from c m places (counted piece.has_step s))) → TakesReply c piece met old q r
  takes_reply None outs = record {
    wanted = tt;
    out = tt;
    absent = λ s reply' stands e wanted. not_none s wanted.0 stands e wanted.1 (outs s.frame (held s wanted.0 stands e wanted.1).frame);
  }
  takes_reply (Some v) outs = record {
    wanted = λ s w stands e want. is_wanted s w stands e want (reply_view v) (outs s.frame (held s w stands e want).frame);
    out = λ s w stands e want. is_out s w stands e want (reply_view v) (outs s.frame (held s w stands e want).frame);
    absent = tt;
  }
