-- What a process wants by what comes next.
use Rattle.std.proofs.Common.{◌≡◌, ℕ, List, Option, Some, None, option_and_then, refl, sym, ap, subst, ◌∙◌}
use Rattle.std.specs.Prelude.{⊤}
use Rattle.herm_model.specs.Values.{a_scalar, a_record, a_variant, a_table, a_polymorph, a_callmessage, an_inport, an_outport, Cell, cell, Value}
use Rattle.herm_journal.specs.Actions.{to_take}
use Rattle.herm_forms.specs.ClosesAndAnswers.{work_wants}
use Rattle.herm_journal.specs.Messages.{CellWant}
use Rattle.herm_journal.specs.Renaming.{forget_name}
use Rattle.herm_instructions.specs.Instructions.{Instruction}
use Rattle.herm_code_machine.specs.CodeActions.{code_wants}
use Rattle.herm_code_machine.specs.CodeStates.{CodeState}
use Rattle.herm_code_machine.specs.CodeSteps.{CodeNext, an_item, a_reply, an_action, a_local_piece, nothing, wanted_next}
use Rattle.herm_code_machine.specs.Pieces.{Met, Piece, stack_before_action}
use Rattle.herm_code_machine.specs.ReadyCode.{ReadyCode}
use Rattle.herm_steps.specs.Coming.{Coming, coming, coming_item, coming_reply, coming_action, coming_piece, coming_nothing}

-- the instruction of an action that comes, and any without it
abbrev instruction_in : Instruction → Coming → Instruction
instruction_in d coming_item = d
instruction_in d (coming_reply i instruction) = d
instruction_in d (coming_action p m) = m.instruction
instruction_in d (coming_piece p) = d
instruction_in d coming_nothing = d

-- there is a stack on which the instruction wants this
pub record WantsOn (c : ReadyCode) (s : CodeState ⊤) (instruction : Instruction) (w : CellWant ⊤) : Type 0 where
  pub stack : List Value
  pub wants : code_wants forget_name c instruction stack s.frame ≡ Some w

on_stack_before : (c : ReadyCode) (s : CodeState ⊤) (instruction : Instruction) (w : CellWant ⊤) (o : Option (List Value)) → option_and_then (λ stack. code_wants forget_name c instruction stack s.frame) o ≡ Some w → WantsOn c s instruction w
on_stack_before c s instruction w None e = absurd impossible
  where
    impossible : ⊥
    impossible = let k : ⊥ = cc in k
on_stack_before c s instruction w (Some stack) e = record { stack = stack; wants = e }

pub action_wanted : (c : ReadyCode) (s : CodeState ⊤) (n : CodeNext ⊤) (p : Piece) (m : Met) (w : CellWant ⊤) → coming_action p m ≡ coming n → wanted_next forget_name c s n ≡ Some w → WantsOn c s m.instruction w
action_wanted c s (an_item item work) p m w is e = absurd (let k : ⊥ = cc in k)
action_wanted c s (a_reply call i instruction) p m w is e = absurd (let k : ⊥ = cc in k)
action_wanted c s (an_action q n) p m w is e =
    subst (λ i. WantsOn c s i w) (sym (ap (instruction_in m.instruction) is)) (on_stack_before c s n.instruction w (stack_before_action c q s.frame.variables s.stack) e)
action_wanted c s (a_local_piece q) p m w is e = absurd (let k : ⊥ = cc in k)
action_wanted c s nothing p m w is e = absurd (let k : ⊥ = cc in k)

-- where a message is wanted, an action comes
abbrev some_take : List ℕ → Option (CellWant ⊤)
some_take ports = Some (to_take ports)

pub record ActionComes (n : CodeNext ⊤) : Type 0 where
  pub piece : Piece
  pub met : Met
  pub is : coming n ≡ coming_action piece met

no_item : (item : Cell ⊤) (ports : List ℕ) → work_wants item ≡ some_take ports → ⊥
no_item (cell n (a_scalar s) ps) ports e = let k : ⊥ = cc in k
no_item (cell n a_record ps) ports e = let k : ⊥ = cc in k
no_item (cell n (a_variant c) ps) ports e = let k : ⊥ = cc in k
no_item (cell n a_table ps) ports e = let k : ⊥ = cc in k
no_item (cell n (a_polymorph t) ps) ports e = let k : ⊥ = cc in k
no_item (cell n (a_callmessage caller call) ps) ports e = let k : ⊥ = cc in k
no_item (cell n (an_inport port) ps) ports e = let k : ⊥ = cc in k
no_item (cell n (an_outport port) ps) ports e = let k : ⊥ = cc in k

pub action_comes : (c : ReadyCode) (s : CodeState ⊤) (n : CodeNext ⊤) (ports : List ℕ) → wanted_next forget_name c s n ≡ some_take ports → ActionComes n
action_comes c s (an_item item work) ports e = absurd (no_item item ports e)
action_comes c s (a_reply call i instruction) ports e = absurd (let k : ⊥ = cc in k)
action_comes c s (an_action p m) ports e = record { piece = p; met = m; is = refl }
action_comes c s (a_local_piece p) ports e = absurd (let k : ⊥ = cc in k)
action_comes c s nothing ports e = absurd (let k : ⊥ = cc in k)

pub not_item : (n : CodeNext ⊤) → ActionComes n → coming_item ≡ coming n → ⊥
not_item n a is = let e : coming_item ≡ coming_action a.piece a.met = is ∙ a.is in let k : ⊥ = cc in k

pub not_reply : (n : CodeNext ⊤) (i : ℕ) (instruction : Instruction) → ActionComes n → coming_reply i instruction ≡ coming n → ⊥
not_reply n i instruction a is = let e : coming_reply i instruction ≡ coming_action a.piece a.met = is ∙ a.is in let k : ⊥ = cc in k

pub not_piece : (n : CodeNext ⊤) (p : Piece) → ActionComes n → coming_piece p ≡ coming n → ⊥
not_piece n p a is = let e : coming_piece p ≡ coming_action a.piece a.met = is ∙ a.is in let k : ⊥ = cc in k

pub not_nothing : (n : CodeNext ⊤) → ActionComes n → coming_nothing ≡ coming n → ⊥
not_nothing n a is = let e : coming_nothing ≡ coming_action a.piece a.met = is ∙ a.is in let k : ⊥ = cc in k
