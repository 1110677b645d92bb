-- What an instruction's answer makes of inports and callmessages, and what it ends, by the two ways to count them.
use Rattle.std.proofs.Common.{◌≡◌, ℕ, List, [], ◌∷◌, map, Bool, Option, Some, None, option_map, refl, sym, ap, subst, ◌∙◌}
use Rattle.std.specs.Prelude.{flat_map}
use Rattle.herm_model.specs.Calls.{parameters_of, shape_at, returned_places}
use Rattle.herm_model.specs.Lists.{list_of}
use Rattle.herm_model.specs.Paths.{Path}
use Rattle.herm_model.specs.Values.{Name, Kind, kind_of, a_callmessage, Cell, cell_at, Value}
use Rattle.herm_model.proofs.Options.{some-injective, none-not_some, chain-some, map-some}
use Rattle.herm_journal.specs.Actions.{values, raised, to_put, to_take, put}
use Rattle.herm_journal.specs.Messages.{CellWant, CellAction}
use Rattle.herm_forms.specs.Callmessages.{Composed}
use Rattle.herm_forms.specs.Exchanges
use Rattle.herm_forms.specs.Excess.{excess_over_full}
use Rattle.herm_forms.specs.Frames.{Frame, drop}
use Rattle.herm_forms.proofs.Begun.{port_load, call_load, back_load}
use Rattle.herm_forms.proofs.CountedCalls.{composed-kind, return-ends}
use Rattle.herm_system.specs.Suiting.{Answers}
use Rattle.herm_instructions.specs.Instructions.{Argument, Instruction, New, Send, Receive, Select, Call, Return, ReturnBy, Create}
use Rattle.herm_instructions.specs.Operands.{count_inputs}
use Rattle.herm_model.specs.Types.{Raised}
use Rattle.herm_code_machine.specs.CodeActions.{mode_of, inouts, ports_of_choices, composed_of, called, code_wants}
use Rattle.herm_code_machine.specs.CodeInstance.{own_name, code_machine}
use Rattle.herm_code_machine.specs.CodeLocal.{IsCall}
use Rattle.herm_code_machine.specs.CodeStates.{CodeState}
use Rattle.herm_code_machine.specs.ReadyCode.{ReadyCode, ReadyImage}
use Rattle.herm_code_machine.specs.Stacks.{Popped, pop, parts_from}
use Rattle.herm_code_machine.proofs.balanced.EffectsBalance.{code_begun, code_over}
use Rattle.herm_held.proofs.KindAgrees as held
use Rattle.herm_held.proofs.KindTotals.{one_of}

module _ (test : Kind → Bool) (image : ReadyImage) where
  abbrev pub Agrees : CodeState Name → CellWant Name → CellAction Name → (begun over : ℕ) → Type 0
  Agrees y want a begun over = held.Agrees (code_machine image) test y want a begun over

  abbrev pub Opens : CodeState Name → Option ℕ → Type 0
  Opens y k = held.Opens (code_machine image) test y k

  -- a call's callmessage is of the caller and of its number
  called-kind : (c : ReadyCode) (arguments : List Argument) (stack : List Value) (b : Frame Name) (z : Composed Name) → called own_name c arguments stack b ≡ Some z → kind_of z.message ≡ a_callmessage b.number z.call
  called-kind c arguments stack b z is =
      let p = chain-some (λ (p : Popped). composed_of own_name c arguments p.values b) (pop (count_inputs arguments) stack) z is in
      composed-kind own_name (map mode_of arguments) (parts_from (p.0).values) (flat_map (λ q. excess_over_full c.scope q b) (inouts arguments)) (inouts arguments) b z p.2

  module _ (c : ReadyCode) (stack : List Value) (b : Frame Name) (y : CodeState Name) (number : y.frame.number ≡ b.number) where
    -- which call is open behind an answer
    pub record OpensBy (i : Instruction) (a : CellAction Name) : Type 0 where
      pub none : (IsCall i → ⊥) → Opens y None
      pub one : (o : Path) (arguments : List Argument) (keep : List Raised) → i ≡ Call o arguments keep → (z : Composed Name) → called own_name c arguments stack b ≡ Some z → (n : ℕ) (d : Cell Name) → a ≡ put (Some n) d → Opens y (Some z.call)

    pub agrees-instruction : (i : Instruction) (want : CellWant Name) (a : CellAction Name) → code_wants own_name c i stack b ≡ Some want → Answers want a → OpensBy i a → Agrees y want a (code_begun (one_of test) own_name c i stack b a) (code_over (one_of test) c i b a)
    agrees-instruction (New x t) want a is answers opens = subst (λ w. Answers w a → Agrees y w a (port_load (one_of test) a) 0) (some-injective is) (held.agrees-new (code_machine image) test y a) answers
    agrees-instruction (Create o n) want a is answers opens = subst (λ w. Answers w a → Agrees y w a (port_load (one_of test) a) 0) (some-injective is) (held.agrees-create (code_machine image) test y n a) answers
    agrees-instruction (Receive x i) want a is answers opens =
        let r = map-some (λ port. to_take (port ∷ [])) (Exchanges.inport_at i b) want is in
        subst (λ w. Answers w a → Agrees y w a 0 0) r.2 (held.agrees-take (code_machine image) test y (r.0 ∷ []) a) answers
    agrees-instruction (Select choices) want a is answers opens =
        let r = map-some to_take (Exchanges.ports_at (ports_of_choices choices) b) want is in
        subst (λ w. Answers w a → Agrees y w a 0 0) r.2 (held.agrees-take (code_machine image) test y r.0 a) answers
    agrees-instruction (Send x o trim) want a is answers opens =
        let r = chain-some (λ port. option_map (to_put port) (cell_at x (drop trim b).variables)) (Exchanges.outport_at o b) want is in
        let q = map-some (to_put r.0) (cell_at x (drop trim b).variables) want r.2 in
        subst (λ w. Answers w a → Agrees y w a 0 0) q.2 (λ h. held.agrees-send (code_machine image) test y r.0 q.0 a h (λ i d e. opens.none (λ v. v))) answers
    agrees-instruction (Call o arguments keep) want a is answers opens =
        let r = chain-some (λ port. option_map (λ (z : Composed Name). to_put port z.message) (called own_name c arguments stack b)) (Exchanges.outport_at o b) want is in
        let q = map-some (λ (z : Composed Name). to_put r.0 z.message) (called own_name c arguments stack b) want r.2 in
        let kind = called-kind c arguments stack b q.0 q.1 ∙ ap (λ k. a_callmessage k (q.0).call) (sym number) in
        subst (λ (z : Option (Composed Name)). Agrees y want a (call_load (one_of test) z) (back_load (one_of test) a)) (sym q.1)
        (subst (λ w. Answers w a → Agrees y w a (one_of test (kind_of (q.0).message)) (back_load (one_of test) a)) q.2
        (λ h. held.agrees-call (code_machine image) test y r.0 (q.0).call (q.0).message a h kind (opens.one o arguments keep refl q.0 q.1)) answers)
    agrees-instruction (Return m) want a is answers opens =
        let r = return-ends (one_of test) c.scope m (returned_places 0 (list_of parameters_of (shape_at c.scope.types c.scope.variables m))) values b want is in
        subst (λ n. Agrees y want a 0 n) (sym r.ends) (subst (λ w. Answers w a → Agrees y w a 0 (one_of test (a_callmessage r.caller r.call))) (sym r.is) (held.agrees-answer (code_machine image) test y r.caller r.call r.reply a) answers)
    agrees-instruction (ReturnBy m e kept) want a is answers opens =
        let r = return-ends (one_of test) c.scope m kept (raised e) b want is in
        subst (λ n. Agrees y want a 0 n) (sym r.ends) (subst (λ w. Answers w a → Agrees y w a 0 (one_of test (a_callmessage r.caller r.call))) (sym r.is) (held.agrees-answer (code_machine image) test y r.caller r.call r.reply a) answers)
    agrees-instruction i want a is answers opens = none-not_some is
