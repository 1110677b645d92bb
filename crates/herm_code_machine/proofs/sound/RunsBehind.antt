-- Local steps and answers are runs: behind a step, and behind what an action or a reply comes to.
use Rattle.std.proofs.Common.{◌≡◌, ℕ, suc, List, [], ◌∷◌, Bool, true, false, cond, Option, Some, None, option_and_then, refl, sym, ap, subst, ◌∙◌, drop}
use Rattle.herm_model.specs.Values.{Name, Cell, Value}
use Rattle.herm_model.proofs.Options.{none-not_some, some-injective, chain-some}
use Rattle.herm_forms.specs.ClosesAndAnswers.{work_done}
use Rattle.herm_journal.specs.Messages.{CellWant, CellAction}
use Rattle.herm_forms.specs.Frames.{Frame, Completion, goes, stays, stuck, counted_step, counted_action}
use Rattle.herm_instructions.specs.Actions.{is_step, is_action}
use Rattle.herm_instructions.specs.Images.{instruction_at}
use Rattle.herm_instructions.specs.Instructions.{Instruction, Step}
use Rattle.herm_code_machine.specs.CodeActions.{code_wants, code_settles, code_hears}
use Rattle.herm_code_machine.specs.CodeInstance.{own_name}
use Rattle.herm_code_machine.specs.CodeStates.{Position, at_index, at_end, at_end_by, CodeState, state_behind, to_next_piece, code_begin}
use Rattle.herm_code_machine.specs.CodeSteps.{CodeNext, an_item, a_reply, an_action, a_local_piece, nothing, call_or_piece, item_or, code_next, counted_if, met_at, code_wanted, code_local_step, code_answered, wanted_next, step_next, settled_action, worked, settle_next}
use Rattle.herm_code_machine.specs.Pieces.{Piece, Met, piece_by, piece_at, action_from, action_of, operand, pushed, behind_operands, stack_before_action}
use Rattle.herm_code_machine.specs.ReadyCode.{ReadyCode}
use Rattle.herm_code_machine.specs.Stacks.{Effect}
use Rattle.herm_code_machine.specs.laws.EndLaws.{IsOnTheWay, as_it_begins}
use Rattle.herm_code_machine.specs.laws.OperandLaws.{as_begun, behind_step, IsBefore, at_once, by_its_step, IsLeftBy, by_action, by_reply, IsWantedBy, by_next_action, IsLeftByItem, StepsAreRuns}
use Rattle.herm_code_machine.specs.laws.StandingLaws.{IsAtInstruction}
use Rattle.herm_code_machine.proofs.CodeLimits.{first-dropped, not-operand, action-there}
use Rattle.herm_code_machine.proofs.CountedSteps.{not-both}
use Rattle.herm_code_machine.proofs.EndedRuns.{runs-go_on}
use Rattle.herm_code_machine.proofs.sound.BehindAnswers.{behind-same}
use Rattle.herm_code_machine.proofs.sound.LocalSteps.{ComesNext, by_work, by_call, by_act, by_local, comes-next, step-piece, is-step}
use Rattle.herm_code_machine.proofs.sound.WayToAction.{comes-to}

module _ (c : ReadyCode) where
  -- the instruction at a position
  met-there : (position : Position) (met : Met) → met_at c position ≡ Some met → (position ≡ at_index met.index) × (instruction_at c.code met.index ≡ Some met.instruction)
  met-there at_end met e = none-not_some e
  met-there (at_end_by x) met e = none-not_some e
  met-there (at_index i) met e = by (instruction_at c.code i) refl e
    where
      by : (o : Option Instruction) → instruction_at c.code i ≡ o → elim o [ None ↦ None | Some instruction ↦ Some (record { index = i; instruction = instruction }) ] ≡ Some met → (at_index i ≡ at_index met.index) × (instruction_at c.code met.index ≡ Some met.instruction)
      by None at e = none-not_some e
      by (Some instruction) at e = subst (λ (met : Met). (at_index i ≡ at_index met.index) × (instruction_at c.code met.index ≡ Some met.instruction)) (some-injective e) (refl, at)

  -- how a piece begins
  pub data Begins (position : Position) (p : Piece) : Type 0 where
    with_step : (i : ℕ) → position ≡ at_index i → instruction_at c.code i ≡ Some Step → p ≡ record { has_step = true; first = suc i } → Begins position p
    with_action : (i : ℕ) (action : Instruction) → position ≡ at_index i → instruction_at c.code i ≡ Some action → is_action c.scope.types action ≡ true → p ≡ record { has_step = false; first = i } → Begins position p

  piece-begins : (position : Position) (p : Piece) → piece_at c position ≡ Some p → Begins position p
  piece-begins at_end p e = none-not_some e
  piece-begins (at_end_by x) p e = none-not_some e
  piece-begins (at_index i) p e = by (instruction_at c.code i) refl e
    where
      acting : (instruction : Instruction) → instruction_at c.code i ≡ Some instruction → (b : Bool) → is_action c.scope.types instruction ≡ b → cond b (Some (record { has_step = false; first = i })) None ≡ Some p → Begins (at_index i) p
      acting instruction there true acts e = with_action i instruction refl there acts (sym (some-injective e))
      acting instruction there false acts e = none-not_some e

      stepping : (instruction : Instruction) → instruction_at c.code i ≡ Some instruction → (b : Bool) → is_step instruction ≡ b
          → cond b (Some (record { has_step = true; first = suc i })) (cond (is_action c.scope.types instruction) (Some (record { has_step = false; first = i })) None) ≡ Some p → Begins (at_index i) p
      stepping instruction there true is e = with_step i refl (there ∙ ap (λ i. Some i) (is-step instruction is)) (sym (some-injective e))
      stepping instruction there false is e = acting instruction there (is_action c.scope.types instruction) refl e

      by : (o : Option Instruction) → instruction_at c.code i ≡ o → piece_by c.scope.types i o ≡ Some p → Begins (at_index i) p
      by None there e = none-not_some e
      by (Some instruction) there e = stepping instruction there (is_step instruction) refl e

  -- the process before its action, whose operands are on the stack
  module _ (x : CodeState Name) (p : Piece) (met : Met) (stack : List Value) (idle : x.frame.work ≡ []) (closed : x.frame.call ≡ None) (found : action_of c p ≡ Some met) (operands : stack_before_action c p x.frame.variables x.stack ≡ Some stack) where
    abbrev BeforeIt : Met → Type 0
    BeforeIt m = (t : CodeState Name) × IsBefore c x m.index m.instruction t × (t.stack ≡ stack)

    before-it : Begins x.position p → BeforeIt met
    before-it (with_step i position there e) =
        let first : p.first ≡ suc i = ap (λ (p : Piece). p.first) e in
        let s = behind_step x i in
        let r = comes-to c (drop (suc i) c.code.code) (suc i) s s stack met as_it_begins refl refl (subst (λ k. behind_operands c x.frame.variables (drop k c.code.code) x.stack ≡ Some stack) first operands) (subst (λ k. action_from c.scope.types (drop k c.code.code) k ≡ Some met) first found) in
        (r.state, by_its_step i met.index met.instruction r.state (idle, closed, position, there) r.way r.position r.at r.acts, r.stack)
    before-it (with_action i action position there acts e) =
        let d = first-dropped c.code.code i action there in
        let first : p.first ≡ i = ap (λ (p : Piece). p.first) e in
        let met_is : record { index = i; instruction = action } ≡ met =
        some-injective (sym (ap (λ xs. action_from c.scope.types xs i) d.1 ∙ action-there c.scope.types action d.0 i acts) ∙ subst (λ k. action_from c.scope.types (drop k c.code.code) k ≡ Some met) first found) in
        let stack_is : x.stack ≡ stack =
        some-injective (sym (ap (λ xs. behind_operands c x.frame.variables xs x.stack) d.1 ∙ ap (λ b. cond b (option_and_then (behind_operands c x.frame.variables d.0) (pushed (operand c action x.frame.variables) x.stack)) (Some x.stack)) (not-operand c.scope.types action acts))
        ∙ subst (λ k. behind_operands c x.frame.variables (drop k c.code.code) x.stack ≡ Some stack) first operands) in
        subst BeforeIt met_is (x, at_once i action (idle, closed, position, there) acts, stack_is)

  want-run : (x : CodeState Name) (w : CellWant Name) (next : CodeNext Name) → ComesNext c x next → x.frame.work ≡ [] → x.frame.call ≡ None → wanted_next own_name c x next ≡ Some w → IsWantedBy c x w
  want-run x w (an_item item work) (by_work i v front) idle closed is = not-both item work (sym front ∙ idle)
  want-run x w (a_reply k j call) (by_call k' met idle' opened there) idle closed is = none-not_some (sym closed ∙ opened)
  want-run x w (an_action p met) (by_act p' m' idle' closed' piece found) idle closed is =
      let r = chain-some (λ stack. code_wants own_name c met.instruction stack x.frame) (stack_before_action c p x.frame.variables x.stack) w is in
      let t = before-it x p met r.0 idle closed found r.1 (piece-begins x.position p piece) in
      by_next_action met.index met.instruction t.0 t.1 (subst (λ s. code_wants own_name c met.instruction s x.frame ≡ Some w) (sym t.2) r.2)
  want-run x w (a_local_piece p) next idle closed is = none-not_some is
  want-run x w nothing next idle closed is = none-not_some is

  module _ (x y : CodeState Name) where
    local-run : (next : CodeNext Name) → ComesNext c x next → step_next own_name c x next ≡ Some y → (i : ℕ) × IsAtInstruction c x i Step × IsOnTheWay own_name c (behind_step x i) y
    local-run (a_local_piece p) (by_local p' idle closed at none) is =
        let st = step-piece c x.position p at none in
        let first = ap (λ (p : Piece). to_next_piece own_name c (record { module_number = x.module_number; position = at_index p.first; stack = x.stack; frame = counted_if p.has_step x.frame })) st.is in
        (st.index, (idle, closed, st.at, st.step), (runs-go_on own_name c (behind_step x st.index) y (sym first ∙ is)).0)
    local-run (an_item item work) next is = none-not_some is
    local-run (a_reply k i instruction) next is = none-not_some is
    local-run (an_action p met) next is = none-not_some is
    local-run nothing next is = none-not_some is

    -- what was done with the front of the work list leaves the process where it was
    item-left : (item : Cell Name) (work : List (Cell Name)) (at : ℕ) (a : CellAction Name) → x.frame.work ≡ item ∷ work → code_answered own_name c x at a ≡ Some y → IsLeftByItem c x item work a y
    item-left item work at a front is =
        let r = worked-off (work_done item a (counted_action (record (x.frame) { work = work }))) (sym (ap (λ w. settle_next own_name c x at a (item_or w (call_or_piece c x.position x.frame.call))) front) ∙ is) in
        record { done = r.0; same = r.1 }
      where
        worked-off : (r : Completion Name) → worked x r ≡ Some y → (r ≡ stays y.frame) × (record y { frame = x.frame } ≡ x)
        worked-off (stays b) is = let e = some-injective is in (ap (λ (u : CodeState Name). stays u.frame) e, ap (λ (u : CodeState Name). record u { frame = x.frame }) (sym e))
        worked-off (goes o b) is = none-not_some is
        worked-off stuck is = none-not_some is

    module _ (at : ℕ) (a : CellAction Name) where
      abbrev RunsFrom : Type 0
      RunsFrom = (u : CodeState Name) × IsLeftBy c x at a u × IsOnTheWay own_name c u y

      abbrev effect_at : Instruction → List Value → Frame Name → Effect Name
      effect_at i stack b = code_settles own_name c i stack at a (counted_action b)

      -- from before the action
      module _ (p : Piece) (met : Met) (stack : List Value) (u : CodeState Name) (way : IsOnTheWay own_name c u y) (idle : x.frame.work ≡ []) (closed : x.frame.call ≡ None) (found : action_of c p ≡ Some met) (operands : stack_before_action c p x.frame.variables x.stack ≡ Some stack)
          (comes : (let e = effect_at met.instruction stack (counted_if p.has_step x.frame) in state_behind c x met.index met.instruction e.stack e.completion ≡ Some u)) where
        abbrev Left : (index : ℕ) → Instruction → List Value → Frame Name → Type 0
        Left j i s b = let e = effect_at i s b in state_behind c x j i e.stack e.completion ≡ Some u

        step-left : (i : ℕ) → x.position ≡ at_index i → instruction_at c.code i ≡ Some Step → p ≡ record { has_step = true; first = suc i } → RunsFrom
        step-left i position there e =
            let first : p.first ≡ suc i = ap (λ (p : Piece). p.first) e in
            let s = behind_step x i in
            let r = comes-to c (drop (suc i) c.code.code) (suc i) s s stack met as_it_begins refl refl (subst (λ k. behind_operands c x.frame.variables (drop k c.code.code) x.stack ≡ Some stack) first operands) (subst (λ k. action_from c.scope.types (drop k c.code.code) k ≡ Some met) first found) in
            let v = r.state in
            let counted : Left met.index met.instruction stack (counted_step x.frame) = subst (λ (p : Piece). Left met.index met.instruction stack (counted_if p.has_step x.frame)) e comes in
            let here : Left met.index met.instruction v.stack v.frame = subst (λ b. Left met.index met.instruction v.stack b) (sym r.frame) (subst (λ s. Left met.index met.instruction s (counted_step x.frame)) (sym r.stack) counted) in
            let f = effect_at met.instruction v.stack v.frame in
            (u, by_action met.index met.instruction v u (by_its_step i met.index met.instruction v (idle, closed, position, there) r.way r.position r.at r.acts) (behind-same c x v met.index met.instruction f.stack f.completion r.same ∙ here), way)

        once-left : (i : ℕ) (action : Instruction) → x.position ≡ at_index i → instruction_at c.code i ≡ Some action → is_action c.scope.types action ≡ true → p ≡ record { has_step = false; first = i } → RunsFrom
        once-left i action position there acts e =
            let d = first-dropped c.code.code i action there in
            let first : p.first ≡ i = ap (λ (p : Piece). p.first) e in
            let met_is : record { index = i; instruction = action } ≡ met =
            some-injective (sym (ap (λ xs. action_from c.scope.types xs i) d.1 ∙ action-there c.scope.types action d.0 i acts) ∙ subst (λ k. action_from c.scope.types (drop k c.code.code) k ≡ Some met) first found) in
            let stack_is : x.stack ≡ stack =
            some-injective (sym (ap (λ xs. behind_operands c x.frame.variables xs x.stack) d.1 ∙ ap (λ b. cond b (option_and_then (behind_operands c x.frame.variables d.0) (pushed (operand c action x.frame.variables) x.stack)) (Some x.stack)) (not-operand c.scope.types action acts))
            ∙ subst (λ k. behind_operands c x.frame.variables (drop k c.code.code) x.stack ≡ Some stack) first operands) in
            let counted : Left met.index met.instruction stack x.frame = subst (λ (p : Piece). Left met.index met.instruction stack (counted_if p.has_step x.frame)) e comes in
            let here : Left i action x.stack x.frame = subst (λ (m : Met). Left m.index m.instruction x.stack x.frame) (sym met_is) (subst (λ s. Left met.index met.instruction s x.frame) (sym stack_is) counted) in
            (u, by_action i action x u (at_once i action (idle, closed, position, there) acts) here, way)

        begun-left : Begins x.position p → RunsFrom
        begun-left (with_step i position there e) = step-left i position there e
        begun-left (with_action i action position there acts e) = once-left i action position there acts e

      answer-run : (next : CodeNext Name) → ComesNext c x next → x.frame.work ≡ [] → settle_next own_name c x at a next ≡ Some y → RunsFrom
      answer-run (an_item item work) (by_work i w front) idle is = not-both item work (sym front ∙ idle)
      answer-run (a_reply k j call) (by_call k' met idle' opened there) idle is =
          let u = chain-some (to_next_piece own_name c) (state_behind c x j call x.stack (code_hears call k a (counted_action x.frame))) y is in
          let here = met-there x.position met there in
          (u.0, by_reply k j call u.0 idle opened here.0 here.1 u.1, (runs-go_on own_name c u.0 y u.2).0)
      answer-run (an_action p met) (by_act p' m' idle' closed piece found) idle is =
          let r = chain-some (settled_action own_name c x p met at a) (stack_before_action c p x.frame.variables x.stack) y is in
          let e = effect_at met.instruction r.0 (counted_if p.has_step x.frame) in
          let u = chain-some (to_next_piece own_name c) (state_behind c x met.index met.instruction e.stack e.completion) y r.2 in
          begun-left p met r.0 u.0 (runs-go_on own_name c u.0 y u.2).0 idle closed found r.1 u.1 (piece-begins x.position p piece)
      answer-run (a_local_piece p) next idle is = none-not_some is
      answer-run nothing next idle is = none-not_some is

pub steps-are_runs : StepsAreRuns
steps-are_runs image c = record {
  begins = λ code number port x there is. (runs-go_on own_name c (as_begun c code number port) x (sym (ap (option_and_then (λ c. code_begin own_name c code number port)) there) ∙ is)).0;
  items = λ x y at a coded is item work front. item-left c x y item work at a front (sym (ap (option_and_then (λ c. code_answered own_name c x at a)) coded) ∙ is);
  wants = λ x w coded is idle closed. want-run c x w (code_next c x) (comes-next c x) idle closed (sym (ap (option_and_then (λ c. code_wanted own_name c x)) coded) ∙ is);
  steps = λ x y coded is. local-run c x y (code_next c x) (comes-next c x) (sym (ap (option_and_then (λ c. code_local_step own_name c x)) coded) ∙ is);
  answers = λ x y at a coded is idle. answer-run c x y at a (code_next c x) (comes-next c x) idle (sym (ap (option_and_then (λ c. code_answered own_name c x at a)) coded) ∙ is);
}
