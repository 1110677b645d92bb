-- Processes of code stand at pieces, and runs to the next piece are one.
use Rattle.std.proofs.Common.{◌≡◌, ℕ, zero, suc, ◌+◌, List, [], ◌∷◌, Bool, true, false, cond, Option, Some, None, option_and_then, refl, sym, ap, subst, ◌∙◌, ◌++◌, arith, length, append-nil}
use Rattle.herm_model.specs.Values.{Value}
use Rattle.herm_model.proofs.Options.{none-not_some, some-injective, chain-some, map-some}
use Rattle.herm_journal.specs.Messages.{CellAction}
use Rattle.herm_forms.specs.ClosesAndAnswers
use Rattle.herm_forms.specs.Frames.{Name, Completion, goes, stays, stuck, counted_action}
use Rattle.herm_instructions.specs.Instructions.{Instruction}
use Rattle.herm_instructions.specs.Images.{instruction_at, landing_of}
use Rattle.herm_code_machine.specs.ReadyCode.{ReadyCode}
use Rattle.herm_code_machine.specs.Stacks.{pop_onto, pop}
use Rattle.herm_code_machine.specs.CodeActions.{code_settles, code_hears}
use Rattle.herm_code_machine.specs.CodeStates.{Position, at_index, at_end, at_end_by, CodeState, state_behind, done_instruction, begins_piece, on_by, on_from, run_on, to_next_piece, first_frame}
use Rattle.herm_code_machine.specs.Pieces.{stack_before_action}
use Rattle.herm_code_machine.specs.CodeSteps.{CodeNext, an_item, a_reply, an_action, a_local_piece, nothing, code_next, counted_if, step_next, settled, settled_action, worked, settle_next}
use Rattle.herm_code_machine.specs.laws.StackLaws.{pushed_on, PoppedAsPushed, ExceptionsLand, RunsAreOne}
use Rattle.herm_code_machine.specs.laws.PieceLaws.{IsAtPiece, ProcessesStandAtPieces}

-- values taken in the order in which they were pushed
popped-back : (values : List Value) (n : ℕ) (taken stack : List Value) → pop_onto (length values + n) taken (pushed_on values stack) ≡ pop_onto n (values ++ taken) stack
popped-back [] n taken stack = let same : 0 + n ≡ n = omega arith in ap (λ k. pop_onto k taken stack) same
popped-back (v ∷ values) n taken stack =
    let same : suc (length values) + n ≡ length values + suc n = omega arith in
    ap (λ k. pop_onto k taken (pushed_on values (v ∷ stack))) same ∙ popped-back values (suc n) taken (v ∷ stack)

pub popped-as-pushed : PoppedAsPushed
popped-as-pushed values stack =
    let same : length values ≡ length values + 0 = omega arith in
    ap (λ k. pop k (pushed_on values stack)) same ∙ popped-back values 0 [] stack ∙ ap (λ vs. Some (record { values = vs; rest = stack })) (append-nil values)

module _ (name : Name → Name) (c : ReadyCode) where
  at-cond : (next : CodeState Name → Option (CodeState Name)) → ((u t : CodeState Name) → next u ≡ Some t → IsAtPiece c t.position)
      → (s t : CodeState Name) (i : ℕ) (instruction : Instruction) (begins : Bool) → s.position ≡ at_index i → instruction_at c.code i ≡ Some instruction → begins_piece c instruction ≡ begins
      → cond begins (Some s) (option_and_then next (done_instruction name c s i instruction)) ≡ Some t → IsAtPiece c t.position
  at-cond next on s t i instruction true at there begins is = subst (λ (t : CodeState Name). IsAtPiece c t.position) (some-injective is) (subst (IsAtPiece c) (sym at) (instruction, there, begins))
  at-cond next on s t i instruction false at there begins is = let m = chain-some next (done_instruction name c s i instruction) t is in on m.0 t m.2

  at-by : (next : CodeState Name → Option (CodeState Name)) → ((u t : CodeState Name) → next u ≡ Some t → IsAtPiece c t.position)
      → (s t : CodeState Name) (i : ℕ) (o : Option Instruction) → s.position ≡ at_index i → instruction_at c.code i ≡ o → on_by name c next s i o ≡ Some t → IsAtPiece c t.position
  at-by next on s t i None at there is = none-not_some is
  at-by next on s t i (Some instruction) at there is = at-cond next on s t i instruction (begins_piece c instruction) at there refl is

  at-from : (next : CodeState Name → Option (CodeState Name)) → ((u t : CodeState Name) → next u ≡ Some t → IsAtPiece c t.position)
      → (s t : CodeState Name) (p : Position) → s.position ≡ p → on_from name c next s p ≡ Some t → IsAtPiece c t.position
  at-from next on s t (at_index i) at is = at-by next on s t i (instruction_at c.code i) at refl is
  at-from next on s t at_end at is = subst (λ (t : CodeState Name). IsAtPiece c t.position) (some-injective is) (subst (IsAtPiece c) (sym at) tt)
  at-from next on s t (at_end_by e) at is = subst (λ (t : CodeState Name). IsAtPiece c t.position) (some-injective is) (subst (IsAtPiece c) (sym at) tt)

  at-run : (n : ℕ) (s t : CodeState Name) → run_on name c n s ≡ Some t → IsAtPiece c t.position
  at-run zero s t is = none-not_some is
  at-run (suc n) s t is = at-from (run_on name c n) (at-run n) s t s.position refl is

  at-next : (s t : CodeState Name) → to_next_piece name c s ≡ Some t → IsAtPiece c t.position
  at-next s t is = at-run (suc (length c.code.code)) s t is

  at-settled : (s t : CodeState Name) (i : ℕ) (instruction : Instruction) (stack : List Value) (r : Completion Name) → settled name c s i instruction stack r ≡ Some t → IsAtPiece c t.position
  at-settled s t i instruction stack r is = let m = chain-some (to_next_piece name c) (state_behind c s i instruction stack r) t is in at-next m.0 t m.2

  at-step : (s t : CodeState Name) (next : CodeNext Name) → step_next name c s next ≡ Some t → IsAtPiece c t.position
  at-step s t (a_local_piece p) is = at-next (record { module_number = s.module_number; position = at_index p.first; stack = s.stack; frame = counted_if p.has_step s.frame }) t is
  at-step s t _ is = none-not_some is

  at-worked : (s t : CodeState Name) (r : Completion Name) → IsAtPiece c s.position → worked s r ≡ Some t → IsAtPiece c t.position
  at-worked s t (stays b) at is = subst (λ (t : CodeState Name). IsAtPiece c t.position) (some-injective is) at
  at-worked s t (goes o b) at is = none-not_some is
  at-worked s t stuck at is = none-not_some is

  at-answer : (s t : CodeState Name) (at : ℕ) (a : CellAction Name) (next : CodeNext Name) → IsAtPiece c s.position → settle_next name c s at a next ≡ Some t → IsAtPiece c t.position
  at-answer s t at a (an_item item work) here is = at-worked s t (ClosesAndAnswers.work_done item a (counted_action (record (s.frame) { work = work }))) here is
  at-answer s t at a (a_reply call i instruction) here is = at-settled s t i instruction s.stack (code_hears instruction call a (counted_action s.frame)) is
  at-answer s t at a (an_action p m) here is =
      let r = chain-some (settled_action name c s p m at a) (stack_before_action c p s.frame.variables s.stack) t is in
      let e = code_settles name c m.instruction r.0 at a (counted_action (counted_if p.has_step s.frame)) in
      at-settled s t m.index m.instruction e.stack e.completion r.2
  at-answer s t at a (a_local_piece p) here is = none-not_some is
  at-answer s t at a nothing here is = none-not_some is

  -- a run with more instructions to spare
  further-cond : (next next' : CodeState Name → Option (CodeState Name)) → ((u t : CodeState Name) → next u ≡ Some t → next' u ≡ Some t)
      → (s t : CodeState Name) (begins : Bool) (o : Option (CodeState Name)) → cond begins (Some s) (option_and_then next o) ≡ Some t → cond begins (Some s) (option_and_then next' o) ≡ Some t
  further-cond next next' on s t true o is = is
  further-cond next next' on s t false None is = is
  further-cond next next' on s t false (Some u) is = on u t is

  further-by : (next next' : CodeState Name → Option (CodeState Name)) → ((u t : CodeState Name) → next u ≡ Some t → next' u ≡ Some t)
      → (s t : CodeState Name) (i : ℕ) (o : Option Instruction) → on_by name c next s i o ≡ Some t → on_by name c next' s i o ≡ Some t
  further-by next next' on s t i None is = is
  further-by next next' on s t i (Some instruction) is = further-cond next next' on s t (begins_piece c instruction) (done_instruction name c s i instruction) is

  further-from : (next next' : CodeState Name → Option (CodeState Name)) → ((u t : CodeState Name) → next u ≡ Some t → next' u ≡ Some t)
      → (s t : CodeState Name) (p : Position) → on_from name c next s p ≡ Some t → on_from name c next' s p ≡ Some t
  further-from next next' on s t (at_index i) is = further-by next next' on s t i (instruction_at c.code i) is
  further-from next next' on s t at_end is = is
  further-from next next' on s t (at_end_by e) is = is

  further : (n m : ℕ) (s t : CodeState Name) → run_on name c n s ≡ Some t → run_on name c (n + m) s ≡ Some t
  further zero m s t is = none-not_some is
  further (suc n) m s t is =
      let same : suc (n + m) ≡ suc n + m = omega arith in
      subst (λ k. run_on name c k s ≡ Some t) same (further-from (run_on name c n) (run_on name c (n + m)) (λ u t. further n m u t) s t s.position is)

pub stand-at-pieces : ProcessesStandAtPieces
stand-at-pieces name c = record {
  begins = λ code number port x is. at-next name c (record { module_number = code; position = at_index 0; stack = []; frame = first_frame c.scope.variables number port }) x is;
  local_steps = λ s t is. at-step name c s t (code_next c s) is;
  answers = λ s t at a here is. at-answer name c s t at a (code_next c s) here is;
}

pub runs-are-one : RunsAreOne
runs-are-one name c most more s t is = further name c most more s t is

pub exceptions-land : ExceptionsLand
exceptions-land c s t i instruction stack e b is =
    let m = map-some (λ j. record { module_number = s.module_number; position = at_index j; stack = []; frame = b }) (landing_of c.code i e) t is in
    (m.0, m.1, sym (ap (λ (t : CodeState Name). t.position) m.2), sym (ap (λ (t : CodeState Name). t.stack) m.2), sym (ap (λ (t : CodeState Name). t.frame) m.2))
