-- The way from behind a step to its action is by operands alone, which stand on the stack there.
use Rattle.std.proofs.Common.{◌≡◌, ℕ, suc, List, [], ◌∷◌, Bool, true, false, cond, ◌||◌, Option, Some, None, option_and_then, option_map, refl, sym, ap, subst, ◌∙◌, drop}
use mathlib.Core.Bool.{false≢true}
use Rattle.herm_model.specs.Outcomes.{ok}
use Rattle.herm_model.specs.Values.{Name, Value}
use Rattle.herm_model.proofs.Options.{none-not_some, some-injective, chain-some}
use Rattle.herm_forms.specs.Evaluate.{Evaluated, gives, raises, no_value}
use Rattle.herm_instructions.specs.Actions.{is_step, is_action}
use Rattle.herm_instructions.specs.Images.{instruction_at}
use Rattle.herm_instructions.specs.Instructions.{Instruction, Const, Load}
use Rattle.herm_instructions.specs.Pieces.{is_operand}
use Rattle.herm_code_machine.specs.CodeInstance.{own_name}
use Rattle.herm_code_machine.specs.CodeStates.{Position, at_index, CodeState, leads, state_behind, done_instruction, begins_piece}
use Rattle.herm_code_machine.specs.Pieces.{Met, action_from, operand, pushed, behind_operands}
use Rattle.herm_code_machine.specs.ReadyCode.{ReadyCode}
use Rattle.herm_code_machine.specs.Stacks.{Effect, pushing}
use Rattle.herm_code_machine.specs.laws.EndLaws.{IsOnTheWay, as_it_begins, by_instruction}
use Rattle.herm_code_machine.proofs.CodeLimits.{first-dropped, not-operand, action-there}
use Rattle.herm_code_machine.proofs.sound.ActionSteps.{dropped-got}

-- one index at one position
pub same-index : (i j : ℕ) (p : Position) → p ≡ at_index i → p ≡ at_index j → i ≡ j
same-index i j p e h = some-injective (ap index_in (sym e ∙ h))
  where
    index_in : Position → Option ℕ
    index_in (at_index k) = Some k
    index_in p = None

module _ (c : ReadyCode) where
  -- behind an operand
  abbrev pushed_state : CodeState Name → (index : ℕ) → List Value → CodeState Name
  pushed_state t k stack = record { module_number = t.module_number; position = at_index (suc k); stack = stack; frame = t.frame }

  pushing-done : (t : CodeState Name) (k : ℕ) (i : Instruction) (stack : List Value) (v : Evaluated) → leads c k i ok ≡ Some (suc k) → pushed v t.stack ≡ Some stack
      → (let e : Effect Name = pushing v t.stack t.frame in state_behind c t k i e.stack e.completion) ≡ Some (pushed_state t k stack)
  pushing-done t k i stack (gives v) lead is =
      ap (option_map (λ j. record { module_number = t.module_number; position = at_index j; stack = v ∷ t.stack; frame = t.frame })) lead ∙ ap (λ s. Some (pushed_state t k s)) (some-injective is)
  pushing-done t k i stack (raises x) lead is = none-not_some is
  pushing-done t k i stack no_value lead is = none-not_some is

  operand-done : (t : CodeState Name) (k : ℕ) (i : Instruction) (stack : List Value) → is_operand i ≡ true → pushed (operand c i t.frame.variables) t.stack ≡ Some stack → done_instruction own_name c t k i ≡ Some (pushed_state t k stack)
  operand-done t k (Const n) stack e is = pushing-done t k (Const n) stack (operand c (Const n) t.frame.variables) refl is
  operand-done t k (Load p) stack e is = pushing-done t k (Load p) stack (operand c (Load p) t.frame.variables) refl is
  operand-done t k i stack e is = absurd (false≢true e)

  operand-no_piece : (i : Instruction) → is_operand i ≡ true → begins_piece c i ≡ false
  operand-no_piece (Const n) e = refl
  operand-no_piece (Load p) e = refl
  operand-no_piece i e = absurd (false≢true e)

  or-true : (b : Bool) → (b || true) ≡ true
  or-true true = refl
  or-true false = refl

  action-piece : (i : Instruction) → is_action c.scope.types i ≡ true → begins_piece c i ≡ true
  action-piece i e = ap (λ b. is_step i || b) e ∙ or-true (is_step i)

  -- what is left of the operands and of the way to the action
  pub record IsUnderway (s : CodeState Name) (before : List Value) (met : Met) (t : CodeState Name) : Type 0 where
    pub index : ℕ
    pub position : t.position ≡ at_index index
    pub operands : behind_operands c t.frame.variables (drop index c.code.code) t.stack ≡ Some before
    pub found : action_from c.scope.types (drop index c.code.code) index ≡ Some met
    pub frame : t.frame ≡ s.frame
    pub same : t.module_number ≡ s.module_number

  module _ (s : CodeState Name) (before : List Value) (met : Met) where
    abbrev Under : CodeState Name → Type 0
    Under t = IsUnderway s before met t

    -- one instruction further
    further-by : (t u : CodeState Name) (i : ℕ) (instruction : Instruction) (more : List Instruction) → more ≡ drop (suc i) c.code.code → begins_piece c instruction ≡ false → done_instruction own_name c t i instruction ≡ Some u → t.frame ≡ s.frame → t.module_number ≡ s.module_number
        → (b : Bool) → is_operand instruction ≡ b → cond b (option_and_then (behind_operands c t.frame.variables more) (pushed (operand c instruction t.frame.variables) t.stack)) (Some t.stack) ≡ Some before
        → cond b (action_from c.scope.types more (suc i)) (cond (is_action c.scope.types instruction) (Some (record { index = i; instruction = instruction })) None) ≡ Some met → Under u
    further-by t u i instruction more next other done frame same true e operands found =
        let v = chain-some (behind_operands c t.frame.variables more) (pushed (operand c instruction t.frame.variables) t.stack) before operands in
        let is : pushed_state t i v.0 ≡ u = some-injective (sym (operand-done t i instruction v.0 e v.1) ∙ done) in
        subst Under is (record {
          index = suc i;
          position = refl;
          operands = subst (λ xs. behind_operands c t.frame.variables xs v.0 ≡ Some before) next v.2;
          found = subst (λ xs. action_from c.scope.types xs (suc i) ≡ Some met) next found;
          frame = frame;
          same = same;
        })
    further-by t u i instruction more next other done frame same false e operands found = by (is_action c.scope.types instruction) refl found
      where
        by : (b : Bool) → is_action c.scope.types instruction ≡ b → cond b (Some (record { index = i; instruction = instruction })) None ≡ Some met → Under u
        by true acts found = absurd (false≢true (sym other ∙ action-piece instruction acts))
        by false acts found = none-not_some found

    further : (t u : CodeState Name) (i : ℕ) (instruction : Instruction) → Under t → t.position ≡ at_index i → instruction_at c.code i ≡ Some instruction → begins_piece c instruction ≡ false → done_instruction own_name c t i instruction ≡ Some u → Under u
    further t u i instruction h position there other done =
        let here = same-index h.index i t.position h.position position in
        let d = first-dropped c.code.code i instruction there in
        further-by t u i instruction d.0 (sym (dropped-got c.code.code i instruction d.0 d.1).1) other done h.frame h.same (is_operand instruction) refl
        (subst (λ xs. behind_operands c t.frame.variables xs t.stack ≡ Some before) (ap (λ i. drop i c.code.code) here ∙ d.1) h.operands)
        (subst (λ xs. action_from c.scope.types xs i ≡ Some met) d.1 (subst (λ k. action_from c.scope.types (drop k c.code.code) k ≡ Some met) here h.found))

    pub underway : (t : CodeState Name) → Under s → IsOnTheWay own_name c s t → Under t
    underway t h as_it_begins = h
    underway t h (by_instruction u v i instruction way position at other done) = further u v i instruction (underway u h way) position at other done

    -- at the action the operands are all there
    pub record IsThere (t : CodeState Name) (j : ℕ) (action : Instruction) : Type 0 where
      pub met_is : met ≡ record { index = j; instruction = action }
      pub stack : t.stack ≡ before
      pub frame : t.frame ≡ s.frame
      pub same : t.module_number ≡ s.module_number

    pub there-at : (t : CodeState Name) (j : ℕ) (action : Instruction) → Under t → t.position ≡ at_index j → instruction_at c.code j ≡ Some action → is_action c.scope.types action ≡ true → IsThere t j action
    there-at t j action h position there acts =
        let here = same-index h.index j t.position h.position position in
        let d = first-dropped c.code.code j action there in
        let operands : behind_operands c t.frame.variables (action ∷ d.0) t.stack ≡ Some before = subst (λ xs. behind_operands c t.frame.variables xs t.stack ≡ Some before) (ap (λ i. drop i c.code.code) here ∙ d.1) h.operands in
        let found : action_from c.scope.types (action ∷ d.0) j ≡ Some met = subst (λ xs. action_from c.scope.types xs j ≡ Some met) d.1 (subst (λ k. action_from c.scope.types (drop k c.code.code) k ≡ Some met) here h.found) in
        record {
          met_is = some-injective (sym found ∙ action-there c.scope.types action d.0 j acts);
          stack = some-injective (sym (ap (λ b. cond b (option_and_then (behind_operands c t.frame.variables d.0) (pushed (operand c action t.frame.variables) t.stack)) (Some t.stack)) (not-operand c.scope.types action acts)) ∙ operands);
          frame = h.frame;
          same = h.same;
        }

  -- and the way is there, where the operands are
  pub record Comes (s t : CodeState Name) (before : List Value) (met : Met) : Type 0 where
    pub state : CodeState Name
    pub way : IsOnTheWay own_name c s state
    pub position : state.position ≡ at_index met.index
    pub stack : state.stack ≡ before
    pub frame : state.frame ≡ t.frame
    pub same : state.module_number ≡ t.module_number
    pub at : instruction_at c.code met.index ≡ Some met.instruction
    pub acts : is_action c.scope.types met.instruction ≡ true

  pub comes-to : (xs : List Instruction) (k : ℕ) (s t : CodeState Name) (before : List Value) (met : Met) → IsOnTheWay own_name c s t → t.position ≡ at_index k → drop k c.code.code ≡ xs → behind_operands c t.frame.variables xs t.stack ≡ Some before
      → action_from c.scope.types xs k ≡ Some met → Comes s t before met
  comes-to [] k s t before met way position at operands found = none-not_some found
  comes-to (instruction ∷ more) k s t before met way position at operands found =
      let d = dropped-got c.code.code k instruction more at in
      by (is_operand instruction) refl d.0 d.1 operands found (λ t way position operands found. comes-to more (suc k) s t before met way position d.1 operands found)
    where
      acting : (b : Bool) → is_action c.scope.types instruction ≡ b → instruction_at c.code k ≡ Some instruction → t.stack ≡ before → cond b (Some (record { index = k; instruction = instruction })) None ≡ Some met → Comes s t before met
      acting true acts there stack found =
          subst (Comes s t before) (some-injective found) (record { state = t; way = way; position = position; stack = stack; frame = refl; same = refl; at = there; acts = acts })
      acting false acts there stack found = none-not_some found

      by : (b : Bool) → is_operand instruction ≡ b → instruction_at c.code k ≡ Some instruction → drop (suc k) c.code.code ≡ more → cond b (option_and_then (behind_operands c t.frame.variables more) (pushed (operand c instruction t.frame.variables) t.stack)) (Some t.stack) ≡ Some before
          → cond b (action_from c.scope.types more (suc k)) (cond (is_action c.scope.types instruction) (Some (record { index = k; instruction = instruction })) None) ≡ Some met
          → ((u : CodeState Name) → IsOnTheWay own_name c s u → u.position ≡ at_index (suc k) → behind_operands c u.frame.variables more u.stack ≡ Some before → action_from c.scope.types more (suc k) ≡ Some met → Comes s u before met) → Comes s t before met
      by true e there next operands found again =
          let v = chain-some (behind_operands c t.frame.variables more) (pushed (operand c instruction t.frame.variables) t.stack) before operands in
          let u = pushed_state t k v.0 in
          let r = again u (by_instruction t u k instruction way position there (operand-no_piece instruction e) (operand-done t k instruction v.0 e v.1)) refl v.2 found in
          record { state = r.state; way = r.way; position = r.position; stack = r.stack; frame = r.frame; same = r.same; at = r.at; acts = r.acts }
      by false e there next operands found again = acting (is_action c.scope.types instruction) refl there (some-injective operands) found
