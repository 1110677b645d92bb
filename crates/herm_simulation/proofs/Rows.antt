-- Instructions in a row lead on to the next one behind them, or to the landing of an exception.
use Rattle.std.proofs.Common.{◌≡◌, ℕ, suc, ◌+◌, List, [], ◌∷◌, ◌++◌, length, false, Some, inl, inr, refl, ap, subst, ◌∙◌, arith}
use Rattle.std.specs.Prelude.{⊤, flat_map}
use Rattle.herm_model.specs.Lists.{IsIn}
use Rattle.herm_model.specs.Types.{TypeTable}
use Rattle.herm_model.specs.Expressions.{Literal, Expression, Atom}
use Rattle.herm_model.specs.Outcomes.{Outcome, ok, raised}
use Rattle.herm_model.specs.Values.{Name, Value}
use Rattle.herm_forms.specs.Frames.{Frame, Completion, goes, stays, stuck}
use Rattle.herm_instructions.specs.Actions.{is_action}
use Rattle.herm_instructions.specs.Effects.{exceptions_of}
use Rattle.herm_instructions.specs.Instructions.{Instruction}
use Rattle.herm_instructions.specs.Images.{landing_of}
use Rattle.herm_code_machine.specs.CodeStates.{CodeState, leads, begins_piece}
use Rattle.herm_code_machine.specs.Effects.{effect}
use Rattle.herm_code_machine.specs.ExpressionCode.{in_row, row_effect}
use Rattle.herm_code_machine.specs.ReadyCode.{ReadyCode}
use Rattle.herm_code_machine.specs.Stacks.{Effect, leaving}
use Rattle.herm_code_machine.specs.laws.GoodImageLaws.{IsEnd}
use Rattle.herm_translated.specs.Fronts.{expression_code, atom_code}
use Rattle.herm_translated.proofs.EachInstruction.{expression-each, atoms-each}
use Rattle.herm_translated.proofs.Joined.{get-left, get-right, got-within}
use Rattle.herm_simulation.specs.Leading.{StandFrom, state_at, LeadsTo}
use Rattle.herm_simulation.specs.FrontsInPlace.{LandFrom}
use Rattle.herm_simulation.proofs.Leading.{stand-first, stand-rest, leads-then, leads-from, effect-leads}
use Rattle.herm_simulation.proofs.Raised.{exception_in, RaisesListed, const-listed, load-listed, size-listed, apply-listed, combine-listed}

module _ (c : ReadyCode) (exit_at : Outcome → ℕ) where
  pub land-first : (i : ℕ) (x : Instruction) (row : List Instruction) → LandFrom c exit_at i (x ∷ row) → (e : ℕ) → IsIn e (exceptions_of c.scope.types c.scope.variables x) → landing_of c.code i e ≡ Some (exit_at (raised e))
  land-first i x row h e m = let same : i + 0 ≡ i = omega arith in subst (λ n. landing_of c.code n e ≡ Some (exit_at (raised e))) same (h 0 x refl e m)

  pub land-rest : (i : ℕ) (x : Instruction) (row : List Instruction) → LandFrom c exit_at i (x ∷ row) → LandFrom c exit_at (suc i) row
  land-rest i x row h n y at e m = let same : i + suc n ≡ suc i + n = omega arith in subst (λ n. landing_of c.code n e ≡ Some (exit_at (raised e))) same (h (suc n) y at e m)

  pub land-left : (i : ℕ) (row more : List Instruction) → LandFrom c exit_at i (row ++ more) → LandFrom c exit_at i row
  land-left i row more h n x at e m = h n x (get-left row more n (got-within row n x at) ∙ at) e m

  pub land-right : (i : ℕ) (row more : List Instruction) → LandFrom c exit_at i (row ++ more) → LandFrom c exit_at (i + length row) more
  land-right i row more h n x at e m =
      let same : i + (length row + n) ≡ i + length row + n = omega arith in
      subst (λ n. landing_of c.code n e ≡ Some (exit_at (raised e))) same (h (length row + n) x (get-right row more (length row + n) n refl ∙ at) e m)

module _ (name : Name → Name) (c : ReadyCode) (exit_at : Outcome → ℕ) where
  abbrev types : TypeTable
  types = c.scope.types

  abbrev variables : List ℕ
  variables = c.scope.variables

  -- an instruction that goes on to the next one, or raises what it lists
  pub record IsOperand (x : Instruction) : Type 0 where
    pub other : begins_piece c x ≡ false
    pub plain : IsEnd x → ⊥
    pub onward : (i : ℕ) → leads c i x ok ≡ Some (suc i)
    pub raises : RaisesListed name c types variables x
    pub local : is_action c.scope.types x ≡ false

  pub expression-operands : (constants : List Literal) (e : Expression) (x : Instruction) → IsIn x (expression_code constants e) → IsOperand x
  expression-operands constants =
      expression-each constants IsOperand
      (λ k. record { other = refl; plain = λ v. v; onward = λ i. refl; raises = const-listed name c types variables k; local = refl })
      (λ p. record { other = refl; plain = λ v. v; onward = λ i. refl; raises = load-listed name c types variables p; local = refl })
      (λ p. record { other = refl; plain = λ v. v; onward = λ i. refl; raises = size-listed name c types variables p; local = refl })
      (λ u. record { other = refl; plain = λ v. v; onward = λ i. refl; raises = apply-listed name c types variables u; local = refl })
      (λ o. record { other = refl; plain = λ v. v; onward = λ i. refl; raises = combine-listed name c types variables o; local = refl })

  pub atom-operands : (constants : List Literal) (keys : List Atom) (x : Instruction) → IsIn x (flat_map (atom_code constants) keys) → IsOperand x
  atom-operands constants =
      atoms-each constants IsOperand
      (λ k. record { other = refl; plain = λ v. v; onward = λ i. refl; raises = const-listed name c types variables k; local = refl })
      (λ p. record { other = refl; plain = λ v. v; onward = λ i. refl; raises = load-listed name c types variables p; local = refl })

  -- from a state to the index behind a row, or to the edge of an exception
  abbrev pub Led : (module_number behind : ℕ) → CodeState Name → List Value → Completion Name → Type 0
  Led k j s stack (goes ok b) = LeadsTo name c s (state_at k j stack b)
  Led k j s stack (goes (raised e) b) = LeadsTo name c s (state_at k (exit_at (raised e)) [] b)
  Led k j s stack r = ⊤

  led-before : (k j : ℕ) (s t : CodeState Name) (stack : List Value) (r : Completion Name) → LeadsTo name c s t → Led k j t stack r → Led k j s stack r
  led-before k j s t stack (goes ok b) before h = leads-then name c s t (state_at k j stack b) before h
  led-before k j s t stack (goes (raised e) b) before h = leads-then name c s t (state_at k (exit_at (raised e)) [] b) before h
  led-before k j s t stack r before h = tt

  pub row-leads : (row : List Instruction) (k i : ℕ) (stack : List Value) (b : Frame Name) → StandFrom c i row → LandFrom c exit_at i row → ((x : Instruction) → IsIn x row → IsOperand x)
      → Led k (i + length row) (state_at k i stack b) (row_effect name c row stack b).stack (row_effect name c row stack b).completion
  row-leads [] k i stack b stands lands each = leads-from name c (state_at k i stack b) (state_at k (i + 0) stack b) (ap (λ n. state_at k n stack b) (omega arith))
  row-leads (x ∷ row) k i stack b stands lands each =
      by e.completion refl
      (λ b'.
      (let same : suc i + length row ≡ at = omega arith in
      subst (λ n. Led k n (state_at k (suc i) e.stack b') (row_effect name c row e.stack b').stack (row_effect name c row e.stack b').completion) same
      (row-leads row k (suc i) e.stack b' (stand-rest c i x row stands) (land-rest c exit_at i x row lands) (λ y m. each y (inr m)))))
    where
      e : Effect Name
      e = effect name c x stack b

      operand : IsOperand x
      operand = each x (inl refl)

      at : ℕ
      at = i + suc (length row)

      Again : Type 0
      Again = (b' : Frame Name) → Led k at (state_at k (suc i) e.stack b') (row_effect name c row e.stack b').stack (row_effect name c row e.stack b').completion

      on : (b' : Frame Name) → e.completion ≡ goes ok b' → LeadsTo name c (state_at k i stack b) (state_at k (suc i) e.stack b')
      on b' is = effect-leads name c k i (suc i) x stack e.stack b b' ok (stand-first c i x row stands) operand.other operand.plain (ap (leaving e.stack) is) (operand.onward i)

      lands-there : (x' : ℕ) (b' : Frame Name) → e.completion ≡ goes (raised x') b' → LeadsTo name c (state_at k i stack b) (state_at k (exit_at (raised x')) [] b')
      lands-there x' b' is =
          effect-leads name c k i (exit_at (raised x')) x stack e.stack b b' (raised x') (stand-first c i x row stands) operand.other operand.plain (ap (leaving e.stack) is)
          (land-first c exit_at i x row lands x' (operand.raises stack b x' (ap exception_in is)))

      by : (r : Completion Name) → e.completion ≡ r → Again → Led k at (state_at k i stack b) (in_row (row_effect name c row) e.stack r).stack (in_row (row_effect name c row) e.stack r).completion
      by (goes ok b') is again = led-before k at (state_at k i stack b) (state_at k (suc i) e.stack b') (row_effect name c row e.stack b').stack (row_effect name c row e.stack b').completion (on b' is) (again b')
      by (goes (raised x') b') is again = lands-there x' b' is
      by (goes o b') is again = tt
      by (stays b') is again = tt
      by stuck is again = tt
