-- Runs of code, instruction by instruction.
use Rattle.std.proofs.Common.{◌≡◌, ℕ, suc, ◌+◌, List, ◌∷◌, ◌++◌, length, false, cond, Some, option_map, option_and_then, refl, sym, ap, subst, ◌∙◌, arith}
use Rattle.herm_model.proofs.Options.{some-injective}
use Rattle.herm_model.specs.Outcomes.{Outcome}
use Rattle.herm_model.specs.Values.{Name, Value}
use Rattle.herm_forms.specs.Frames.{Frame, goes}
use Rattle.herm_instructions.specs.Instructions.{Instruction, End, EndBy}
use Rattle.herm_instructions.specs.Images.{instruction_at}
use Rattle.herm_code_machine.specs.ReadyCode.{ReadyCode}
use Rattle.herm_code_machine.specs.Stacks.{Effect, leaving}
use Rattle.herm_code_machine.specs.Effects.{effect}
use Rattle.herm_code_machine.specs.CodeStates.{Position, at_index, at_end, at_end_by, CodeState, leads, stack_after, state_behind, done_instruction, begins_piece, on_by, on_from, run_on, to_next_piece}
use Rattle.herm_code_machine.specs.laws.GoodImageLaws.{IsEnd}
use Rattle.herm_code_machine.specs.laws.PieceLaws.{IsAtPiece}
use Rattle.herm_code_machine.proofs.Standing.{runs-are-one}
use Rattle.herm_simulation.specs.Leading.{StandFrom, state_at, LeadsTo}
use Rattle.herm_translated.proofs.Joined.{get-left, get-right, got-within}

-- rows of instructions that stand in the code
module _ (c : ReadyCode) where
  pub stand-first : (i : ℕ) (x : Instruction) (row : List Instruction) → StandFrom c i (x ∷ row) → instruction_at c.code i ≡ Some x
  stand-first i x row h = let same : i + 0 ≡ i = omega arith in subst (λ n. instruction_at c.code n ≡ Some x) same (h 0 x refl)

  pub stand-rest : (i : ℕ) (x : Instruction) (row : List Instruction) → StandFrom c i (x ∷ row) → StandFrom c (suc i) row
  stand-rest i x row h n y e = let same : i + suc n ≡ suc i + n = omega arith in subst (λ n. instruction_at c.code n ≡ Some y) same (h (suc n) y e)

  pub stand-left : (i : ℕ) (row more : List Instruction) → StandFrom c i (row ++ more) → StandFrom c i row
  stand-left i row more h n x e = h n x (get-left row more n (got-within row n x e) ∙ e)

  pub stand-right : (i : ℕ) (row more : List Instruction) → StandFrom c i (row ++ more) → StandFrom c (i + length row) more
  stand-right i row more h n x e =
      let same : i + (length row + n) ≡ i + length row + n = omega arith in
      subst (λ n. instruction_at c.code n ≡ Some x) same (h (length row + n) x (get-right row more (length row + n) n refl ∙ e))

module _ (name : Name → Name) (c : ReadyCode) where
  pub nothing-leads : (s : CodeState Name) → LeadsTo name c s s
  nothing-leads s = (0, λ m. ap (λ q. run_on name c q s) (omega arith))

  pub leads-then : (s t v : CodeState Name) → LeadsTo name c s t → LeadsTo name c t v → LeadsTo name c s v
  leads-then s t v first second = (
    first.0 + second.0,
    λ m.
        (let same : first.0 + second.0 + m ≡ first.0 + (second.0 + m) = omega arith in
        ap (λ q. run_on name c q s) same ∙ first.1 (second.0 + m) ∙ second.1 m),
  )

  pub leads-from : (s t : CodeState Name) → s ≡ t → LeadsTo name c s t
  leads-from s t e = subst (LeadsTo name c s) e (nothing-leads s)

  pub instruction-leads : (s t : CodeState Name) (i : ℕ) (x : Instruction) → s.position ≡ at_index i → instruction_at c.code i ≡ Some x → begins_piece c x ≡ false → done_instruction name c s i x ≡ Some t → LeadsTo name c s t
  instruction-leads s t i x here at other is = (
    1,
    λ m.
        (let same : 1 + m ≡ suc m = omega arith in
        ap (λ q. run_on name c q s) same
        ∙ ap (on_from name c (run_on name c m) s) here
        ∙ ap (on_by name c (run_on name c m) s i) at
        ∙ ap (λ b. cond b (Some s) (option_and_then (run_on name c m) (done_instruction name c s i x))) other
        ∙ ap (option_and_then (run_on name c m)) is),
  )

  done-plain : (s : CodeState Name) (i : ℕ) (x : Instruction) → (IsEnd x → ⊥)
      → done_instruction name c s i x ≡ state_behind c s i x (effect name c x s.stack s.frame).stack (effect name c x s.stack s.frame).completion
  done-plain s i End h = absurd (h tt)
  done-plain s i (EndBy e) h = absurd (h tt)
  done-plain s i x h = refl

  -- an instruction that is neither an end nor the beginning of a piece
  pub effect-leads : (k i j : ℕ) (x : Instruction) (stack after : List Value) (b b' : Frame Name) (o : Outcome) → instruction_at c.code i ≡ Some x → begins_piece c x ≡ false → (IsEnd x → ⊥)
      → effect name c x stack b ≡ leaving after (goes o b') → leads c i x o ≡ Some j → LeadsTo name c (state_at k i stack b) (state_at k j (stack_after o after) b')
  effect-leads k i j x stack after b b' o at other plain is led =
      let s = state_at k i stack b in
      instruction-leads s (state_at k j (stack_after o after) b') i x refl at other
      (done-plain s i x plain
      ∙ ap (λ (e : Effect Name). state_behind c s i x e.stack e.completion) is
      ∙ ap (option_map (λ j. state_at k j (stack_after o after) b')) led)

  -- a run that comes to where a piece begins comes to nothing else
  pub rests-at : (t : CodeState Name) (p : Position) → t.position ≡ p → IsAtPiece c p → run_on name c 1 t ≡ Some t
  rests-at t (at_index i) here h =
      ap (on_from name c (run_on name c 0) t) here
      ∙ ap (on_by name c (run_on name c 0) t i) h.1
      ∙ ap (λ b. cond b (Some t) (option_and_then (run_on name c 0) (done_instruction name c t i h.0))) h.2
  rests-at t at_end here h = ap (on_from name c (run_on name c 0) t) here
  rests-at t (at_end_by e) here h = ap (on_from name c (run_on name c 0) t) here

  pub leads-one : (s t u : CodeState Name) → LeadsTo name c s t → IsAtPiece c t.position → to_next_piece name c s ≡ Some u → u ≡ t
  leads-one s t u led piece is =
      let q = led.0 + 1 in
      let comes : run_on name c q s ≡ Some t = led.1 1 ∙ rests-at t t.position refl piece in
      let n = suc (length c.code.code) in
      let same : q + n ≡ n + q = omega arith in
      some-injective (sym (runs-are-one name c n q s u is) ∙ sym (ap (λ k. run_on name c k s) same) ∙ runs-are-one name c q n s t comes)
