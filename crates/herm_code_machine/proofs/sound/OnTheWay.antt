-- In the run from a state at a label of good code each instruction finds its operands.
use Rattle.std.proofs.Common.{◌≡◌, ℕ, true, false, Some, refl, sym, ap, subst, ◌∙◌}
use mathlib.Core.Bool.{false≢true}
use Rattle.herm_model.specs.Lists.{IsIn}
use Rattle.herm_model.specs.Targets
use Rattle.herm_model.specs.Values.{Name}
use Rattle.herm_model.specs.WellFormedTables.{IsWellFormedTable}
use Rattle.herm_model.proofs.Options.{some-injective}
use Rattle.herm_instructions.specs.GoodCode.{IsGood}
use Rattle.herm_instructions.specs.Images.{CodeModule, Image, instruction_at}
use Rattle.herm_instructions.specs.Instructions.{Instruction, End, EndBy}
use Rattle.herm_instructions.specs.Labels.{Label}
use Rattle.herm_instructions.specs.Places.{label_at}
use Rattle.herm_code_machine.specs.CodeInstance.{own_name}
use Rattle.herm_code_machine.specs.CodeStates.{Position, at_index, at_end, at_end_by, CodeState, ended_at, done_instruction, begins_piece}
use Rattle.herm_code_machine.specs.ReadyCode.{ReadyCode, ready_code}
use Rattle.herm_code_machine.specs.laws.EndLaws.{IsOnTheWay, as_it_begins, by_instruction}
use Rattle.herm_code_machine.specs.laws.OperandLaws.{FindsOperands, IsNowhereStuck}
use Rattle.herm_code_machine.specs.laws.StandingLaws.{IsAtEnd}
use Rattle.herm_code_machine.proofs.sound.Between as between
use Rattle.herm_code_machine.proofs.sound.Processes.{from-holds}
use Rattle.herm_code_machine.proofs.sound.RunsThere.{instruction-there}
use Rattle.herm_code_machine.proofs.sound.WayToAction.{same-index}

not-ended : {A : Type 0} (p : Position) (i : ℕ) → IsAtEnd p → p ≡ at_index i → A
not-ended p i h e = absurd (subst IsAtEnd e h)

-- from where a piece begins there is no way
stays-there : (c : ReadyCode) (s : CodeState Name) (j : ℕ) (instruction : Instruction) → s.position ≡ at_index j → instruction_at c.code j ≡ Some instruction → begins_piece c instruction ≡ true → (t : CodeState Name) → IsOnTheWay own_name c s t → t ≡ s
stays-there c s j instruction position there begins t as_it_begins = refl
stays-there c s j instruction position there begins t (by_instruction u v i other way at here none done) =
    let same : u ≡ s = stays-there c s j instruction position there begins u way in
    let index : i ≡ j = same-index i j s.position (subst (λ (u : CodeState Name). u.position ≡ at_index i) same at) position in
    let is : other ≡ instruction = some-injective (sym here ∙ ap (instruction_at c.code) index ∙ there) in
    absurd (false≢true (sym none ∙ ap (begins_piece c) is ∙ begins))

-- so no instruction is stuck there
pub stuck-nowhere : (c : ReadyCode) (s : CodeState Name) (j : ℕ) (instruction : Instruction) → s.position ≡ at_index j → instruction_at c.code j ≡ Some instruction → begins_piece c instruction ≡ true → IsNowhereStuck c s
stuck-nowhere c s j instruction position there begins t way i at =
    let same : t ≡ s = stays-there c s j instruction position there begins t way in
    let index : i ≡ j = same-index i j s.position (subst (λ (u : CodeState Name). u.position ≡ at_index i) same at) position in
    (instruction, ap (instruction_at c.code) index ∙ there, λ none. absurd (false≢true (sym none ∙ begins)))

module _ (exceptions' : ℕ) (image : Image) (good : IsGood exceptions' image) (formed : IsWellFormedTable exceptions' image.types) (m : CodeModule) (in-image : IsIn m image.modules) where
  abbrev code : ReadyCode
  code = ready_code image (label_at image.types image.constants) m

  abbrev StandsAt : ℕ → Label → CodeState Name → Type 0
  StandsAt i l s = between.StandsAt exceptions' image good formed m in-image i l s

  -- at a label, or at an end
  pub data IsHere (t : CodeState Name) : Type 0 where
    at_label : (i : ℕ) (l : Label) → StandsAt i l t → IsHere t
    at_an_end : IsAtEnd t.position → IsHere t

  -- one instruction, where there is one
  one-done : (t : CodeState Name) (i : ℕ) (l : Label) (instruction : Instruction) → StandsAt i l t → instruction_at m i ≡ Some instruction → begins_piece code instruction ≡ false → (u : CodeState Name) × (done_instruction own_name code t i instruction ≡ Some u) × IsHere u
  one-done t i l End here at other = (ended_at code t at_end Targets.end, refl, at_an_end tt)
  one-done t i l (EndBy x) here at other = (ended_at code t (at_end_by x) (Targets.end_by x), refl, at_an_end tt)
  one-done t i l instruction here at other =
      let d = between.done-there exceptions' image good formed m in-image own_name i instruction l t at here (λ v. v) other in
      let on = d.2 in
      (d.0, d.1, at_label on.index on.label on.stands)

  next-here : (t u : CodeState Name) (i : ℕ) (instruction : Instruction) → IsHere t → t.position ≡ at_index i → instruction_at m i ≡ Some instruction → begins_piece code instruction ≡ false → done_instruction own_name code t i instruction ≡ Some u → IsHere u
  next-here t u i instruction (at_an_end h) position at other done = not-ended t.position i h position
  next-here t u i instruction (at_label k l here) position at other done =
      let same = same-index k i t.position here.position position in
      let d = one-done t i l instruction (subst (λ k. StandsAt k l t) same here) at other in
      subst IsHere (some-injective (sym d.1 ∙ done)) d.2

  way-here : (s t : CodeState Name) → IsHere s → IsOnTheWay own_name code s t → IsHere t
  way-here s t h as_it_begins = h
  way-here s t h (by_instruction u v i instruction way position at other done) = next-here u v i instruction (way-here s u h way) position at other done

  pub nowhere-stuck : (s : CodeState Name) (j : ℕ) (l : Label) → StandsAt j l s → IsNowhereStuck code s
  nowhere-stuck s j l stands t way i position = by (way-here s t (at_label j l stands) way)
    where
      finds : (k : ℕ) (l : Label) → StandsAt k l t → (instruction : Instruction) → instruction_at m k ≡ Some instruction → begins_piece code instruction ≡ false → FindsOperands code t k instruction
      finds k l here instruction at other =
          let d = one-done t k l instruction here at other in
          record { label = l; labelled = here.labelled; as_labelled = from-holds code l t.stack t.frame here.holds; behind = d.0; done = d.1 }

      at-label : (k : ℕ) (l : Label) → StandsAt k l t → (instruction : Instruction) × (instruction_at m k ≡ Some instruction) × (begins_piece code instruction ≡ false → FindsOperands code t k instruction)
      at-label k l here =
          let x = instruction-there exceptions' image good formed m in-image k l here.labelled in
          (x.0, x.1, λ other. finds k l here x.0 x.1 other)

      by : IsHere t → (instruction : Instruction) × (instruction_at m i ≡ Some instruction) × (begins_piece code instruction ≡ false → FindsOperands code t i instruction)
      by (at_an_end h) = not-ended t.position i h position
      by (at_label k l here) =
          let same = same-index k i t.position here.position position in
          subst (λ i. (instruction : Instruction) × (instruction_at m i ≡ Some instruction) × (begins_piece code instruction ≡ false → FindsOperands code t i instruction)) same (at-label k l here)
