-- A process of code counts a step where it is at a step, and one action at each answer.
use Rattle.std.proofs.Common.{◌≡◌, ℕ, suc, List, [], ◌∷◌, Bool, true, false, cond, Option, Some, None, option_and_then, refl, sym, ap, subst, ◌∙◌}
use mathlib.Core.Bool.{false≢true}
use Rattle.herm_model.specs.Values.{Name}
use Rattle.herm_model.proofs.Options.{none-not_some, some-injective}
use Rattle.herm_journal.specs.Messages.{CellAction}
use Rattle.herm_forms.specs.ClosesAndAnswers
use Rattle.herm_forms.specs.Frames.{Frame, counted_action}
use Rattle.herm_forms.proofs.KeptBodies
use Rattle.herm_instructions.specs.Actions.{is_step, is_action}
use Rattle.herm_instructions.specs.Images.{instruction_at}
use Rattle.herm_instructions.specs.Instructions.{Instruction, Step}
use Rattle.herm_code_machine.specs.CodeActions.{code_hears}
use Rattle.herm_code_machine.specs.CodeInstance.{own_name, code_at, code_machine, nameless_code}
use Rattle.herm_code_machine.specs.CodeStates.{Position, at_index, at_end, at_end_by, CodeState}
use Rattle.herm_code_machine.specs.CodeSteps.{CodeNext, an_item, a_reply, an_action, a_local_piece, nothing, code_next, counted_if, code_local_step, code_answered, step_next, settle_next}
use Rattle.herm_code_machine.specs.Pieces.{Piece, piece_by, piece_at}
use Rattle.herm_code_machine.specs.ReadyCode.{ReadyCode, ReadyImage}
use Rattle.herm_code_machine.specs.laws.CountLaws.{PutsAside, StepsAreCounted}
use Rattle.herm_code_machine.specs.laws.StandingLaws.{IsAtInstruction}
use Rattle.herm_code_machine.proofs.CodeLimits.{HasCounts, counts-kept, On, keeps, worked-counts, action-counts}
use Rattle.herm_code_machine.proofs.RunsKeep.{is-next, is-settled}
use Rattle.herm_code_machine.proofs.kept.KeptEffects.{as-all, keeps-hears}
use Rattle.herm_code_machine.proofs.sound.LocalSteps.{ComesNext, by_work, by_call, by_act, by_local, comes-next, step-piece, is-step}

pub puts-aside : (image : ReadyImage) → PutsAside (code_machine image)
puts-aside image = record { counts = λ x. refl; same = λ x. refl }

pub nameless-puts_aside : (image : ReadyImage) → PutsAside (nameless_code image)
nameless-puts_aside image = record { counts = λ x. refl; same = λ x. refl }

pub not-both : {X A : Type 0} (x : X) (xs : List X) → x ∷ xs ≡ [] → A
not-both x xs e = absurd (cc)

module _ (c : ReadyCode) where
  -- the step of a piece that begins with one
  step-there : (position : Position) (p : Piece) → piece_at c position ≡ Some p → p.has_step ≡ true → (i : ℕ) × (position ≡ at_index i) × (instruction_at c.code i ≡ Some Step)
  step-there at_end p at has = none-not_some at
  step-there (at_end_by e) p at has = none-not_some at
  step-there (at_index i) p at has = by (instruction_at c.code i) refl at
    where
      Found : Type 0
      Found = (j : ℕ) × (at_index i ≡ at_index j) × (instruction_at c.code j ≡ Some Step)

      acting : (t : Bool) → cond t (Some (record { has_step = false; first = i })) None ≡ Some p → Found
      acting true is = absurd (false≢true (ap (λ (p : Piece). p.has_step) (some-injective is) ∙ has))
      acting false is = none-not_some is

      stepping : (instruction : Instruction) → instruction_at c.code i ≡ Some instruction → (t : Bool) → is_step instruction ≡ t
          → cond t (Some (record { has_step = true; first = suc i })) (cond (is_action c.scope.types instruction) (Some (record { has_step = false; first = i })) None) ≡ Some p → Found
      stepping instruction there true e is = (i, refl, there ∙ ap (λ x. Some x) (is-step instruction e))
      stepping instruction there false e is = acting (is_action c.scope.types instruction) is

      by : (o : Option Instruction) → instruction_at c.code i ≡ o → piece_by c.scope.types i o ≡ Some p → Found
      by None there is = none-not_some is
      by (Some instruction) there is = stepping instruction there (is_step instruction) refl is

  module _ (x y : CodeState Name) where
    local-begins : (next : CodeNext Name) → ComesNext c x next → step_next own_name c x next ≡ Some y → (i : ℕ) × IsAtInstruction c x i Step
    local-begins (a_local_piece p) (by_local p' idle closed at none) is = let st = step-piece c x.position p at none in (st.index, (idle, closed, st.at, st.step))
    local-begins (an_item item work) next is = none-not_some is
    local-begins (a_reply k i instruction) next is = none-not_some is
    local-begins (an_action p met) next is = none-not_some is
    local-begins nothing next is = none-not_some is

    local-counts : (next : CodeNext Name) → ComesNext c x next → step_next own_name c x next ≡ Some y → HasCounts (suc x.frame.steps) x.frame.actions y.frame
    local-counts (a_local_piece p) (by_local p' idle closed at none) is =
        let st = step-piece c x.position p at none in
        let counted : HasCounts (suc x.frame.steps) x.frame.actions (counted_if p.has_step x.frame) = subst (λ (p : Piece). HasCounts (suc x.frame.steps) x.frame.actions (counted_if p.has_step x.frame)) (sym st.is) (refl, refl) in
        (is-next own_name c On (HasCounts (suc x.frame.steps) x.frame.actions) (keeps c (suc x.frame.steps) x.frame.actions)
        (record { module_number = x.module_number; position = at_index p.first; stack = x.stack; frame = counted_if p.has_step x.frame }) y counted tt is).0
    local-counts (an_item item work) next is = none-not_some is
    local-counts (a_reply k i instruction) next is = none-not_some is
    local-counts (an_action p met) next is = none-not_some is
    local-counts nothing next is = none-not_some is

    module _ (at : ℕ) (a : CellAction Name) where
      abbrev steps-of : CodeNext Name → ℕ
      steps-of (an_action p met) = (counted_if p.has_step x.frame).steps
      steps-of next = x.frame.steps

      counted-by : (t : Bool) → HasCounts (counted_if t x.frame).steps (suc x.frame.actions) (counted_action (counted_if t x.frame))
      counted-by true = (refl, refl)
      counted-by false = (refl, refl)

      answer-counts : (image : ReadyImage) (next : CodeNext Name) → settle_next own_name c x at a next ≡ Some y → HasCounts (steps-of next) (suc x.frame.actions) y.frame
      answer-counts image (an_item item work) is =
          let n = x.frame.steps in
          let m = suc x.frame.actions in
          let b : Frame Name = counted_action (record (x.frame) { work = work }) in
          worked-counts image n m x y (ClosesAndAnswers.work_done item a b) (as-all own_name (HasCounts n m) (counts-kept n m) (λ ls b h. h) (ClosesAndAnswers.work_done item a b) (KeptBodies.all-work (HasCounts n m) ((counts-kept n m).letting) item a b (refl, refl))) is
      answer-counts image (a_reply call i instruction) is =
          let n = x.frame.steps in
          let m = suc x.frame.actions in
          (is-settled own_name c On (HasCounts n m) (keeps c n m) x y i instruction x.stack (code_hears instruction call a (counted_action x.frame)) tt
          (keeps-hears own_name (HasCounts n m) (counts-kept n m) (λ ls b h. h) instruction call a (counted_action x.frame) (refl, refl)) is).0
      answer-counts image (an_action p met) is = action-counts image c x y p met at (counted_if p.has_step x.frame).steps (suc x.frame.actions) a (counted-by p.has_step) is
      answer-counts image (a_local_piece p) is = none-not_some is
      answer-counts image nothing is = none-not_some is

      one-more : (next : CodeNext Name) → ComesNext c x next → (i : ℕ) → IsAtInstruction c x i Step → settle_next own_name c x at a next ≡ Some y → steps-of next ≡ suc x.frame.steps
      one-more (an_item item work) (by_work i' w front) i here is = not-both item work (sym front ∙ here.0)
      one-more (a_reply k j instruction) (by_call k' met idle opened there) i here is = none-not_some (sym here.1 ∙ opened)
      one-more (an_action p met) (by_act p' m' idle closed at' found) i here is =
          let same : p ≡ record { has_step = true; first = suc i } = some-injective (sym at' ∙ ap (piece_at c) here.2 ∙ ap (piece_by c.scope.types i) here.3) in
          ap (λ (p : Piece). (counted_if p.has_step x.frame).steps) same
      one-more (a_local_piece p) next i here is = none-not_some is
      one-more nothing next i here is = none-not_some is

      as-many : (next : CodeNext Name) → ComesNext c x next → ((i : ℕ) → IsAtInstruction c x i Step → ⊥) → steps-of next ≡ x.frame.steps
      as-many (an_action p met) (by_act p' m' idle closed at' found) other = by p.has_step refl
        where
          by : (t : Bool) → p.has_step ≡ t → (counted_if t x.frame).steps ≡ x.frame.steps
          by false e = refl
          by true e = let st = step-there x.position p at' e in absurd (other st.0 (idle, closed, st.1, st.2))
      as-many (an_item item work) next other = refl
      as-many (a_reply k j instruction) next other = refl
      as-many (a_local_piece p) next other = refl
      as-many nothing next other = refl

pub steps-counted : StepsAreCounted
steps-counted image c = record {
  begins = λ x y coded is. local-begins c x y (code_next c x) (comes-next c x) (local x y coded is);
  local_steps = λ x y coded is. local-counts c x y (code_next c x) (comes-next c x) (local x y coded is);
  answers = λ x y at a coded is. (answer-counts c x y at a image (code_next c x) (answer x y at a coded is)).1;
  at_steps = λ x y at a coded is i here. (answer-counts c x y at a image (code_next c x) (answer x y at a coded is)).0 ∙ one-more c x y at a (code_next c x) (comes-next c x) i here (answer x y at a coded is);
  elsewhere = λ x y at a coded is other. (answer-counts c x y at a image (code_next c x) (answer x y at a coded is)).0 ∙ as-many c x y at a (code_next c x) (comes-next c x) other;
}
  where
    local : (x y : CodeState Name) → code_at image x ≡ Some c → (code_machine image).local_step x ≡ Some y → code_local_step own_name c x ≡ Some y
    local x y coded is = sym (ap (option_and_then (λ c. code_local_step own_name c x)) coded) ∙ is

    answer : (x y : CodeState Name) (at : ℕ) (a : CellAction Name) → code_at image x ≡ Some c → (code_machine image).answered x at a ≡ Some y → code_answered own_name c x at a ≡ Some y
    answer x y at a coded is = sym (ap (option_and_then (λ c. code_answered own_name c x at a)) coded) ∙ is
