-- Every instruction of good code that is neither a step, nor an action, nor an end.
use Rattle.std.proofs.Common.{◌≡◌, ℕ, List, false, Option, true≢false}
use Rattle.herm_model.specs.Lists.{IsIn}
use Rattle.herm_model.specs.Expressions.{Literal}
use Rattle.herm_model.specs.Outcomes.{Outcome}
use Rattle.herm_model.specs.TypedExpressions.{IsLiteralOf}
use Rattle.herm_model.specs.Values.{Value}
use Rattle.herm_model.specs.WellFormedTables.{IsType, IsWellFormedTable}
use Rattle.herm_forms.specs.Frames.{Name, Frame}
use Rattle.herm_instructions.specs.Instructions.{Instruction, Const, Load, Size, Apply, Combine, Store, Jump, JumpFalse, Move, New, Discard, Unite, Dissolve, Reveal, CaseOf, Wrap, Unwrap, Insert, Remove, Get, LoopStart, LoopNext, LoopDrop, Connect, Raise, Drop, End, EndBy}
use Rattle.herm_instructions.specs.Labels.{Label}
use Rattle.herm_instructions.specs.Images.{CodeModule, Image}
use Rattle.herm_instructions.specs.Operands.{type_of_literal}
use Rattle.herm_code_machine.specs.ReadyCode.{ready_code}
use Rattle.herm_code_machine.specs.Effects.{effect}
use Rattle.herm_code_machine.specs.CodeStates.{begins_piece}
use Rattle.herm_code_machine.specs.laws.GoodImageLaws.{IsEnd}
use Rattle.herm_code_machine.proofs.sound.AtLabels.{Holds, Finds, GoesWell}
use Rattle.herm_code_machine.proofs.sound.EachEffect as each
use Rattle.herm_code_machine.proofs.sound.KeyEffects as keys
use Rattle.herm_code_machine.proofs.sound.LoopEffects as loops

module _ (x : ℕ) (image : Image) (formed : IsWellFormedTable x image.types) (ls : (l : Literal) → IsIn l image.constants → IsLiteralOf image.types l (type_of_literal l))
    (m : CodeModule) (known : (t : ℕ) → IsIn t m.variables → IsType image.types t) (labels : CodeModule → ℕ → Option Label) (name : Name → Name) (W : Outcome → Type 0)
    (l : Label) (stack : List Value) (b : Frame Name) (h : Holds (ready_code image labels m) l stack b) where
  abbrev Goes : Instruction → Type 0
  Goes i = GoesWell x image m W (ready_code image labels m) i l (effect name (ready_code image labels m) i stack b)

  pub each-instruction : (i : Instruction) → (IsEnd i → ⊥) → begins_piece (ready_code image labels m) i ≡ false → Finds x image m W i l → Goes i
  each-instruction (Const k) no_end other f = each.const-goes x image formed ls m known labels name W l stack b h k f
  each-instruction (Load p) no_end other f = each.load-goes x image formed ls m known labels name W l stack b h p f
  each-instruction (Size p) no_end other f = each.size-goes x image formed ls m known labels name W l stack b h p f
  each-instruction (Apply u) no_end other f = each.apply-goes x image formed ls m known labels name W l stack b h u f
  each-instruction (Combine o) no_end other f = each.combine-goes x image formed ls m known labels name W l stack b h o f
  each-instruction (Store p) no_end other f = each.store-goes x image formed ls m known labels name W l stack b h p f
  each-instruction (Jump j) no_end other f = each.jump-goes x image formed ls m known labels name W l stack b h j f
  each-instruction (JumpFalse j) no_end other f = each.test-goes x image formed ls m known labels name W l stack b h j f
  each-instruction (Move y p) no_end other f = each.move-goes x image formed ls m known labels name W l stack b h y p f
  each-instruction (New p t) no_end other f = each.new-goes x image formed ls m known labels name W l stack b h p t f other
  each-instruction (Discard p) no_end other f = each.discard-goes x image formed ls m known labels name W l stack b h p f
  each-instruction (Unite v k y) no_end other f = each.unite-goes x image formed ls m known labels name W l stack b h v k y f
  each-instruction (Dissolve v k y) no_end other f = each.dissolve-goes x image formed ls m known labels name W l stack b h v k y f
  each-instruction (Reveal v k) no_end other f = each.reveal-goes x image formed ls m known labels name W l stack b h v k f
  each-instruction (CaseOf v indices) no_end other f = each.case-goes x image formed ls m known labels name W l stack b h v indices f
  each-instruction (Wrap y t p) no_end other f = each.wrap-goes x image formed ls m known labels name W l stack b h y t p f
  each-instruction (Unwrap p t y) no_end other f = each.unwrap-goes x image formed ls m known labels name W l stack b h p t y f
  each-instruction (Insert r t) no_end other f = each.insert-goes x image formed ls m known labels name W l stack b h r t f
  each-instruction (Remove r t n) no_end other f = keys.remove-goes x image formed ls m known labels name W l stack b h r t n f
  each-instruction (Get r t n) no_end other f = keys.get-goes x image formed ls m known labels name W l stack b h r t n f
  each-instruction (LoopStart t s) no_end other f = loops.start-goes x image formed ls m known labels name W l stack b h t s f
  each-instruction (LoopNext r s j) no_end other f = loops.next-goes x image formed ls m known labels name W l stack b h r s j f
  each-instruction (LoopDrop s) no_end other f = loops.end-goes x image formed ls m known labels name W l stack b h s f
  each-instruction (Connect o p) no_end other f = each.connect-goes x image formed ls m known labels name W l stack b h o p f
  each-instruction (Raise e) no_end other f = each.raise-goes x image formed ls m known labels name W l stack b h e f
  each-instruction (Drop p) no_end other f = each.drop-goes x image formed ls m known labels name W l stack b h p f
  each-instruction End no_end other f = absurd (no_end tt)
  each-instruction (EndBy e) no_end other f = absurd (no_end tt)
  each-instruction i no_end other f = absurd (true≢false other)
