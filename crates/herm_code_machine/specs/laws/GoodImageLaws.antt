-- What is claimed of the processes of images whose code is good.
use Rattle.std.specs.Prelude.{ℕ, List, map, false, Option, Some, None, slice_get, IsTrue, ⊤, ◌≡◌}
use Rattle.herm_model.specs.Lists.{IsIn}
use Rattle.herm_model.specs.FactsOfValues.{HasExactly}
use Rattle.herm_model.specs.Statements.{Differ}
use Rattle.herm_model.specs.Typed.{HaveTypes}
use Rattle.herm_model.specs.Values.{an_inport, cell, no_parts, Value}
use Rattle.herm_model.specs.WellFormedTables.{IsWellFormedTable}
use Rattle.herm_journal.specs.Messages.{CellWant, CellAction, AreFull}
use Rattle.herm_forms.specs.Frames.{Name, Loop, Frame, goes}
use Rattle.herm_system.specs.Machines.{is_local, is_acting}
use Rattle.herm_system.specs.Suiting.{Answers, Suits}
use Rattle.herm_sound.specs.SoundMachines.{CallMoves}
use Rattle.herm_instructions.specs.Instructions.{Instruction, End, EndBy}
use Rattle.herm_instructions.specs.Labels.{Label}
use Rattle.herm_instructions.specs.Images.{CodeModule, Image}
use Rattle.herm_instructions.specs.Effects.{label_behind}
use Rattle.herm_instructions.specs.Places.{Way, Place, ways, label_at}
use Rattle.herm_instructions.specs.GoodCode.{IsGoodModule, IsGood, OfEachInstruction, OfEachLabelled}
use Rattle.herm_code_machine.specs.ReadyCode.{ReadyCode, ReadyImage, ready_code, labelled_image}
use Rattle.herm_code_machine.specs.Effects.{effect}
use Rattle.herm_code_machine.specs.CodeStates.{CodeState, begins_piece, leads, stack_after}
use Rattle.herm_code_machine.specs.CodeLocal.{AreSlots, IsSoundCodeIn}
use Rattle.herm_code_machine.specs.CodeInstance.{code_machine}

-- the instruction is an end
abbrev pub IsEnd : Instruction → Type 0
IsEnd End = ⊤
IsEnd (EndBy e) = ⊤
IsEnd i = ⊥

-- An image is good over a well-formed table of types, where there are so many exceptions.
pub record IsGoodOver (exceptions : ℕ) (image : Image) : Type 0 where
  pub good : IsGood exceptions image
  pub table : IsWellFormedTable exceptions image.types

-- the code of a module with the labels of good code
abbrev pub labelled_code : Image → CodeModule → ReadyCode
labelled_code image m = ready_code image (label_at image.types image.constants) m

-- Variables, stack and slots are what a label says: values exactly where its facts say, each of its type; full values of its types on the
-- stack; and a list of full rows for each of its slots, one for each number. Code reference, "Sound states of code".
pub record IsAsLabelled (c : ReadyCode) (l : Label) (values : List Value) (b : Frame Name) : Type 0 where
  pub values_exact : HasExactly b.variables (λ f. IsIn f l.facts)
  pub types : HaveTypes c.scope.types c.scope.variables b.variables
  pub stack : AreFull c.scope.types l.stack values
  pub slots : AreSlots c.scope.types l.slots b.loops
  pub slots_differ : Differ (map (λ (l : Loop Name). l.statement) b.loops)

-- In good code each way of an instruction is where the machine goes with the way's outcome. Code reference, "Ways".
abbrev pub OutcomesLead : Type 0
OutcomesLead = (exceptions : ℕ) (image : Image) (m : CodeModule) → IsGoodModule exceptions image m → (labels : CodeModule → ℕ → Option Label)
    → OfEachInstruction exceptions image m (λ p. (w : Way) → IsIn w (ways p) → leads (ready_code image labels m) p.index p.instruction w.outcome ≡ Some w.index)

-- An instruction comes to the outcome of one of its ways, and leaves what the label behind that says.
pub record GoesAlong (image : Image) (m : CodeModule) (name : Name → Name) (p : Place) (l : Label) (stack : List Value) (b : Frame Name) : Type 0 where
  pub way : Way
  pub is_way : IsIn way (ways p)
  pub frame : Frame Name
  pub completes : (effect name (labelled_code image m) p.instruction stack b).completion ≡ goes way.outcome frame
  pub behind : IsAsLabelled (labelled_code image m) (label_behind image.types m.variables image.constants p.instruction way.outcome l) (stack_after way.outcome (effect name (labelled_code image m) p.instruction stack b).stack) frame

-- Of a good image, each instruction that is neither a step, nor an action, nor an end finds its operands wherever variables, stack and
-- slots are what its label says: it goes along one of its ways. Code reference, "Good code".
abbrev pub InstructionsFindOperands : Type 0
InstructionsFindOperands = (exceptions : ℕ) (image : Image) → IsGoodOver exceptions image → (m : CodeModule) → IsIn m image.modules → (name : Name → Name)
    → OfEachLabelled exceptions image m (λ p l. (IsEnd p.instruction → ⊥) → begins_piece (labelled_code image m) p.instruction ≡ false → (stack : List Value) (b : Frame Name) → IsAsLabelled (labelled_code image m) l stack b → GoesAlong image m name p l stack b)

-- Of a good image a process begins with the inport of a port, sound within itself; behind a local step it is so if it was before, with the
-- same call; and where a local step is next, it is there. Code reference, "Sound states of code".
pub record StepsAreSound (image : ReadyImage) : Type 0 where
  pub begins : (code number port : ℕ) (n : Name) → (c : ReadyCode) → slice_get image.codes code ≡ Some c
      → (x : CodeState Name) × ((code_machine image).begin code number (cell n (an_inport port) no_parts) ≡ Some x) × IsSoundCodeIn image x × ((code_machine image).open_call x ≡ None)
  pub steps : (x y : CodeState Name) → IsSoundCodeIn image x → (code_machine image).local_step x ≡ Some y → IsSoundCodeIn image y × ((code_machine image).open_call y ≡ (code_machine image).open_call x)
  pub steps_there : (limit : ℕ) (x : CodeState Name) → IsSoundCodeIn image x → IsTrue (is_local ((code_machine image).ready limit x)) → (y : CodeState Name) × ((code_machine image).local_step x ≡ Some y)

abbrev pub LocalStepsAreSound : Type 0
LocalStepsAreSound = (exceptions : ℕ) (image : Image) (main : ℕ) → IsGoodOver exceptions image → StepsAreSound (labelled_image image main)

-- Of a good image, where a process is sound within itself and an action is next, something is wanted; and each answer to it is taken, where
-- what comes in suits, and leaves the process sound within itself. A call is opened where its callmessage is placed, and closed where its
-- reply is heard. Code reference, "Sound states of code".
pub record ActionsAreSound (image : ReadyImage) : Type 0 where
  pub wants : (limit : ℕ) (x : CodeState Name) → IsSoundCodeIn image x → IsTrue (is_acting ((code_machine image).ready limit x)) → (want : CellWant Name) × ((code_machine image).wanted x ≡ Some want)
  pub answers : (x : CodeState Name) (want : CellWant Name) (at : ℕ) (a : CellAction Name) → IsSoundCodeIn image x → (code_machine image).wanted x ≡ Some want → Answers want a → Suits (code_machine image) x at a
      → (y : CodeState Name) × ((code_machine image).answered x at a ≡ Some y) × IsSoundCodeIn image y × CallMoves (code_machine image) x y a

abbrev pub AnswersAreSound : Type 0
AnswersAreSound = (exceptions : ℕ) (image : Image) (main : ℕ) → IsGoodOver exceptions image → ActionsAreSound (labelled_image image main)
